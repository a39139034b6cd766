-- When two machines have the same inputs and outputs.
use Rattle.std.specs.Prelude.{ℕ, Bool, true, false, not, ◌&&◌, cond, List, [], ◌∷◌, Option, Some, None}
use Rattle.std.specs.Option.{option_or}
use Rattle.std.specs.Str.{bytes_eq}
use Rattle.fs_model.specs.declared.parts.Role.{Role}
use Rattle.fs_model.specs.declared.parts.Role.TheVariants.{Input, Output, Local}
use Rattle.fs_model.specs.declared.parts.Sort.{Sort}
use Rattle.fs_model.specs.declared.parts.Sort.TheVariants.{Scalar, Array, Port}
use Rattle.fs_model.specs.declared.parts.VarInfo.{VarInfo}
use Rattle.fs_model.specs.Machines.{Fsmd}

-- whether a variable is an input or an output
abbrev pub is_interface : Role → Bool
is_interface Input = true
is_interface Output = true
is_interface Local = false

-- whether two roles are one
abbrev pub same_role : Role → Role → Bool
same_role Input Input = true
same_role Output Output = true
same_role Local Local = true
same_role r q = false

-- the first variable of a name
abbrev pub variable_named : List VarInfo → List ℕ → Option VarInfo
variable_named [] name = None
variable_named (v ∷ vs) name = cond (bytes_eq v.name name) (Some v) (variable_named vs name)

-- whether two sorts are one
abbrev pub same_sort : Sort → Sort → Bool
same_sort Scalar Scalar = true
same_sort Array Array = true
same_sort Port Port = true
same_sort s t = false

-- whether a variable was found and has the role and the sort of another
abbrev pub is_like : VarInfo → Option VarInfo → Bool
is_like v None = false
is_like v (Some u) = same_role v.role u.role && same_sort v.sort u.sort

-- whether an input or output is absent from the others, or has another role or sort there
abbrev pub lacks_match : List VarInfo → VarInfo → Bool
lacks_match others v = is_interface v.role && not (is_like v (variable_named others v.name))

-- the name of the first input or output that has no match among the others
abbrev pub first_unmatched : List VarInfo → List VarInfo → Option (List ℕ)
first_unmatched [] others = None
first_unmatched (v ∷ vs) others = cond (lacks_match others v) (Some v.name) (first_unmatched vs others)

-- the first input or output of a without match in b, else the first of b without match in a
abbrev pub interface_fault : Fsmd → Fsmd → Option (List ℕ)
interface_fault a b = option_or (first_unmatched a.variables b.variables) (first_unmatched b.variables a.variables)

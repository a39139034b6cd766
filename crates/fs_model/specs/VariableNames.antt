-- The names of variables.
use Rattle.std.specs.Prelude.{List, None, Option, Some, [], ℕ, slice_get}
use Rattle.fs_model.specs.declared.parts.VarInfo.{VarInfo}

abbrev pub name_or_nothing : Option VarInfo → List ℕ
name_or_nothing None = []
name_or_nothing (Some v) = v.name

-- the name of a variable
abbrev pub variable_name : List VarInfo → ℕ → List ℕ
variable_name vs x = name_or_nothing (slice_get vs x)

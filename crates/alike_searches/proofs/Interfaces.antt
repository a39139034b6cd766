-- Machines that declare the same have the same inputs and outputs.
use Rattle.std.proofs.Common.{◌≡◌, ℕ, zero, suc, refl, ap, ap₂, sym, ◌∙◌, Bool, true, false, cond, List, [], ◌∷◌, map, Option, None, Some}
use Rattle.std.specs.Prelude.{not, ◌&&◌, slice_get}
use Rattle.std.specs.Option.{option_or}
use Rattle.std.specs.Str.{bytes_eq}
use Rattle.std.proofs.lemmas.Slice.Eq.{bytes_eq-Decides}
use Rattle.fs_model.specs.SoundMachines.{names_differ}
use Rattle.fs_model.specs.declared.parts.Role.{Role}
use Rattle.fs_model.specs.declared.parts.Role.TheVariants.{Input, Output, Local}
use Rattle.fs_model.specs.declared.parts.VarInfo.{VarInfo}
use Rattle.fs_model.specs.Machines.{Fsmd}
use Rattle.fs_pair.specs.Interfaces.{is_interface, same_role, same_sort, variable_named, is_like, lacks_match, first_unmatched, interface_fault}
use Rattle.fs_pair.proofs.Tests.{same_sort_self}
use Rattle.cert_bisimulation.specs.Alike.{DeclareTheSame}
use Rattle.alike_searches.proofs.Coupled.{others_differ, not_again}

-- where names differ, the variable of a name is the one that has it
named_is : (vs : List VarInfo) (k : ℕ) (v : VarInfo) → names_differ (map (λ (z : VarInfo). z.name) vs) ≡ true → slice_get vs k ≡ Some v
    → variable_named vs v.name ≡ Some v
named_is [] k v d e = absurd (cc e)
named_is (w ∷ vs) zero v d e =
    let same : w ≡ v = cc e in
    let t : bytes_eq w.name v.name ≡ true = (bytes_eq-Decides w.name v.name).1 (ap (λ (z : VarInfo). z.name) same) in
    ap (λ b. cond {A = Option VarInfo} b (Some w) (variable_named vs v.name)) t ∙ ap Some same
named_is (w ∷ vs) (suc k) v d e = by_test (bytes_eq w.name v.name) refl ∙ named_is vs k v (others_differ w vs d) e
  where
    by_test : (b : Bool) → bytes_eq w.name v.name ≡ b → cond {A = Option VarInfo} b (Some w) (variable_named vs v.name) ≡ variable_named vs v.name
    by_test true t = absurd (not_again w vs d k v e (sym ((bytes_eq-Decides w.name v.name).0 t)))
    by_test false t = refl

own_role : (r : Role) (t : Bool) → t ≡ true → is_interface r && not (same_role r r && t) ≡ false
own_role Input t e = ap not e
own_role Output t e = ap not e
own_role Local t e = refl

not_lacking : (others : List VarInfo) (v : VarInfo) → variable_named others v.name ≡ Some v → lacks_match others v ≡ false
not_lacking others v e = ap (λ (o : Option VarInfo). is_interface v.role && not (is_like v o)) e
    ∙ own_role v.role (same_sort v.sort v.sort) (same_sort_self v.sort)

none_unmatched : (vs others : List VarInfo) → ((k : ℕ) (v : VarInfo) → slice_get vs k ≡ Some v → variable_named others v.name ≡ Some v)
    → first_unmatched vs others ≡ None
none_unmatched [] others h = refl
none_unmatched (v ∷ vs) others h =
    ap (λ t. cond {A = Option (List ℕ)} t (Some v.name) (first_unmatched vs others)) (not_lacking others v (h 0 v refl))
    ∙ none_unmatched vs others (λ k w e. h (suc k) w e)

abbrev pub OwnNames : Fsmd → Type 0
OwnNames m = names_differ (map (λ (z : VarInfo). z.name) m.variables) ≡ true

pub one_interface : (a b : Fsmd) → OwnNames a → OwnNames b → DeclareTheSame a b → interface_fault a b ≡ None
one_interface a b apart_a apart_b same =
    ap₂ option_or
    (none_unmatched a.variables b.variables (λ k v e. let y = same.forth k v e in named_is b.variables y.0 v apart_b y.1))
    (none_unmatched b.variables a.variables (λ k v e. let x = same.back k v e in named_is a.variables x.0 v apart_a x.1))

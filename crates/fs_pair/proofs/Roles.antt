-- A partner has the same role, where no input or output lacks a match.
use Rattle.std.proofs.Common.{◌≡◌, ℕ, zero, suc, List, [], ◌∷◌, map, ap, sym, refl, ◌∙◌, Option, Some, None, Bool, true, false, cond}
use Rattle.std.specs.Prelude.{not, ◌&&◌, slice_get}
use Rattle.std.specs.Str.{bytes_eq}
use Rattle.std.proofs.lemmas.Slice.Eq.{bytes_eq-Decides}
use Rattle.fs_model.proofs.Options.{option_or_first, option_or_second, cond_none}
use Rattle.fs_model.specs.SoundMachines.{IsSound, names_differ}
use Rattle.fs_model.specs.declared.parts.Role.{Role}
use Rattle.fs_model.specs.declared.parts.Role.TheVariants.{Input, Output, Local}
use Rattle.fs_model.specs.declared.parts.VarInfo.{VarInfo}
use Rattle.fs_model.specs.Machines.{Fsmd}
use Rattle.fs_model.specs.declared.sides.Side.{Side}
use Rattle.fs_model.specs.declared.sides.Side.TheVariants.{Left, Right}
use Rattle.fs_model.specs.Sides.{same_side}
use Rattle.fs_pair.specs.declared.positions.Position.{Position}
use Rattle.fs_pair.specs.Interfaces.{is_interface, same_role, same_sort, variable_named, is_like, lacks_match, first_unmatched, interface_fault}
use Rattle.fs_pair.specs.Partners.{variables_on, HasPartner}
use Rattle.fs_pair.proofs.Once.{another_name, others_differ}

-- where names differ, the variable of a name is the one that has it
own_name : (vs : List VarInfo) (j : ℕ) (v : VarInfo) → names_differ (map (λ u. u.name) vs) ≡ true → slice_get vs j ≡ Some v → variable_named vs v.name ≡ Some v
own_name [] j v h e = absurd (cc e)
own_name (u ∷ us) zero v h e =
    let s : u ≡ v = cc e in
    let t : bytes_eq u.name v.name ≡ true = (bytes_eq-Decides u.name v.name).1 (ap (λ (z : VarInfo). z.name) s) in
    ap (λ b. cond {A = Option VarInfo} b (Some u) (variable_named us v.name)) t ∙ ap Some s
own_name (u ∷ us) (suc j) v h e = by_test (bytes_eq u.name v.name) refl (own_name us j v (others_differ u us h) e)
  where
    by_test : (b : Bool) → bytes_eq u.name v.name ≡ b → variable_named us v.name ≡ Some v → cond b (Some u) (variable_named us v.name) ≡ Some v
    by_test true t r = absurd (another_name u us j v h e (sym ((bytes_eq-Decides u.name v.name).0 t)))
    by_test false t r = r

pub has_match : (vs others : List VarInfo) (j : ℕ) (v : VarInfo) → first_unmatched vs others ≡ None → slice_get vs j ≡ Some v → lacks_match others v ≡ false
has_match [] others j v u e = absurd (cc e)
has_match (x ∷ vs) others zero v u e = let s : x ≡ v = cc e in ap (lacks_match others) (sym s)
    ∙ (cond_none (lacks_match others x) x.name (first_unmatched vs others) u).0
has_match (x ∷ vs) others (suc j) v u e = has_match vs others j v (cond_none (lacks_match others x) x.name (first_unmatched vs others) u).1 e

-- two roles of which each matches the other, if it is one of the interface
one_role : (r q : Role) (c d : Bool) → is_interface r && not (same_role r q && c) ≡ false → is_interface q && not (same_role q r && d) ≡ false → r ≡ q
one_role Input Input c d h g = refl
one_role Input Output c d h g = absurd (cc h)
one_role Input Local c d h g = absurd (cc h)
one_role Output Input c d h g = absurd (cc h)
one_role Output Output c d h g = refl
one_role Output Local c d h g = absurd (cc h)
one_role Local Input c d h g = absurd (cc g)
one_role Local Output c d h g = absurd (cc g)
one_role Local Local c d h g = refl

-- a variable that matches the one of its name
matches : (others : List VarInfo) (v u : VarInfo) → variable_named others v.name ≡ Some u → lacks_match others v ≡ false
    → is_interface v.role && not (same_role v.role u.role && same_sort v.sort u.sort) ≡ false
matches others v u n l = sym (ap (λ o. is_interface v.role && not (is_like v o)) n) ∙ l

same_roles : (vs us : List VarInfo) (i j : ℕ) (v u : VarInfo) → names_differ (map (λ z. z.name) vs) ≡ true → names_differ (map (λ z. z.name) us) ≡ true
    → first_unmatched vs us ≡ None → first_unmatched us vs ≡ None
    → slice_get vs i ≡ Some v → slice_get us j ≡ Some u → u.name ≡ v.name → v.role ≡ u.role
same_roles vs us i j v u dv du f g e h n =
    one_role v.role u.role (same_sort v.sort u.sort) (same_sort u.sort v.sort)
    (matches us v u (ap (variable_named us) (sym n) ∙ own_name us j u du h) (has_match vs us i v f e))
    (matches vs u v (ap (variable_named vs) n ∙ own_name vs i v dv e) (has_match us vs j u g h))

module _ (a b : Fsmd) (sound : IsSound a) (other : IsSound b) (matched : interface_fault a b ≡ None) where
  roles_by : (d e : Side) (x y : ℕ) (v u : VarInfo) → same_side d e ≡ false → slice_get (variables_on d a b) x ≡ Some v
      → slice_get (variables_on e a b) y ≡ Some u → u.name ≡ v.name → u.role ≡ v.role
  roles_by Left Left x y v u s h g n = absurd (cc s)
  roles_by Left Right x y v u s h g n =
      let lefts = option_or_first (first_unmatched a.variables b.variables) (first_unmatched b.variables a.variables) matched in
      let rights = option_or_second (first_unmatched a.variables b.variables) (first_unmatched b.variables a.variables) matched in
      sym (same_roles a.variables b.variables x y v u sound.variables_differ other.variables_differ lefts rights h g n)
  roles_by Right Left x y v u s h g n =
      let lefts = option_or_first (first_unmatched a.variables b.variables) (first_unmatched b.variables a.variables) matched in
      let rights = option_or_second (first_unmatched a.variables b.variables) (first_unmatched b.variables a.variables) matched in
      sym (same_roles b.variables a.variables x y v u other.variables_differ sound.variables_differ rights lefts h g n)
  roles_by Right Right x y v u s h g n = absurd (cc s)

  pub partner_role : (p : Position) (j : ℕ) (h : HasPartner a b p j) → h.partner.role ≡ p.role
  partner_role p j h = h.partner_is.role
      ∙ roles_by p.pos.side h.partner.pos.side p.pos.var h.partner.pos.var h.variable h.other h.sides h.is.is h.partner_is.is h.name ∙ sym h.is.role

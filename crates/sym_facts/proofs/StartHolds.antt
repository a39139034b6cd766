-- The start fact holds of the two start stores.
use Rattle.std.proofs.Common.{◌≡◌, ℕ, suc, pos, List, [], ◌∷◌, ◌++◌, map, ap, sym, subst, refl, ◌∙◌, Option, Some, None, Bool, true, false, cond}
use Rattle.std.specs.Prelude.{not, ◌&&◌, option_map, slice_get}
use Rattle.std.specs.Str.{bytes_eq}
use Rattle.std.proofs.lemmas.Slice.Eq.{bytes_eq-Decides}
use Rattle.fs_model.proofs.Options.{option_or_second}
use Rattle.fs_model.specs.SoundMachines.{IsSound}
use Rattle.fs_model.specs.declared.parts.Role.{Role}
use Rattle.fs_model.specs.declared.parts.Role.TheVariants.{Input, Output, Local}
use Rattle.fs_model.specs.declared.parts.Sort.{Sort}
use Rattle.fs_model.specs.declared.parts.Sort.TheVariants.{Scalar, Array, Port}
use Rattle.fs_model.specs.declared.parts.VarInfo.{VarInfo}
use Rattle.fs_model.specs.Machines.{Fsmd}
use Rattle.fs_model.specs.Runs.{Inputs, start, first_scalar, first_array, is_input, is_scalar, is_array}
use Rattle.fs_pair.specs.declared.positions.Position.{Position}
use Rattle.fs_pair.specs.Interfaces.{is_interface, same_role, same_sort, variable_named, is_like, first_unmatched, interface_fault}
use Rattle.fs_pair.specs.Positions.{positions}
use Rattle.fs_pair.specs.Partners.{variables_on, IsVariable, HasPartner}
use Rattle.fs_pair.proofs.Once.{own_number}
use Rattle.fs_pair.proofs.Variables.{stands_for, has_partner}
use Rattle.fs_pair.proofs.Roles.{has_match}
use Rattle.nf_terms.specs.declared.form.Nf.{Nf}
use Rattle.nf_terms.specs.TermMeaning.{Valuation}
use Rattle.fs_model.specs.declared.sides.Pos.{Pos}
use Rattle.fs_model.specs.declared.sides.Side.{Side}
use Rattle.fs_model.specs.declared.sides.Side.TheVariants as side
use Rattle.fs_model.specs.Sides.{same_side}
use Rattle.sym_paths.specs.ValuationStores.{choose_side, pair}
use Rattle.sym_facts.specs.Facts.{own_symbol, EquationHolds, EquationsHold, Holds}
use Rattle.sym_facts.specs.Starts.{zero_of, input_form, start_form, partner_in, start_position, start_fact}
use Rattle.sym_facts.proofs.FactVectors.{symbol_value}

-- ---- the left input of a right one

-- the variable of a name, and its number
record Named (vs : List VarInfo) (name : List ℕ) (u : VarInfo) : Type 0 where
  number : ℕ
  at : slice_get vs number ≡ Some u
  same : u.name ≡ name

named_at : (vs : List VarInfo) (name : List ℕ) (u : VarInfo) → variable_named vs name ≡ Some u → Named vs name u
named_at [] name u e = absurd (cc e)
named_at (v ∷ vs) name u e = by_test (bytes_eq v.name name) refl e (λ g. named_at vs name u g)
  where
    by_test : (b : Bool) → bytes_eq v.name name ≡ b → cond b (Some v) (variable_named vs name) ≡ Some u → (variable_named vs name ≡ Some u → Named vs name u)
        → Named (v ∷ vs) name u
    by_test true t g again =
        let s : v ≡ u = cc g in
        record { number = 0; at = ap Some s; same = ap (λ (z : VarInfo). z.name) (sym s) ∙ (bytes_eq-Decides v.name name).0 t }
    by_test false t g again = let r = again g in record { number = suc r.number; at = r.at; same = r.same }

input_like : (q : Role) (c : Bool) → not (same_role Input q && c) ≡ false → q ≡ Input
input_like Input c h = refl
input_like Output c h = absurd (cc h)
input_like Local c h = absurd (cc h)

-- an input's match is an input
match_is_input : (v : VarInfo) (o : Option VarInfo) (r : Role) → v.role ≡ r → r ≡ Input → is_interface r && not (is_like v o) ≡ false
    → (u : VarInfo) × (o ≡ Some u) × (u.role ≡ Input)
match_is_input v None Input e f h = absurd (cc h)
match_is_input v (Some u) Input e f h =
    (u, refl, input_like u.role (same_sort v.sort u.sort) (ap (λ r. not (same_role r u.role && same_sort v.sort u.sort)) (sym e) ∙ h))
match_is_input v o Output e f h = absurd (cc f)
match_is_input v o Local e f h = absurd (cc f)

pub left_side : (d e : Side) → d ≡ side.Right → same_side d e ≡ false → e ≡ side.Left
left_side d side.Left f h = refl
left_side side.Left side.Right f h = absurd (cc f)
left_side side.Right side.Right f h = absurd (cc h)

module _ (a b : Fsmd) (sound : IsSound a) (matched : interface_fault a b ≡ None) where
  pub partner_is_input : (p : Position) (j : ℕ) (h : HasPartner a b p j) → p.role ≡ Input → p.pos.side ≡ side.Right → h.partner.role ≡ Input
  partner_is_input p j h r d =
      let v = h.variable in
      let u = h.other in
      let l : h.partner.pos.side ≡ side.Left = left_side p.pos.side h.partner.pos.side d h.sides in
      let at_b : slice_get b.variables p.pos.var ≡ Some v = ap (λ s. slice_get (variables_on s a b) p.pos.var) (sym d) ∙ h.is.is in
      let at_a : slice_get a.variables h.partner.pos.var ≡ Some u = ap (λ s. slice_get (variables_on s a b) h.partner.pos.var) (sym l) ∙ h.partner_is.is in
      let lacks = has_match b.variables a.variables p.pos.var v
      (option_or_second (first_unmatched a.variables b.variables) (first_unmatched b.variables a.variables) matched) at_b in
      let m = match_is_input v (variable_named a.variables v.name) v.role refl (sym h.is.role ∙ r) lacks in
      let n = named_at a.variables v.name m.0 m.1 in
      let k : h.partner.pos.var ≡ n.number = own_number a.variables h.partner.pos.var n.number u m.0 sound.variables_differ at_a n.at (h.name ∙ sym n.same) in
      let o : Some u ≡ Some m.0 = sym at_a ∙ ap (slice_get a.variables) k ∙ n.at in
      let q : u ≡ m.0 = cc o in
      h.partner_is.role ∙ ap (λ (z : VarInfo). z.role) q ∙ m.2

-- ---- the forms of the start fact: none, zero, and for a right input the symbol of the left one
pub by_form : (a b : Fsmd) (P : Option Nf → Type 0) (k : ℕ) (p : Position) → slice_get (positions a b) k ≡ Some p → P None
    → (is_input p.role ≡ false → P (Some (zero_of p.sort)))
    → ((j : ℕ) (h : HasPartner a b p j) → p.role ≡ Input → p.pos.side ≡ side.Right → P (Some (own_symbol p.sort h.partner.pos)))
    → P (start_position (positions a b) p).equation
by_form a b P k p e free zeroed symbol = by_role p.role refl p.pos.side refl p.partner refl
  where
    by_role : (r : Role) → p.role ≡ r → (d : Side) → p.pos.side ≡ d → (o : Option ℕ) → p.partner ≡ o → P (start_form r d p.sort (partner_in (positions a b) o))
    by_role Output r d f o g = zeroed (ap is_input r)
    by_role Local r d f o g = zeroed (ap is_input r)
    by_role Input r side.Left f o g = free
    by_role Input r side.Right f None g = free
    by_role Input r side.Right f (Some j) g =
        let h = has_partner a b k j p e g in
        let form : input_form side.Right p.sort (partner_in (positions a b) (Some j)) ≡ Some (own_symbol p.sort h.partner.pos) =
        ap (λ (z : Option Position). input_form side.Right p.sort (option_map (λ q. q.pos) z)) h.at in
        subst P (sym form) (symbol j h r f)

-- ---- what the start stores hold
module _ (a b : Fsmd) (inputs : Inputs) where
  abbrev starts : Valuation
  starts = pair (start a inputs) (start b inputs)

  scalar_at : (q : Pos) (v : VarInfo) → slice_get (variables_on q.side a b) q.var ≡ Some v → starts.scalar q ≡ first_scalar inputs (Some v)
  scalar_at q v e = by_side q.side e
    where
      by_side : (d : Side) → slice_get (variables_on d a b) q.var ≡ Some v
          → (choose_side d (start a inputs) (start b inputs)).scalar q.var ≡ first_scalar inputs (Some v)
      by_side side.Left g = ap (first_scalar inputs) g
      by_side side.Right g = ap (first_scalar inputs) g

  array_at : (q : Pos) (v : VarInfo) → slice_get (variables_on q.side a b) q.var ≡ Some v → starts.array q ≡ first_array inputs (Some v)
  array_at q v e = by_side q.side e
    where
      by_side : (d : Side) → slice_get (variables_on d a b) q.var ≡ Some v
          → (choose_side d (start a inputs) (start b inputs)).array q.var ≡ first_array inputs (Some v)
      by_side side.Left g = λ k i. first_array inputs (g k) i
      by_side side.Right g = λ k i. first_array inputs (g k) i

  list_at : (q : Pos) → starts.list q ≡ []
  list_at q = by_side q.side
    where
      by_side : (d : Side) → (choose_side d (start a inputs) (start b inputs)).port q.var ≡ []
      by_side side.Left = refl
      by_side side.Right = refl

  zero_holds : (p : Position) (v : VarInfo) → IsVariable a b p v → is_input p.role ≡ false → (s : Sort) → EquationHolds starts p.pos (Some (zero_of s))
  zero_holds p v h r Scalar = scalar_at p.pos v h.is ∙ ap (λ x. cond (x && is_scalar v.sort) (inputs.scalar v.name) (pos 0)) (ap is_input (sym h.role) ∙ r)
  zero_holds p v h r Array = array_at p.pos v h.is ∙ (λ k i. cond ((ap is_input (sym h.role) ∙ r) k && is_array v.sort) (inputs.array v.name i) (pos 0))
  zero_holds p v h r Port = list_at p.pos

  same_scalar : (v u : VarInfo) → v.role ≡ u.role → v.sort ≡ u.sort → v.name ≡ u.name → first_scalar inputs (Some v) ≡ first_scalar inputs (Some u)
  same_scalar v u r s n = λ k. cond (is_input (r k) && is_scalar (s k)) (inputs.scalar (n k)) (pos 0)

  same_array : (v u : VarInfo) → v.role ≡ u.role → v.sort ≡ u.sort → v.name ≡ u.name → first_array inputs (Some v) ≡ first_array inputs (Some u)
  same_array v u r s n = λ k i. cond (is_input (r k) && is_array (s k)) (inputs.array (n k) i) (pos 0)

  same_inputs : (p : Position) (j : ℕ) (h : HasPartner a b p j) → h.partner.role ≡ p.role → (s : Sort)
      → EquationHolds starts p.pos (Some (own_symbol s h.partner.pos))
  same_inputs p j h r s = by_sort s
    where
      roles : h.variable.role ≡ h.other.role
      roles = sym h.is.role ∙ sym r ∙ h.partner_is.role

      sorts : h.variable.sort ≡ h.other.sort
      sorts = sym h.is.sort ∙ sym h.sort ∙ h.partner_is.sort

      by_sort : (s : Sort) → EquationHolds starts p.pos (Some (own_symbol s h.partner.pos))
      by_sort Scalar = scalar_at p.pos h.variable h.is.is ∙ same_scalar h.variable h.other roles sorts (sym h.name)
          ∙ sym (scalar_at h.partner.pos h.other h.partner_is.is) ∙ sym (symbol_value starts h.partner.pos)
      by_sort Array = array_at p.pos h.variable h.is.is ∙ same_array h.variable h.other roles sorts (sym h.name)
          ∙ sym (array_at h.partner.pos h.other h.partner_is.is)
      by_sort Port = list_at p.pos ∙ ap (λ l. l ++ []) (sym (list_at h.partner.pos))

  module _ (sound : IsSound a) (matched : interface_fault a b ≡ None) where
    position_holds : (k : ℕ) (p : Position) → slice_get (positions a b) k ≡ Some p → EquationHolds starts p.pos (start_position (positions a b) p).equation
    position_holds k p e =
        by_form a b (λ o. EquationHolds starts p.pos o) k p e tt (λ r. let v = stands_for a b k p e in zero_holds p v.variable v.is r p.sort)
        (λ j h r d. same_inputs p j h (partner_is_input a b sound matched p j h r d ∙ sym r) p.sort)

    each_holds : (ps : List Position)
        → ((k : ℕ) (p : Position) → slice_get ps k ≡ Some p → EquationHolds starts p.pos (start_position (positions a b) p).equation)
        → EquationsHold starts (map (start_position (positions a b)) ps)
    each_holds [] h = tt
    each_holds (p ∷ ps) h = (h 0 p refl, each_holds ps (λ k q e. h (suc k) q e))

    pub start_holds : Holds (start_fact (positions a b)) (start a inputs) (start b inputs)
    start_holds = record { equations = each_holds (positions a b) position_holds; literals = refl }

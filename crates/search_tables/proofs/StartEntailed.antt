-- The start fact entails itself.
use Rattle.std.proofs.Common.{◌≡◌, ◌+◌, ℕ, zero, suc, pos, refl, ap, sym, subst, ◌∙◌, Bool, true, false, cond, List, [], ◌∷◌, map, Some, None}
use Rattle.std.specs.Prelude.{◌&&◌, slice_get}
use Rattle.std.specs.List.{AllByRecursion}
use Rattle.fs_model.specs.SoundMachines.{IsSound}
use Rattle.fs_model.specs.declared.parts.Role.TheVariants.{Input}
use Rattle.fs_model.specs.declared.parts.Sort.{Sort}
use Rattle.fs_model.specs.declared.parts.Sort.TheVariants.{Scalar, Array, Port}
use Rattle.fs_model.specs.Machines.{Fsmd}
use Rattle.fs_pair.specs.declared.positions.Position.{Position}
use Rattle.fs_pair.specs.Interfaces.{interface_fault}
use Rattle.fs_pair.specs.Positions.{position_of, positions}
use Rattle.fs_pair.specs.Partners.{variables_on, HasPartner}
use Rattle.fs_pair.proofs.Variables.{all_of, comes_from, stands_at}
use Rattle.nf_trees.specs.NormalTerms.{Zero, polynomial_of_symbol, polynomial_of_number, bare_array}
use Rattle.nf_terms.specs.Lists.{bare_list}
use Rattle.nf_trees.specs.Comparison.{polynomials_equal, arrays_equal}
use Rattle.nf_terms.specs.ListComparison.{lists_equal}
use Rattle.nf_trees.specs.Mentions.{same_pos}
use Rattle.nf_terms.specs.Forms.{same_form, sort_of_form}
use Rattle.nf_terms.specs.Computed.{Computed, Done, after}
use Rattle.nf_terms.specs.declared.form.Nf.{Nf}
use Rattle.nf_terms.specs.declared.form.Nf.TheVariants.{Num, Arr, Seq}
use Rattle.fs_model.specs.declared.sides.Pos.{Pos}
use Rattle.nf_trees.specs.declared.tree.Base.TheVariants as base
use Rattle.nf_terms.specs.declared.tree.SeqBase.TheVariants as list
use Rattle.nf_terms.specs.TermSorts.{same_term_sort}
use Rattle.fs_model.specs.declared.sides.Side.TheVariants as side
use Rattle.nf_sums.specs.Operations.{normal_sum, normal_product}
use Rattle.propagate.specs.Vectors.{form_at, number_or, array_or, list_or, number_at, array_form, list_at}
use Rattle.propagate.specs.SamePlaces.{pos_equal, own_pos, own_sort}
use Rattle.propagate.specs.Sequences.{each}
use Rattle.cert_model.specs.Facts.{FactPosition, own_symbol, form_or_symbol, vector_of}
use Rattle.cert_model.specs.Entailment.{form_like, equation_met, false_places, entails}
use Rattle.cert_model.specs.Starts.{zero_of, start_form, partner_in, start_position, start_fact}
use Rattle.cert_model.proofs.StartHolds.{left_side, partner_is_input, by_form}

-- ---- forms are the same as themselves
pub own_form : (f : Nf) → same_form f f ≡ true
own_form (Num p) = polynomials_equal.refl p
own_form (Arr a) = arrays_equal.refl a
own_form (Seq l) = lists_equal.refl l

-- ---- positions that are the same have the same place in the pairing
same_position : (a b : Fsmd) (j k : ℕ) (p q : Position) → slice_get (positions a b) j ≡ Some p → slice_get (positions a b) k ≡ Some q
    → same_pos p.pos q.pos ≡ true → q ≡ p
same_position a b j k p q e g h =
    let x = comes_from (all_of a b) (all_of a b) j p e in
    let y = comes_from (all_of a b) (all_of a b) k q g in
    let i : x.from.pos ≡ y.from.pos = sym (ap (λ (z : Position). z.pos) x.is) ∙ pos_equal p.pos q.pos h ∙ ap (λ (z : Position). z.pos) y.is in
    let s : Some x.from.variable ≡ Some y.from.variable = sym (stands_at a b j x.from x.at) ∙ ap (λ (z : Pos). slice_get (variables_on z.side a b) z.var) i
    ∙ stands_at a b k y.from y.at in
    let v : x.from.variable ≡ y.from.variable = cc s in
    let same : x.from ≡ y.from = λ t. record { pos = i t; variable = v t } in
    y.is ∙ ap (position_of (all_of a b)) (sym same) ∙ sym x.is

-- ---- the vector of the start fact
module _ (all : List Position) where
  abbrev form_of : Position → Nf
  form_of p = form_or_symbol p.sort p.pos (start_position all p).equation

  abbrev entries : List Position → List (Pos × Nf)
  entries ps = vector_of (map (start_position all) ps)

  form_found : (p : Position) (ps : List Position) → ((k : ℕ) (q : Position) → slice_get ps k ≡ Some q → same_pos p.pos q.pos ≡ true → q ≡ p) → (k : ℕ)
      → slice_get ps k ≡ Some p → form_at (sort_of_form (form_of p)) p.pos (entries ps) ≡ Some (form_of p)
  form_found p [] once k e = absurd (cc e)
  form_found p (q ∷ ps) once zero e =
      let i : q ≡ p = cc e in
      subst (λ (z : Position). form_at (sort_of_form (form_of p)) p.pos (entries (z ∷ ps)) ≡ Some (form_of p)) (sym i)
      (ap
      (λ t. cond (t && same_term_sort (sort_of_form (form_of p)) (sort_of_form (form_of p))) (Some (form_of p))
      (form_at (sort_of_form (form_of p)) p.pos (entries ps))) (own_pos p.pos)
      ∙ ap (λ t. cond t (Some (form_of p)) (form_at (sort_of_form (form_of p)) p.pos (entries ps))) (own_sort (sort_of_form (form_of p))))
  form_found p (q ∷ ps) once (suc k) e = by_test (same_pos p.pos q.pos) refl (form_found p ps (λ j r g. once (suc j) r g) k e)
    where
      by_test : (t : Bool) → same_pos p.pos q.pos ≡ t → form_at (sort_of_form (form_of p)) p.pos (entries ps) ≡ Some (form_of p)
          → cond (t && same_term_sort (sort_of_form (form_of p)) (sort_of_form (form_of q))) (Some (form_of q))
          (form_at (sort_of_form (form_of p)) p.pos (entries ps)) ≡ Some (form_of p)
      by_test true h later =
          ap
          (λ (z : Position). cond (same_term_sort (sort_of_form (form_of p)) (sort_of_form (form_of z))) (Some (form_of z))
          (form_at (sort_of_form (form_of p)) p.pos (entries ps))) (once 0 q refl h)
          ∙ ap (λ t. cond t (Some (form_of p)) (form_at (sort_of_form (form_of p)) p.pos (entries ps))) (own_sort (sort_of_form (form_of p)))
      by_test false h later = later

-- ---- substituting a vector that has a symbol's own entry
-- what a vector has for a symbol, of the sort of the symbol
symbol_again : (v : List (Pos × Nf)) (s : Sort) (p q : Pos) → form_at (sort_of_form (own_symbol s q)) p v ≡ Some (own_symbol s q)
    → form_at (sort_of_form (own_symbol s q)) q v ≡ Some (own_symbol s q) → equation_met v p (Some (own_symbol s q)) ≡ Done true
symbol_again v Scalar p q e g =
    let x : number_at v p ≡ polynomial_of_symbol q = ap (number_or (polynomial_of_symbol p)) e in
    let y : number_at v q ≡ polynomial_of_symbol q = ap (number_or (polynomial_of_symbol q)) g in
    ap
    (λ z. after
    (after (after (after (normal_product (polynomial_of_number (pos 1)) z) (λ t. Done t)) (λ t. after (normal_sum Zero t) (λ r. Done r))) (λ r. Done (Num r)))
    (λ f. Done (same_form (form_like v p (Num (polynomial_of_symbol q))) f))) y
    ∙ ap (λ z. Done (same_form (Num z) (Num (polynomial_of_symbol q)))) x
    ∙ ap Done (own_form (Num (polynomial_of_symbol q)))
symbol_again v Array p q e g =
    let x : array_form v p ≡ bare_array (base.Sym q) = ap (array_or (bare_array (base.Sym p))) e in
    let y : array_form v q ≡ bare_array (base.Sym q) = ap (array_or (bare_array (base.Sym q))) g in
    ap (λ z. Done (same_form (Arr (array_form v p)) (Arr z))) y
    ∙ ap (λ z. Done (same_form (Arr z) (Arr (bare_array (base.Sym q))))) x
    ∙ ap Done (own_form (Arr (bare_array (base.Sym q))))
symbol_again v Port p q e g =
    let x : list_at v p ≡ bare_list (list.Sym q) = ap (list_or (bare_list (list.Sym p))) e in
    let y : list_at v q ≡ bare_list (list.Sym q) = ap (list_or (bare_list (list.Sym q))) g in
    ap (λ z. Done (same_form (Seq (list_at v p)) (Seq z))) y
    ∙ ap (λ z. Done (same_form (Seq z) (Seq (bare_list (list.Sym q))))) x
    ∙ ap Done (own_form (Seq (bare_list (list.Sym q))))

zero_again : (v : List (Pos × Nf)) (s : Sort) (p : Pos) → form_at (sort_of_form (zero_of s)) p v ≡ Some (zero_of s)
    → equation_met v p (Some (zero_of s)) ≡ Done true
zero_again v Scalar p e = ap (λ z. Done (same_form (Num (number_or (polynomial_of_symbol p) z)) (Num Zero))) e
zero_again v Array p e = ap (λ z. Done (same_form (Arr (array_or (bare_array (base.Sym p)) z)) (Arr (bare_array base.Zero)))) e
zero_again v Port p e = ap (λ z. Done (same_form (Seq (list_or (bare_list (list.Sym p)) z)) (Seq (bare_list list.Empty)))) e

-- ---- all equations are met
each_true : {X : Type 0} (f : X → Computed Bool) (xs : List X) → AllByRecursion (λ x. f x ≡ Done true) xs → each f xs ≡ Done (map (λ _. true) xs)
each_true f [] h = refl
each_true f (x ∷ xs) h =
    ap (λ c. after c (λ y. after (each f xs) (λ ys. Done (y ∷ ys)))) h.0
    ∙ ap (λ c. after c (λ ys. Done (true ∷ ys))) (each_true f xs h.1)

none_false : {X : Type 0} (k : ℕ) (xs : List X) → false_places k (map (λ _. true) xs) ≡ []
none_false k [] = refl
none_false k (x ∷ xs) = none_false (k + 1) xs

module _ (a b : Fsmd) (sound : IsSound a) (matched : interface_fault a b ≡ None) where
  abbrev all : List Position
  all = positions a b

  abbrev vector : List (Pos × Nf)
  vector = vector_of (start_fact all).positions

  found : (k : ℕ) (p : Position) → slice_get all k ≡ Some p → form_at (sort_of_form (form_of all p)) p.pos vector ≡ Some (form_of all p)
  found k p e = form_found all p all (λ j q g h. same_position a b k j p q e g h) k e

  -- a left input is free
  free_at : (q : Position) → q.role ≡ Input → q.pos.side ≡ side.Left → form_of all q ≡ own_symbol q.sort q.pos
  free_at q r d = ap (λ x. form_or_symbol q.sort q.pos (start_form x q.pos.side q.sort (partner_in all q.partner))) r
      ∙ ap (λ x. form_or_symbol q.sort q.pos (start_form Input x q.sort (partner_in all q.partner))) d

  symbol_found : (p : Position) (j : ℕ) (h : HasPartner a b p j) → p.role ≡ Input → p.pos.side ≡ side.Right
      → form_at (sort_of_form (own_symbol p.sort h.partner.pos)) h.partner.pos vector ≡ Some (own_symbol p.sort h.partner.pos)
  symbol_found p j h r d =
      let l : h.partner.pos.side ≡ side.Left = left_side p.pos.side h.partner.pos.side d h.sides in
      let i : form_of all h.partner ≡ own_symbol p.sort h.partner.pos = free_at h.partner (partner_is_input a b sound matched p j h r d) l
      ∙ ap (λ s. own_symbol s h.partner.pos) h.sort in
      subst (λ f. form_at (sort_of_form f) h.partner.pos vector ≡ Some f) i (found j h.partner h.at)

  met_at : (k : ℕ) (p : Position) → slice_get all k ≡ Some p → equation_met vector p.pos (start_position all p).equation ≡ Done true
  met_at k p e =
      by_form a b (λ o. form_at (sort_of_form (form_or_symbol p.sort p.pos o)) p.pos vector ≡ Some (form_or_symbol p.sort p.pos o)
      → equation_met vector p.pos o ≡ Done true) k p e
      (λ h. refl) (λ r h. zero_again vector p.sort p.pos h)
      (λ j q r d h. symbol_again vector p.sort p.pos q.partner.pos h (symbol_found p j q r d)) (found k p e)

  all_met : (ps : List Position) → ((k : ℕ) (p : Position) → slice_get ps k ≡ Some p → equation_met vector p.pos (start_position all p).equation ≡ Done true)
      → AllByRecursion (λ (p : FactPosition). equation_met vector p.pos p.equation ≡ Done true) (map (start_position all) ps)
  all_met [] h = tt
  all_met (p ∷ ps) h = (h 0 p refl, all_met ps (λ k q e. h (suc k) q e))

  pub entails_itself : entails (record { conditions = []; vector = vector }) (start_fact all) ≡ Done (record { equations = []; literals = [] })
  entails_itself =
      ap (λ c. after c (λ es. Done (record { equations = false_places 0 es; literals = [] })))
      (each_true (λ (p : FactPosition). equation_met vector p.pos p.equation) (start_fact all).positions (all_met all met_at))
      ∙ ap (λ ks. Done (record { equations = ks; literals = [] })) (none_false 0 (start_fact all).positions)

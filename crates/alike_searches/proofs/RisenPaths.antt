-- What a path leaves rises.
use Rattle.std.proofs.Common.{◌≡◌, ℕ, Bool, true, false, cond, refl, sym, subst, List, [], ◌∷◌, Option, Some, None}
use Rattle.std.specs.Prelude.{◌++◌}
use Rattle.fs_model.specs.Expressions.{Expression, Number, Variable, Read, Sum, Difference, Product, Quotient, Remainder, Negative, Assignment, Assign}
use Rattle.fs_model.specs.Expressions.{ArrayWrite, Emit}
use Rattle.fs_model.specs.Machines.{Fsmd}
use Rattle.fs_cut.specs.Paths.{Path, BranchStep, branch_at, steps_in}
use Rattle.nf_trees.specs.NormalTerms.{Polynomial, ArrayTerm, polynomial_of_symbol, bare_array}
use Rattle.nf_terms.specs.Lists.{ListTerm}
use Rattle.nf_terms.specs.Computed.{Computed, Done, after}
use Rattle.nf_terms.specs.declared.symbols.Sort.TheVariants as sort
use Rattle.fs_model.specs.declared.sides.Side.{Side}
use Rattle.fs_model.specs.declared.sides.Side.TheVariants.{Left, Right}
use Rattle.fs_model.specs.declared.sides.Pos.{Pos}
use Rattle.nf_trees.specs.declared.tree.Base.TheVariants as base
use Rattle.nf_terms.specs.declared.form.Nf.{Nf}
use Rattle.nf_terms.specs.declared.form.Nf.TheVariants.{Num, Arr, Seq}
use Rattle.nf_terms.proofs.Computed.{same_Done}
use Rattle.nf_sums.specs.Operations.{normal_sum, normal_difference, normal_product, normal_negation}
use Rattle.nf_sums.proofs.Values.{goes_done}
use Rattle.nf_arrays.specs.NewAtoms.{quotient_of, remainder_of}
use Rattle.nf_arrays.specs.Writes.{write_array, read_at}
use Rattle.nf_arrays.specs.Pushes.{list_with_item}
use Rattle.nf_substitution.specs.Vectors.{number_or, array_or, number_at, array_form, list_at, form_at, with_form}
use Rattle.nf_substitution.proofs.Entries.{form_put}
use Rattle.nf_rel.specs.Literals.{NormalLiteral}
use Rattle.sym_paths.specs.ValuationStores.{at}
use Rattle.sym_paths.specs.Sequences.{each}
use Rattle.sym_paths.specs.Evaluation.{evaluate, Change, SetTo, PutAt, PushTo, evaluate_assignment, change, change_all, act_over}
use Rattle.sym_paths.specs.Execution.{Post, conditions, steps_over, execute_if, arrive}
use Rattle.alike_searches.specs.Risen.{is_risen, is_risen_array, IsRisenVector}
use Rattle.alike_searches.proofs.RisenForms.{negation_risen}
use Rattle.alike_searches.proofs.RisenOperations.{sum_rises, difference_rises, product_rises, number_rises, quotient_rises, remainder_rises, read_rises}
use Rattle.alike_searches.proofs.RisenOperations.{write_rises}

-- what comes last in two parts that are joined
last_of : {S T U : Type 0} (o : Computed S) (n : Computed T) (f : S → T → Computed U) (r : U) → after o (λ p. after n (λ q. f p q)) ≡ Done r
    → (p : S) × (q : T) × (f p q ≡ Done r)
last_of o n f r e =
    let s = goes_done o (λ p. after n (λ q. f p q)) r e in
    let t = goes_done n (λ q. f s.middle q) r s.next in
    (s.middle, t.middle, t.next)

module _ (side : Side) (v : List (Pos × Nf)) (h : IsRisenVector v) where
  pub value_rises : (e : Expression ℕ) (r : Polynomial) → evaluate side v e ≡ Done r → is_risen r ≡ true
  value_rises (Number n) r e = number_rises n r e
  value_rises (Variable x) r e = subst (λ z. is_risen z ≡ true) (same_Done (number_at v (at side x)) r e) (h.numbers (at side x))
  value_rises (Read x i) r e =
      let s = goes_done (evaluate side v i) (λ j. read_at (array_form v (at side x)) j) r e in
      read_rises (array_form v (at side x)) s.middle r (h.arrays (at side x)) s.next
  value_rises (Sum a b) r e = let t = last_of (evaluate side v a) (evaluate side v b) normal_sum r e in sum_rises t.0 t.1 r t.2
  value_rises (Difference a b) r e = let t = last_of (evaluate side v a) (evaluate side v b) normal_difference r e in difference_rises t.0 t.1 r t.2
  value_rises (Product a b) r e = let t = last_of (evaluate side v a) (evaluate side v b) normal_product r e in product_rises t.0 t.1 r t.2
  value_rises (Quotient a b) r e = let t = last_of (evaluate side v a) (evaluate side v b) quotient_of r e in quotient_rises t.0 t.1 r t.2
  value_rises (Remainder a b) r e = let t = last_of (evaluate side v a) (evaluate side v b) remainder_of r e in remainder_rises t.0 t.1 r t.2
  value_rises (Negative a) r e =
      let s = goes_done (evaluate side v a) (λ p. Done (normal_negation p)) r e in
      subst (λ z. is_risen z ≡ true) (same_Done (normal_negation s.middle) r s.next) (negation_risen s.middle (value_rises a s.middle s.first))

-- ---- vectors with a new form

module _ (v : List (Pos × Nf)) (h : IsRisenVector v) (p : Pos) where
  number_kept : (f : Nf) (q : Pos) → ((b : Bool) → is_risen (number_or (polynomial_of_symbol q) (cond b (Some f) (form_at sort.Scalar q v))) ≡ true)
      → is_risen (number_at (with_form p f v) q) ≡ true
  number_kept f q g = subst (λ o. is_risen (number_or (polynomial_of_symbol q) o) ≡ true) (sym (form_put v p q f sort.Scalar)) (g _)

  array_kept : (f : Nf) (q : Pos) → ((b : Bool) → is_risen_array (array_or (bare_array (base.Sym q)) (cond b (Some f) (form_at sort.Array q v))) ≡ true)
      → is_risen_array (array_form (with_form p f v) q) ≡ true
  array_kept f q g = subst (λ o. is_risen_array (array_or (bare_array (base.Sym q)) o) ≡ true) (sym (form_put v p q f sort.Array)) (g _)

  pub with_number_rises : (t : Polynomial) → is_risen t ≡ true → IsRisenVector (with_form p (Num t) v)
  with_number_rises t r = record { numbers = λ q. number_kept (Num t) q (number_by q); arrays = λ q. array_kept (Num t) q (array_by q) }
    where
      number_by : (q : Pos) (b : Bool) → is_risen (number_or (polynomial_of_symbol q) (cond b (Some (Num t)) (form_at sort.Scalar q v))) ≡ true
      number_by q true = r
      number_by q false = h.numbers q

      array_by : (q : Pos) (b : Bool) → is_risen_array (array_or (bare_array (base.Sym q)) (cond b (Some (Num t)) (form_at sort.Array q v))) ≡ true
      array_by q true = refl
      array_by q false = h.arrays q

  pub with_array_rises : (a : ArrayTerm) → is_risen_array a ≡ true → IsRisenVector (with_form p (Arr a) v)
  with_array_rises a r = record { numbers = λ q. number_kept (Arr a) q (number_by q); arrays = λ q. array_kept (Arr a) q (array_by q) }
    where
      number_by : (q : Pos) (b : Bool) → is_risen (number_or (polynomial_of_symbol q) (cond b (Some (Arr a)) (form_at sort.Scalar q v))) ≡ true
      number_by q true = refl
      number_by q false = h.numbers q

      array_by : (q : Pos) (b : Bool) → is_risen_array (array_or (bare_array (base.Sym q)) (cond b (Some (Arr a)) (form_at sort.Array q v))) ≡ true
      array_by q true = r
      array_by q false = h.arrays q

  pub with_list_rises : (l : ListTerm) → IsRisenVector (with_form p (Seq l) v)
  with_list_rises l = record { numbers = λ q. number_kept (Seq l) q (number_by q); arrays = λ q. array_kept (Seq l) q (array_by q) }
    where
      number_by : (q : Pos) (b : Bool) → is_risen (number_or (polynomial_of_symbol q) (cond b (Some (Seq l)) (form_at sort.Scalar q v))) ≡ true
      number_by q true = refl
      number_by q false = h.numbers q

      array_by : (q : Pos) (b : Bool) → is_risen_array (array_or (bare_array (base.Sym q)) (cond b (Some (Seq l)) (form_at sort.Array q v))) ≡ true
      array_by q true = refl
      array_by q false = h.arrays q

-- ---- changes

abbrev IsRisenChange : Change → Type 0
IsRisenChange (SetTo x p) = is_risen p ≡ true
IsRisenChange (PutAt x i p) = is_risen p ≡ true
IsRisenChange (PushTo x p) = Unit {0}

abbrev AreRisen : List Change → Type 0
AreRisen [] = Unit {0}
AreRisen (c ∷ cs) = IsRisenChange c × AreRisen cs

module _ (side : Side) where
  assignment_rises : (v : List (Pos × Nf)) → IsRisenVector v → (a : Assignment ℕ) (c : Change) → evaluate_assignment side v a ≡ Done c → IsRisenChange c
  assignment_rises v h (Assign x e) c g =
      let s = goes_done (evaluate side v e) (λ p. Done (SetTo x p)) c g in
      subst IsRisenChange (same_Done (SetTo x s.middle) c s.next) (value_rises side v h e s.middle s.first)
  assignment_rises v h (ArrayWrite x i e) c g =
      let s = goes_done (evaluate side v i) (λ j. after (evaluate side v e) (λ p. Done (PutAt x j p))) c g in
      let t = goes_done (evaluate side v e) (λ p. Done (PutAt x s.middle p)) c s.next in
      subst IsRisenChange (same_Done (PutAt x s.middle t.middle) c t.next) (value_rises side v h e t.middle t.first)
  assignment_rises v h (Emit x e) c g =
      let s = goes_done (evaluate side v e) (λ p. Done (PushTo x p)) c g in
      subst IsRisenChange (same_Done (PushTo x s.middle) c s.next) tt

  assignments_rise : (v : List (Pos × Nf)) → IsRisenVector v → (xs : List (Assignment ℕ)) (cs : List Change)
      → each (λ a. evaluate_assignment side v a) xs ≡ Done cs → AreRisen cs
  assignments_rise v h [] cs g = subst AreRisen (same_Done [] cs g) tt
  assignments_rise v h (x ∷ xs) cs g =
      let s = goes_done (evaluate_assignment side v x) (λ y. after (each (λ a. evaluate_assignment side v a) xs) (λ ys. Done (y ∷ ys))) cs g in
      let t = goes_done (each (λ a. evaluate_assignment side v a) xs) (λ ys. Done (s.middle ∷ ys)) cs s.next in
      subst AreRisen (same_Done (s.middle ∷ t.middle) cs t.next) (assignment_rises v h x s.middle s.first, assignments_rise v h xs t.middle t.first)

  change_rises : (v u : List (Pos × Nf)) (c : Change) → IsRisenVector v → IsRisenChange c → change side c v ≡ Done u → IsRisenVector u
  change_rises v u (SetTo x p) h r e = subst IsRisenVector (same_Done (with_form (at side x) (Num p) v) u e) (with_number_rises v h (at side x) p r)
  change_rises v u (PutAt x i p) h r e =
      let s = goes_done (write_array (array_form v (at side x)) i p) (λ a. Done (with_form (at side x) (Arr a) v)) u e in
      subst IsRisenVector (same_Done (with_form (at side x) (Arr s.middle) v) u s.next)
      (with_array_rises v h (at side x) s.middle (write_rises (array_form v (at side x)) s.middle i p (h.arrays (at side x)) r s.first))
  change_rises v u (PushTo x p) h r e =
      let s = goes_done (list_with_item (list_at v (at side x)) p) (λ l. Done (with_form (at side x) (Seq l) v)) u e in
      subst IsRisenVector (same_Done (with_form (at side x) (Seq s.middle) v) u s.next) (with_list_rises v h (at side x) s.middle)

  changes_rise : (cs : List Change) (v u : List (Pos × Nf)) → IsRisenVector v → AreRisen cs → change_all side cs v ≡ Done u → IsRisenVector u
  changes_rise [] v u h r e = subst IsRisenVector (same_Done v u e) h
  changes_rise (c ∷ cs) v u h r e =
      let s = goes_done (change side c v) (λ z. change_all side cs z) u e in
      changes_rise cs s.middle u (change_rises v s.middle c h r.0 s.first) r.1 s.next

  pub steps_rise : (m : Fsmd) (xs : List BranchStep) (v u : List (Pos × Nf)) → IsRisenVector v → steps_over m side xs v ≡ Done u → IsRisenVector u
  steps_rise m [] v u h e = subst IsRisenVector (same_Done v u e) h
  steps_rise m (x ∷ xs) v u h e =
      let s = goes_done (act_over side (branch_at m x.state x.branch).assignments v) (λ z. steps_over m side xs z) u e in
      let t = goes_done (each (λ a. evaluate_assignment side v a) (branch_at m x.state x.branch).assignments) (λ cs. change_all side cs v) s.middle s.first in
      steps_rise m xs s.middle u
      (changes_rise t.middle v s.middle h (assignments_rise v h (branch_at m x.state x.branch).assignments t.middle t.first) t.next) s.next

  executed_rises : (m : Fsmd) (o : Option Path) (v : List (Pos × Nf)) (post : Post) → IsRisenVector v → execute_if m o side v ≡ Done post
      → IsRisenVector post.vector
  executed_rises m None v post h e = subst (λ (z : Post). IsRisenVector z.vector) (same_Done (record { conditions = []; vector = v }) post e) h
  executed_rises m (Some p) v post h e =
      let s = goes_done (conditions m p side v) (λ ls. after (steps_over m side (steps_in p) v) (λ u. Done (record { conditions = ls; vector = u }))) post e in
      let t = goes_done (steps_over m side (steps_in p) v) (λ u. Done (record { conditions = s.middle; vector = u })) post s.next in
      subst (λ (z : Post). IsRisenVector z.vector) (same_Done (record { conditions = s.middle; vector = t.middle }) post t.next)
      (steps_rise m (steps_in p) v t.middle h t.first)

-- what arrives rises
pub arrival_rises : (a b : Fsmd) (ls : List NormalLiteral) (v : List (Pos × Nf)) (left right : Option Path) (post : Post) → IsRisenVector v
    → arrive a b ls v left right ≡ Done post → IsRisenVector post.vector
arrival_rises a b ls v left right post h e =
    let s = goes_done (execute_if a left Left v)
    (λ l. after (execute_if b right Right l.vector) (λ r. Done (record { conditions = ls ++ (l.conditions ++ r.conditions); vector = r.vector }))) post e in
    let t = goes_done (execute_if b right Right s.middle.vector)
    (λ r. Done (record { conditions = ls ++ (s.middle.conditions ++ r.conditions); vector = r.vector })) post s.next in
    subst (λ (z : Post). IsRisenVector z.vector)
    (same_Done (record { conditions = ls ++ (s.middle.conditions ++ t.middle.conditions); vector = t.middle.vector }) post t.next)
    (executed_rises Right b right s.middle.vector t.middle (executed_rises Left a left v s.middle h s.first) t.first)

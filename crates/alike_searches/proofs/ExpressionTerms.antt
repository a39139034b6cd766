-- What a path leaves in a vector is what its expressions are computed to over the vector at the start.
use Rattle.std.proofs.Common.{◌≡◌, ℕ, ◌==◌, cond, Bool, true, false, arith, refl, ap, ap₂, sym, subst, ◌∙◌, List, [], ◌∷◌, Option, Some}
use Rattle.std.specs.Prelude.{◌&&◌}
use Rattle.std.proofs.lemmas.Bool.Decides.{nat_tests}
use Rattle.fs_model.specs.Expressions.{Expression, Number, Variable, Read, Sum, Difference, Product, Quotient, Remainder, Negative, Assignment, Assign}
use Rattle.fs_model.specs.Expressions.{ArrayWrite, Emit}
use Rattle.fs_model.specs.Machines.{Fsmd}
use Rattle.fs_cut.specs.Paths.{BranchStep, branch_at}
use Rattle.nf_trees.specs.NormalTerms.{Polynomial, ArrayTerm, polynomial_of_symbol, bare_array}
use Rattle.nf_terms.specs.Lists.{ListTerm, bare_list}
use Rattle.nf_terms.specs.Forms.{sort_of_form}
use Rattle.nf_trees.specs.Mentions.{same_pos}
use Rattle.nf_terms.specs.Computed.{Computed, Done, after}
use Rattle.nf_terms.specs.declared.symbols.Sort.{Sort}
use Rattle.nf_terms.specs.declared.symbols.Sort.TheVariants as sort
use Rattle.fs_model.specs.declared.sides.Side.{Side}
use Rattle.fs_model.specs.declared.sides.Pos.{Pos}
use Rattle.nf_trees.specs.declared.tree.Base.TheVariants as base
use Rattle.nf_terms.specs.declared.tree.SeqBase.TheVariants as list
use Rattle.nf_terms.specs.declared.form.Nf.{Nf}
use Rattle.nf_terms.specs.declared.form.Nf.TheVariants.{Num, Arr, Seq}
use Rattle.nf_terms.proofs.Computed.{same_Done}
use Rattle.nf_terms.specs.TermSorts.{same_term_sort}
use Rattle.nf_sums.specs.Operations.{normal_sum, normal_difference, normal_product, normal_negation, number}
use Rattle.nf_sums.proofs.Values.{goes_done}
use Rattle.nf_arrays.specs.NewAtoms.{quotient_of, remainder_of}
use Rattle.nf_arrays.specs.Writes.{write_array, read_at}
use Rattle.nf_arrays.specs.Pushes.{list_with_item}
use Rattle.nf_substitution.specs.Vectors.{form_at, with_form, number_or, array_or, list_or, number_at, array_form, list_at}
use Rattle.nf_substitution.proofs.Entries.{form_put}
use Rattle.sym_paths.specs.ValuationStores.{at}
use Rattle.sym_paths.specs.Sequences.{each}
use Rattle.sym_paths.specs.Evaluation.{evaluate, Change, SetTo, PutAt, PushTo, evaluate_assignment, change, change_all, act_over}
use Rattle.sym_paths.specs.Execution.{steps_over}
use Rattle.sym_paths.proofs.Changes.{same_at}
use Rattle.cert_bisimulation.specs.PathExpressions.{PathExpression, Constant, Initial, Element, Plus, Minus, Times, Over, Rest, Opposite, ArrayExpression}
use Rattle.cert_bisimulation.specs.PathExpressions.{InitialArray, Stored, ListExpression, InitialList, Pushed, ExpressionVector, initial, path_expression}
use Rattle.cert_bisimulation.specs.PathExpressions.{expressions_after}
use Rattle.cert_bisimulation.specs.PathExpressions.{acted_all, left_by}

-- what stands at each variable of a side
pub record Expressions : Type 0 where
  pub number : ℕ → Polynomial
  pub array : ℕ → ArrayTerm
  pub list : ℕ → ListTerm

abbrev pub terms_of : Side → List (Pos × Nf) → Expressions
terms_of side v = record { number = λ x. number_at v (at side x); array = λ x. array_form v (at side x); list = λ x. list_at v (at side x) }

-- the term of an expression over the terms at the start
abbrev mutual
  pub term_of : Expressions → PathExpression → Computed Polynomial
  term_of k (Constant n) = number n
  term_of k (Initial x) = Done (k.number x)
  term_of k (Element a i) = after (array_term_of k a) (λ b. after (term_of k i) (λ j. read_at b j))
  term_of k (Plus a b) = after (term_of k a) (λ p. after (term_of k b) (λ q. normal_sum p q))
  term_of k (Minus a b) = after (term_of k a) (λ p. after (term_of k b) (λ q. normal_difference p q))
  term_of k (Times a b) = after (term_of k a) (λ p. after (term_of k b) (λ q. normal_product p q))
  term_of k (Over a b) = after (term_of k a) (λ p. after (term_of k b) (λ q. quotient_of p q))
  term_of k (Rest a b) = after (term_of k a) (λ p. after (term_of k b) (λ q. remainder_of p q))
  term_of k (Opposite a) = after (term_of k a) (λ p. Done (normal_negation p))

  pub array_term_of : Expressions → ArrayExpression → Computed ArrayTerm
  array_term_of k (InitialArray x) = Done (k.array x)
  array_term_of k (Stored a i e) = after (array_term_of k a) (λ b. after (term_of k i) (λ j. after (term_of k e) (λ p. write_array b j p)))

abbrev pub list_term_of : Expressions → ListExpression → Computed ListTerm
list_term_of k (InitialList x) = Done (k.list x)
list_term_of k (Pushed l e) = after (list_term_of k l) (λ m. after (term_of k e) (λ p. list_with_item m p))

-- over the terms k at the start, each expression is computed to what the vector u has
pub record Shows (k : Expressions) (s : ExpressionVector) (side : Side) (u : List (Pos × Nf)) : Type 0 where
  pub numbers : (x : ℕ) → term_of k (s.scalar x) ≡ Done (number_at u (at side x))
  pub arrays : (x : ℕ) → array_term_of k (s.array x) ≡ Done (array_form u (at side x))
  pub lists : (x : ℕ) → list_term_of k (s.port x) ≡ Done (list_at u (at side x))

-- what comes after a part that is computed
after_done : {S T : Type 0} (o : Computed S) (f : S → Computed T) (x : S) (y : T) → o ≡ Done x → f x ≡ Done y → after o f ≡ Done y
after_done o f x y e g = ap (λ z. after z f) e ∙ g

two : {S T U : Type 0} (o o' : Computed S) (f : S → T → Computed U) (r r' : Computed T) (y : U) → ((x : S) → o ≡ Done x → o' ≡ Done x)
    → ((x : T) → r ≡ Done x → r' ≡ Done x)
    → after o (λ p. after r (λ q. f p q)) ≡ Done y → after o' (λ p. after r' (λ q. f p q)) ≡ Done y
two o o' f r r' y g h e =
    let s = goes_done o (λ p. after r (λ q. f p q)) y e in
    let t = goes_done r (λ q. f s.middle q) y s.next in
    after_done o' (λ p. after r' (λ q. f p q)) s.middle y (g s.middle s.first) (after_done r' (λ q. f s.middle q) t.middle y (h t.middle t.first) t.next)

module _ (k : Expressions) (side : Side) where
  expressed_term : (s : ExpressionVector) (u : List (Pos × Nf)) → Shows k s side u → (e : Expression ℕ) (p : Polynomial) → evaluate side u e ≡ Done p
      → term_of k (path_expression s e) ≡ Done p
  expressed_term s u h (Number n) p e = e
  expressed_term s u h (Variable x) p e = h.numbers x ∙ e
  expressed_term s u h (Read x i) p e =
      let t = goes_done (evaluate side u i) (λ j. read_at (array_form u (at side x)) j) p e in
      after_done (array_term_of k (s.array x)) (λ b. after (term_of k (path_expression s i)) (λ j. read_at b j)) (array_form u (at side x)) p (h.arrays x)
      (after_done (term_of k (path_expression s i)) (λ j. read_at (array_form u (at side x)) j) t.middle p (expressed_term s u h i t.middle t.first) t.next)
  expressed_term s u h (Sum a b) p e = two (evaluate side u a) (term_of k (path_expression s a)) normal_sum (evaluate side u b)
      (term_of k (path_expression s b)) p (expressed_term s u h a) (expressed_term s u h b) e
  expressed_term s u h (Difference a b) p e = two (evaluate side u a) (term_of k (path_expression s a)) normal_difference (evaluate side u b)
      (term_of k (path_expression s b)) p (expressed_term s u h a) (expressed_term s u h b) e
  expressed_term s u h (Product a b) p e = two (evaluate side u a) (term_of k (path_expression s a)) normal_product (evaluate side u b)
      (term_of k (path_expression s b)) p (expressed_term s u h a) (expressed_term s u h b) e
  expressed_term s u h (Quotient a b) p e = two (evaluate side u a) (term_of k (path_expression s a)) quotient_of (evaluate side u b)
      (term_of k (path_expression s b)) p (expressed_term s u h a) (expressed_term s u h b) e
  expressed_term s u h (Remainder a b) p e = two (evaluate side u a) (term_of k (path_expression s a)) remainder_of (evaluate side u b)
      (term_of k (path_expression s b)) p (expressed_term s u h a) (expressed_term s u h b) e
  expressed_term s u h (Negative a) p e =
      let t = goes_done (evaluate side u a) (λ q. Done (normal_negation q)) p e in
      after_done (term_of k (path_expression s a)) (λ q. Done (normal_negation q)) t.middle p (expressed_term s u h a t.middle t.first) t.next

  -- ---- a form that is put

  kept : (u : List (Pos × Nf)) (x y : ℕ) (f : Nf) (σ : Sort) → same_term_sort σ (sort_of_form f) ≡ false
      → form_at σ (at side y) (with_form (at side x) f u) ≡ form_at σ (at side y) u
  kept u x y f σ e = form_put u (at side x) (at side y) f σ ∙ by_test (same_pos (at side y) (at side x)) (same_term_sort σ (sort_of_form f)) e
    where
      by_test : (c d : Bool) → d ≡ false → cond {A = Option Nf} (c && d) (Some f) (form_at σ (at side y) u) ≡ form_at σ (at side y) u
      by_test true d h = ap (λ z. cond {A = Option Nf} z (Some f) (form_at σ (at side y) u)) h
      by_test false d h = refl

  put_at : (u : List (Pos × Nf)) (x y : ℕ) (f : Nf) (σ : Sort)
      → form_at σ (at side y) (with_form (at side x) f u) ≡ cond ((y == x) && same_term_sort σ (sort_of_form f)) (Some f) (form_at σ (at side y) u)
  put_at u x y f σ = form_put u (at side x) (at side y) f σ
      ∙ ap (λ t. cond {A = Option Nf} (t && same_term_sort σ (sort_of_form f)) (Some f) (form_at σ (at side y) u)) (same_at side x y)

  abbrev number_in : ℕ → Option Nf → Polynomial
  number_in y o = number_or (polynomial_of_symbol (at side y)) o

  abbrev array_in : ℕ → Option Nf → ArrayTerm
  array_in y o = array_or (bare_array (base.Sym (at side y))) o

  abbrev list_in : ℕ → Option Nf → ListTerm
  list_in y o = list_or (bare_list (list.Sym (at side y))) o

  module _ (s : ExpressionVector) (u : List (Pos × Nf)) (h : Shows k s side u) (x : ℕ) where
    set_shows : (e : PathExpression) (p : Polynomial) → term_of k e ≡ Done p
        → Shows k (record { scalar = λ y. cond (y == x) e (s.scalar y); array = s.array; port = s.port }) side (with_form (at side x) (Num p) u)
    set_shows e p g =
        record {
          numbers = λ y. chosen y (form_at sort.Scalar (at side y) u) (h.numbers y) (y == x)
              ∙ ap (λ o. Done (number_in y o)) (sym (put_at u x y (Num p) sort.Scalar));
          arrays = λ y. h.arrays y ∙ ap (λ o. Done (array_in y o)) (sym (kept u x y (Num p) sort.Array refl));
          lists = λ y. h.lists y ∙ ap (λ o. Done (list_in y o)) (sym (kept u x y (Num p) sort.List refl));
        }
      where
        chosen : (y : ℕ) (o : Option Nf) → term_of k (s.scalar y) ≡ Done (number_in y o) → (t : Bool)
            → term_of k (cond t e (s.scalar y)) ≡ Done (number_in y (cond (t && true) (Some (Num p)) o))
        chosen y o i true = g
        chosen y o i false = i

    put_shows : (i e : PathExpression) (a : ArrayTerm) → array_term_of k (Stored (s.array x) i e) ≡ Done a
        → Shows k (record { scalar = s.scalar; array = λ y. cond (y == x) (Stored (s.array y) i e) (s.array y); port = s.port }) side
        (with_form (at side x) (Arr a) u)
    put_shows i e a g =
        record {
          numbers = λ y. h.numbers y ∙ ap (λ o. Done (number_in y o)) (sym (kept u x y (Arr a) sort.Scalar refl));
          arrays = λ y. chosen y (form_at sort.Array (at side y) u) (h.arrays y) (y == x) refl
              ∙ ap (λ o. Done (array_in y o)) (sym (put_at u x y (Arr a) sort.Array));
          lists = λ y. h.lists y ∙ ap (λ o. Done (list_in y o)) (sym (kept u x y (Arr a) sort.List refl));
        }
      where
        chosen : (y : ℕ) (o : Option Nf) → array_term_of k (s.array y) ≡ Done (array_in y o) → (t : Bool) → (y == x) ≡ t
            → array_term_of k (cond t (Stored (s.array y) i e) (s.array y)) ≡ Done (array_in y (cond (t && true) (Some (Arr a)) o))
        chosen y o j true w = let same : y ≡ x = grind (arith, nat_tests) in ap (λ z. array_term_of k (Stored (s.array z) i e)) same ∙ g
        chosen y o j false w = j

    push_shows : (e : PathExpression) (l : ListTerm) → list_term_of k (Pushed (s.port x) e) ≡ Done l
        → Shows k (record { scalar = s.scalar; array = s.array; port = λ y. cond (y == x) (Pushed (s.port y) e) (s.port y) }) side
        (with_form (at side x) (Seq l) u)
    push_shows e l g =
        record {
          numbers = λ y. h.numbers y ∙ ap (λ o. Done (number_in y o)) (sym (kept u x y (Seq l) sort.Scalar refl));
          arrays = λ y. h.arrays y ∙ ap (λ o. Done (array_in y o)) (sym (kept u x y (Seq l) sort.Array refl));
          lists = λ y. chosen y (form_at sort.List (at side y) u) (h.lists y) (y == x) refl
              ∙ ap (λ o. Done (list_in y o)) (sym (put_at u x y (Seq l) sort.List));
        }
      where
        chosen : (y : ℕ) (o : Option Nf) → list_term_of k (s.port y) ≡ Done (list_in y o) → (t : Bool) → (y == x) ≡ t
            → list_term_of k (cond t (Pushed (s.port y) e) (s.port y)) ≡ Done (list_in y (cond (t && true) (Some (Seq l)) o))
        chosen y o j true w = let same : y ≡ x = grind (arith, nat_tests) in ap (λ z. list_term_of k (Pushed (s.port z) e)) same ∙ g
        chosen y o j false w = j

  -- ---- assignments

  module _ (before : ExpressionVector) (v : List (Pos × Nf)) (b : Shows k before side v) where
    assignment_shows : (s : ExpressionVector) (u next : List (Pos × Nf)) → Shows k s side u → (x : Assignment ℕ) (c : Change)
        → evaluate_assignment side v x ≡ Done c → change side c u ≡ Done next → Shows k (expressions_after x before s) side next
    assignment_shows s u next h (Assign x e) c g i =
        let r = goes_done (evaluate side v e) (λ p. Done (SetTo x p)) c g in
        let i' : change side (SetTo x r.middle) u ≡ Done next = ap (λ z. change side z u) (same_Done (SetTo x r.middle) c r.next) ∙ i in
        subst (Shows k (expressions_after (Assign x e) before s) side) (same_Done (with_form (at side x) (Num r.middle) u) next i')
        (set_shows s u h x (path_expression before e) r.middle (expressed_term before v b e r.middle r.first))
    assignment_shows s u next h (ArrayWrite x i e) c g j =
        let r = goes_done (evaluate side v i) (λ m. after (evaluate side v e) (λ p. Done (PutAt x m p))) c g in
        let t = goes_done (evaluate side v e) (λ p. Done (PutAt x r.middle p)) c r.next in
        let j' : change side (PutAt x r.middle t.middle) u ≡ Done next = ap (λ z. change side z u) (same_Done (PutAt x r.middle t.middle) c t.next) ∙ j in
        let d = goes_done (write_array (array_form u (at side x)) r.middle t.middle) (λ a. Done (with_form (at side x) (Arr a) u)) next j' in
        let computed : array_term_of k (Stored (s.array x) (path_expression before i) (path_expression before e)) ≡ Done d.middle =
        after_done (array_term_of k (s.array x))
        (λ a. after (term_of k (path_expression before i)) (λ m. after (term_of k (path_expression before e)) (λ p. write_array a m p)))
        (array_form u (at side x)) d.middle (h.arrays x)
        (after_done (term_of k (path_expression before i))
        (λ m. after (term_of k (path_expression before e)) (λ p. write_array (array_form u (at side x)) m p)) r.middle
        d.middle (expressed_term before v b i r.middle r.first)
        (after_done (term_of k (path_expression before e)) (λ p. write_array (array_form u (at side x)) r.middle p) t.middle d.middle
        (expressed_term before v b e t.middle t.first) d.first)) in
        subst (Shows k (expressions_after (ArrayWrite x i e) before s) side) (same_Done (with_form (at side x) (Arr d.middle) u) next d.next)
        (put_shows s u h x (path_expression before i) (path_expression before e) d.middle computed)
    assignment_shows s u next h (Emit x e) c g i =
        let r = goes_done (evaluate side v e) (λ p. Done (PushTo x p)) c g in
        let i' : change side (PushTo x r.middle) u ≡ Done next = ap (λ z. change side z u) (same_Done (PushTo x r.middle) c r.next) ∙ i in
        let d = goes_done (list_with_item (list_at u (at side x)) r.middle) (λ l. Done (with_form (at side x) (Seq l) u)) next i' in
        let computed : list_term_of k (Pushed (s.port x) (path_expression before e)) ≡ Done d.middle =
        after_done (list_term_of k (s.port x)) (λ l. after (term_of k (path_expression before e)) (λ p. list_with_item l p))
        (list_at u (at side x)) d.middle (h.lists x)
        (after_done (term_of k (path_expression before e)) (λ p. list_with_item (list_at u (at side x)) p) r.middle d.middle
        (expressed_term before v b e r.middle r.first) d.first) in
        subst (Shows k (expressions_after (Emit x e) before s) side) (same_Done (with_form (at side x) (Seq d.middle) u) next d.next)
        (push_shows s u h x (path_expression before e) d.middle computed)

    assignments_show : (xs : List (Assignment ℕ)) (cs : List Change) (s : ExpressionVector) (u next : List (Pos × Nf)) → Shows k s side u
        → each (λ x. evaluate_assignment side v x) xs ≡ Done cs → change_all side cs u ≡ Done next → Shows k (acted_all xs before s) side next
    assignments_show [] cs s u next h g i =
        let i' : change_all side [] u ≡ Done next = ap (λ z. change_all side z u) (same_Done [] cs g) ∙ i in
        subst (Shows k s side) (same_Done u next i') h
    assignments_show (x ∷ xs) cs s u next h g i =
        let r = goes_done (evaluate_assignment side v x) (λ y. after (each (λ z. evaluate_assignment side v z) xs) (λ ys. Done (y ∷ ys))) cs g in
        let t = goes_done (each (λ z. evaluate_assignment side v z) xs) (λ ys. Done (r.middle ∷ ys)) cs r.next in
        let i' : change_all side (r.middle ∷ t.middle) u ≡ Done next = ap (λ z. change_all side z u) (same_Done (r.middle ∷ t.middle) cs t.next) ∙ i in
        let d = goes_done (change side r.middle u) (λ z. change_all side t.middle z) next i' in
        assignments_show xs t.middle (expressions_after x before s) d.middle next (assignment_shows s u d.middle h x r.middle r.first d.first) t.first d.next

  steps_show : (m : Fsmd) (xs : List BranchStep) (s : ExpressionVector) (v u : List (Pos × Nf)) → Shows k s side v → steps_over m side xs v ≡ Done u
      → Shows k (left_by m xs s) side u
  steps_show m [] s v u h e = subst (Shows k s side) (same_Done v u e) h
  steps_show m (x ∷ xs) s v u h e =
      let r = goes_done (act_over side (branch_at m x.state x.branch).assignments v) (λ z. steps_over m side xs z) u e in
      let t = goes_done (each (λ y. evaluate_assignment side v y) (branch_at m x.state x.branch).assignments) (λ cs. change_all side cs v) r.middle r.first in
      steps_show m xs (acted_all (branch_at m x.state x.branch).assignments s s) r.middle u
      (assignments_show s v h (branch_at m x.state x.branch).assignments t.middle s v r.middle h t.first t.next) r.next

-- steps from a vector leave in each variable what its expression is computed to over the vector
pub left_shows : (m : Fsmd) (side : Side) (xs : List BranchStep) (v u : List (Pos × Nf)) → steps_over m side xs v ≡ Done u
    → Shows (terms_of side v) (left_by m xs initial) side u
left_shows m side xs v u e = steps_show (terms_of side v) side m xs initial v u (record { numbers = λ x. refl; arrays = λ x. refl; lists = λ x. refl }) e

-- a term over a vector is that of its expression
pub initial_term : (side : Side) (v : List (Pos × Nf)) (e : Expression ℕ) → evaluate side v e ≡ term_of (terms_of side v) (path_expression initial e)
initial_term side v (Number n) = refl
initial_term side v (Variable x) = refl
initial_term side v (Read x i) = ap (λ o. after o (λ j. read_at (array_form v (at side x)) j)) (initial_term side v i)
initial_term side v (Sum a b) = ap₂ (λ z y. after z (λ p. after y (λ q. normal_sum p q))) (initial_term side v a) (initial_term side v b)
initial_term side v (Difference a b) = ap₂ (λ z y. after z (λ p. after y (λ q. normal_difference p q))) (initial_term side v a) (initial_term side v b)
initial_term side v (Product a b) = ap₂ (λ z y. after z (λ p. after y (λ q. normal_product p q))) (initial_term side v a) (initial_term side v b)
initial_term side v (Quotient a b) = ap₂ (λ z y. after z (λ p. after y (λ q. quotient_of p q))) (initial_term side v a) (initial_term side v b)
initial_term side v (Remainder a b) = ap₂ (λ z y. after z (λ p. after y (λ q. remainder_of p q))) (initial_term side v a) (initial_term side v b)
initial_term side v (Negative a) = ap (λ o. after o (λ p. Done (normal_negation p))) (initial_term side v a)

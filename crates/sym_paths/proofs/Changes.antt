-- Assignments over a vector do what they do to the store that it means.
use Rattle.std.proofs.Common.{◌≡◌, ℕ, ◌==◌, ℤ, cond, Bool, true, false, arith, refl, ap, ap₂, sym, ◌∙◌, List, [], ◌∷◌, ◌++◌, Option, Some}
use Rattle.std.specs.Prelude.{◌&&◌}
use Rattle.std.specs.Ordering.{int_eq}
use Rattle.std.proofs.lemmas.Bool.Decides.{nat_tests}
use Rattle.std.proofs.lemmas.Bool.{and_left, and_right}
use Rattle.fs_model.specs.Expressions.{Assignment, Assign, ArrayWrite, Emit}
use Rattle.fs_model.specs.Machines.{Fsmd}
use Rattle.fs_model.specs.Stores.{store_with_number, store_with_entry as stored, store_with_emit}
use Rattle.fs_model.specs.Meaning.{act, act_all}
use Rattle.fs_cut.specs.Paths.{Path, BranchStep, branch_at, steps_in, store_after_steps}
use Rattle.nf_trees.specs.NormalTerms.{Polynomial, ArrayTerm, polynomial_of_symbol, bare_array}
use Rattle.nf_terms.specs.Lists.{ListTerm, bare_list}
use Rattle.nf_terms.specs.Forms.{sort_of_form}
use Rattle.nf_trees.specs.Mentions.{same_pos}
use Rattle.nf_terms.specs.TermMeaning.{Valuation, value_of, contents, items_in}
use Rattle.nf_terms.specs.Computed.{Done, after}
use Rattle.nf_terms.specs.declared.symbols.Sort.{Sort}
use Rattle.nf_terms.specs.declared.symbols.Sort.TheVariants as sort
use Rattle.fs_model.specs.declared.sides.Side.{Side}
use Rattle.fs_model.specs.declared.sides.Side.TheVariants.{Left, Right}
use Rattle.fs_model.specs.declared.sides.Pos.{Pos}
use Rattle.fs_model.proofs.Stores.{store_ext}
use Rattle.nf_trees.specs.declared.tree.Base.TheVariants as base
use Rattle.nf_terms.specs.declared.tree.SeqBase.TheVariants as list
use Rattle.nf_terms.specs.declared.form.Nf.{Nf}
use Rattle.nf_terms.specs.declared.form.Nf.TheVariants.{Num, Arr, Seq}
use Rattle.nf_terms.specs.TermSorts.{same_term_sort}
use Rattle.nf_sums.proofs.Values.{goes_done}
use Rattle.nf_arrays.specs.Writes.{write_array}
use Rattle.nf_arrays.specs.Pushes.{list_with_item}
use Rattle.nf_arrays.proofs.Values.{write_value}
use Rattle.nf_arrays.proofs.Pushing.{push_value}
use Rattle.nf_vectors.specs.Vectors.{form_at, with_form, number_or, array_or, list_or, array_form, list_at, vector_meaning}
use Rattle.nf_vectors.proofs.Entries.{form_put}
use Rattle.sym_paths.specs.ValuationStores.{at, store_on, other}
use Rattle.sym_paths.specs.Sequences.{each}
use Rattle.sym_paths.specs.Evaluation.{evaluate, Change, SetTo, PutAt, PushTo, evaluate_assignment, change, change_all, act_over}
use Rattle.sym_paths.specs.Execution.{Post, conditions, steps_over, execute}
use Rattle.sym_paths.proofs.Values.{evaluated}

pub same_at : (side : Side) (x y : ℕ) → same_pos (at side y) (at side x) ≡ (y == x)
same_at Left x y = refl
same_at Right x y = refl

pub other_at : (side : Side) (x y : ℕ) → same_pos (at (other side) y) (at side x) ≡ false
other_at Left x y = refl
other_at Right x y = refl

-- a form that is not the one put stays
form_stays : (v : List (Pos × Nf)) (p q : Pos) (f : Nf) (s : Sort) → same_pos q p && same_term_sort s (sort_of_form f) ≡ false
    → form_at s q (with_form p f v) ≡ form_at s q v
form_stays v p q f s e = form_put v p q f s ∙ ap (λ t. cond {A = Option Nf} t (Some f) (form_at s q v)) e

-- ---- the forms of the other side stay
module _ (side : Side) where
  abbrev OthersStay : (before after : List (Pos × Nf)) → Type 0
  OthersStay v u = (y : ℕ) (s : Sort) → form_at s (at (other side) y) u ≡ form_at s (at (other side) y) v

  others_equal : (v u : List (Pos × Nf)) → v ≡ u → OthersStay v u
  others_equal v u e y s = sym (ap (form_at s (at (other side) y)) e)

  put_keeps : (v : List (Pos × Nf)) (x : ℕ) (f : Nf) → OthersStay v (with_form (at side x) f v)
  put_keeps v x f y s = form_stays v (at side x) (at (other side) y) f s
      (and_left (same_pos (at (other side) y) (at side x)) (same_term_sort s (sort_of_form f)) (other_at side x y))

  change_keeps : (v u : List (Pos × Nf)) (c : Change) → change side c v ≡ Done u → OthersStay v u
  change_keeps v u (SetTo x p) e y s = let k : with_form (at side x) (Num p) v ≡ u = cc e in
      others_equal (with_form (at side x) (Num p) v) u k y s ∙ put_keeps v x (Num p) y s
  change_keeps v u (PutAt x j p) e y s =
      let d = goes_done (write_array (array_form v (at side x)) j p) (λ a. Done (with_form (at side x) (Arr a) v)) u e in
      let k : with_form (at side x) (Arr d.middle) v ≡ u = cc d.next in
      others_equal (with_form (at side x) (Arr d.middle) v) u k y s ∙ put_keeps v x (Arr d.middle) y s
  change_keeps v u (PushTo x p) e y s =
      let d = goes_done (list_with_item (list_at v (at side x)) p) (λ l. Done (with_form (at side x) (Seq l) v)) u e in
      let k : with_form (at side x) (Seq d.middle) v ≡ u = cc d.next in
      others_equal (with_form (at side x) (Seq d.middle) v) u k y s ∙ put_keeps v x (Seq d.middle) y s

  changes_keep : (cs : List Change) (v u : List (Pos × Nf)) → change_all side cs v ≡ Done u → OthersStay v u
  changes_keep [] v u e y s = let k : v ≡ u = cc e in others_equal v u k y s
  changes_keep (c ∷ cs) v u e y s =
      let d = goes_done (change side c v) (λ z. change_all side cs z) u e in
      changes_keep cs d.middle u d.next y s ∙ change_keeps v d.middle c d.first y s

  act_keeps : (xs : List (Assignment ℕ)) (v u : List (Pos × Nf)) → act_over side xs v ≡ Done u → OthersStay v u
  act_keeps xs v u e =
      let d = goes_done (each (λ x. evaluate_assignment side v x) xs) (λ cs. change_all side cs v) u e in changes_keep d.middle v u d.next

  pub steps_keep : (m : Fsmd) (xs : List BranchStep) (v u : List (Pos × Nf)) → steps_over m side xs v ≡ Done u → OthersStay v u
  steps_keep m [] v u e y s = let k : v ≡ u = cc e in others_equal v u k y s
  steps_keep m (x ∷ xs) v u e y s =
      let d = goes_done (act_over side (branch_at m x.state x.branch).assignments v) (λ z. steps_over m side xs z) u e in
      steps_keep m xs d.middle u d.next y s ∙ act_keeps (branch_at m x.state x.branch).assignments v d.middle d.first y s

  pub executed_keeps : (m : Fsmd) (p : Path) (v : List (Pos × Nf)) (post : Post) → execute m p side v ≡ Done post → OthersStay v post.vector
  executed_keeps m p v post e y s =
      let c = goes_done (conditions m p side v) (λ ls. after (steps_over m side (steps_in p) v) (λ u. Done (record { conditions = ls; vector = u }))) post e in
      let d = goes_done (steps_over m side (steps_in p) v) (λ u. Done (record { conditions = c.middle; vector = u })) post c.next in
      let k : record { conditions = c.middle; vector = d.middle } ≡ post = cc d.next in
      others_equal d.middle post.vector (ap (λ (z : Post). z.vector) k) y s ∙ steps_keep m (steps_in p) v d.middle d.first y s

module _ (w : Valuation) (side : Side) where
  -- a number, an array or a list at a variable, where its form stays
  abbrev number_in : ℕ → Option Nf → ℤ
  number_in y o = value_of w (number_or (polynomial_of_symbol (at side y)) o)

  abbrev array_in : ℕ → Option Nf → ℤ → ℤ
  array_in y o = contents w (array_or (bare_array (base.Sym (at side y))) o)

  abbrev list_in : ℕ → Option Nf → List ℤ
  list_in y o = items_in w (list_or (bare_list (list.Sym (at side y))) o)

  keeps_sort : (v : List (Pos × Nf)) (x y : ℕ) (f : Nf) (s : Sort) → same_term_sort s (sort_of_form f) ≡ false
      → form_at s (at side y) (with_form (at side x) f v) ≡ form_at s (at side y) v
  keeps_sort v x y f s e = form_stays v (at side x) (at side y) f s (and_right (same_pos (at side y) (at side x)) (same_term_sort s (sort_of_form f)) e)

  put_at : (v : List (Pos × Nf)) (x y : ℕ) (f : Nf) (s : Sort)
      → form_at s (at side y) (with_form (at side x) f v) ≡ cond ((y == x) && same_term_sort s (sort_of_form f)) (Some f) (form_at s (at side y) v)
  put_at v x y f s = form_put v (at side x) (at side y) f s
      ∙ ap (λ t. cond {A = Option Nf} (t && same_term_sort s (sort_of_form f)) (Some f) (form_at s (at side y) v)) (same_at side x y)

  set_changes : (v : List (Pos × Nf)) (x : ℕ) (p : Polynomial)
      → store_on side (vector_meaning (with_form (at side x) (Num p) v) w) ≡ store_with_number (store_on side (vector_meaning v w)) x (value_of w p)
  set_changes v x p =
      store_ext _ _ (λ y. ap (number_in y) (put_at v x y (Num p) sort.Scalar) ∙ chosen y (form_at sort.Scalar (at side y) v) (y == x))
      (λ y i. ap (λ o. array_in y o i) (keeps_sort v x y (Num p) sort.Array refl)) (λ y. ap (list_in y) (keeps_sort v x y (Num p) sort.List refl))
    where
      chosen : (y : ℕ) (o : Option Nf) (t : Bool) → number_in y (cond (t && true) (Some (Num p)) o) ≡ cond t (value_of w p) (number_in y o)
      chosen y o true = refl
      chosen y o false = refl

  put_changes : (v : List (Pos × Nf)) (x : ℕ) (a : ArrayTerm) (i n : ℤ) → contents w a ≡ (λ j. cond (int_eq i j) n (contents w (array_form v (at side x)) j))
      → store_on side (vector_meaning (with_form (at side x) (Arr a) v) w) ≡ stored (store_on side (vector_meaning v w)) x i n
  put_changes v x a i n h =
      store_ext _ _ (λ y. ap (number_in y) (keeps_sort v x y (Arr a) sort.Scalar refl))
      (λ y j. ap (λ o. array_in y o j) (put_at v x y (Arr a) sort.Array) ∙ chosen y j (y == x) refl)
      (λ y. ap (list_in y) (keeps_sort v x y (Arr a) sort.List refl))
    where
      chosen : (y : ℕ) (j : ℤ) (t : Bool) → (y == x) ≡ t
          → array_in y (cond (t && true) (Some (Arr a)) (form_at sort.Array (at side y) v)) j
          ≡ cond t (cond (int_eq i j) n (contents w (array_form v (at side y)) j)) (contents w (array_form v (at side y)) j)
      chosen y j true e =
          let s : y ≡ x = grind (arith, nat_tests) in
          ap (λ f. f j) h ∙ ap (λ z. cond (int_eq i j) n (contents w (array_form v (at side z)) j)) (sym s)
      chosen y j false e = refl

  push_changes : (v : List (Pos × Nf)) (x : ℕ) (l : ListTerm) (n : ℤ) → items_in w l ≡ items_in w (list_at v (at side x)) ++ n ∷ []
      → store_on side (vector_meaning (with_form (at side x) (Seq l) v) w) ≡ store_with_emit (store_on side (vector_meaning v w)) x n
  push_changes v x l n h =
      store_ext _ _ (λ y. ap (number_in y) (keeps_sort v x y (Seq l) sort.Scalar refl))
      (λ y i. ap (λ o. array_in y o i) (keeps_sort v x y (Seq l) sort.Array refl))
      (λ y. ap (list_in y) (put_at v x y (Seq l) sort.List) ∙ chosen y (y == x) refl)
    where
      chosen : (y : ℕ) (t : Bool) → (y == x) ≡ t → list_in y (cond (t && true) (Some (Seq l)) (form_at sort.List (at side y) v))
          ≡ cond t (items_in w (list_at v (at side y)) ++ n ∷ []) (items_in w (list_at v (at side y)))
      chosen y true e =
          let s : y ≡ x = grind (arith, nat_tests) in
          h ∙ ap (λ z. items_in w (list_at v (at side z)) ++ n ∷ []) (sym s)
      chosen y false e = refl

  -- an assignment, evaluated over v and done in u
  assignment_done : (v u next : List (Pos × Nf)) (x : Assignment ℕ) (c : Change) → evaluate_assignment side v x ≡ Done c → change side c u ≡ Done next
      → store_on side (vector_meaning next w) ≡ act x (store_on side (vector_meaning v w)) (store_on side (vector_meaning u w))
  assignment_done v u next (Assign x e) c g h =
      let s = goes_done (evaluate side v e) (λ p. Done (SetTo x p)) c g in
      let k : SetTo x s.middle ≡ c = cc s.next in
      let h' : change side (SetTo x s.middle) u ≡ Done next = ap (λ z. change side z u) k ∙ h in
      let d : with_form (at side x) (Num s.middle) u ≡ next = cc h' in
      sym (ap (λ z. store_on side (vector_meaning z w)) d) ∙ set_changes u x s.middle
      ∙ ap (store_with_number (store_on side (vector_meaning u w)) x) (evaluated w side v e s.middle s.first)
  assignment_done v u next (ArrayWrite x i e) c g h =
      let s = goes_done (evaluate side v i) (λ j. after (evaluate side v e) (λ p. Done (PutAt x j p))) c g in
      let t = goes_done (evaluate side v e) (λ p. Done (PutAt x s.middle p)) c s.next in
      let k : PutAt x s.middle t.middle ≡ c = cc t.next in
      let h' : change side (PutAt x s.middle t.middle) u ≡ Done next = ap (λ z. change side z u) k ∙ h in
      let d = goes_done (write_array (array_form u (at side x)) s.middle t.middle) (λ a. Done (with_form (at side x) (Arr a) u)) next h' in
      let f : with_form (at side x) (Arr d.middle) u ≡ next = cc d.next in
      sym (ap (λ z. store_on side (vector_meaning z w)) f)
      ∙ put_changes u x d.middle (value_of w s.middle) (value_of w t.middle) (write_value w (array_form u (at side x)) d.middle s.middle t.middle d.first)
      ∙ ap₂ (stored (store_on side (vector_meaning u w)) x) (evaluated w side v i s.middle s.first) (evaluated w side v e t.middle t.first)
  assignment_done v u next (Emit x e) c g h =
      let s = goes_done (evaluate side v e) (λ p. Done (PushTo x p)) c g in
      let k : PushTo x s.middle ≡ c = cc s.next in
      let h' : change side (PushTo x s.middle) u ≡ Done next = ap (λ z. change side z u) k ∙ h in
      let d = goes_done (list_with_item (list_at u (at side x)) s.middle) (λ l. Done (with_form (at side x) (Seq l) u)) next h' in
      let f : with_form (at side x) (Seq d.middle) u ≡ next = cc d.next in
      sym (ap (λ z. store_on side (vector_meaning z w)) f)
      ∙ push_changes u x d.middle (value_of w s.middle) (push_value w (list_at u (at side x)) d.middle s.middle d.first)
      ∙ ap (store_with_emit (store_on side (vector_meaning u w)) x) (evaluated w side v e s.middle s.first)

  assignments_done : (v : List (Pos × Nf)) (xs : List (Assignment ℕ)) (cs : List Change) (u next : List (Pos × Nf))
      → each (λ x. evaluate_assignment side v x) xs ≡ Done cs → change_all side cs u ≡ Done next
      → store_on side (vector_meaning next w) ≡ act_all xs (store_on side (vector_meaning v w)) (store_on side (vector_meaning u w))
  assignments_done v [] cs u next g h =
      let k : [] ≡ cs = cc g in
      let h' : change_all side [] u ≡ Done next = ap (λ z. change_all side z u) k ∙ h in
      let d : u ≡ next = cc h' in
      sym (ap (λ z. store_on side (vector_meaning z w)) d)
  assignments_done v (x ∷ xs) cs u next g h =
      let s = goes_done (evaluate_assignment side v x) (λ y. after (each (λ z. evaluate_assignment side v z) xs) (λ ys. Done (y ∷ ys))) cs g in
      let t = goes_done (each (λ z. evaluate_assignment side v z) xs) (λ ys. Done (s.middle ∷ ys)) cs s.next in
      let k : s.middle ∷ t.middle ≡ cs = cc t.next in
      let h' : change_all side (s.middle ∷ t.middle) u ≡ Done next = ap (λ z. change_all side z u) k ∙ h in
      let d = goes_done (change side s.middle u) (λ z. change_all side t.middle z) next h' in
      assignments_done v xs t.middle d.middle next t.first d.next
      ∙ ap (act_all xs (store_on side (vector_meaning v w))) (assignment_done v u d.middle x s.middle s.first d.first)

  acted : (xs : List (Assignment ℕ)) (v next : List (Pos × Nf)) → act_over side xs v ≡ Done next
      → store_on side (vector_meaning next w) ≡ act_all xs (store_on side (vector_meaning v w)) (store_on side (vector_meaning v w))
  acted xs v next e =
      let s = goes_done (each (λ x. evaluate_assignment side v x) xs) (λ cs. change_all side cs v) next e in
      assignments_done v xs s.middle v next s.first s.next

  -- ---- the other side

  store_stays : (v u : List (Pos × Nf)) → OthersStay side v u → store_on (other side) (vector_meaning u w) ≡ store_on (other side) (vector_meaning v w)
  store_stays v u h =
      store_ext _ _ (λ y. ap (λ o. value_of w (number_or (polynomial_of_symbol (at (other side) y)) o)) (h y sort.Scalar))
      (λ y i. ap (λ o. contents w (array_or (bare_array (base.Sym (at (other side) y))) o) i) (h y sort.Array))
      (λ y. ap (λ o. items_in w (list_or (bare_list (list.Sym (at (other side) y))) o)) (h y sort.List))

  -- ---- steps

  pub steps_done : (m : Fsmd) (xs : List BranchStep) (v u : List (Pos × Nf)) → steps_over m side xs v ≡ Done u
      → store_on side (vector_meaning u w) ≡ store_after_steps m xs (store_on side (vector_meaning v w))
  steps_done m [] v u e = let k : v ≡ u = cc e in sym (ap (λ z. store_on side (vector_meaning z w)) k)
  steps_done m (x ∷ xs) v u e =
      let s = goes_done (act_over side (branch_at m x.state x.branch).assignments v) (λ z. steps_over m side xs z) u e in
      steps_done m xs s.middle u s.next ∙ ap (store_after_steps m xs) (acted (branch_at m x.state x.branch).assignments v s.middle s.first)

  pub steps_stay : (m : Fsmd) (xs : List BranchStep) (v u : List (Pos × Nf)) → steps_over m side xs v ≡ Done u
      → store_on (other side) (vector_meaning u w) ≡ store_on (other side) (vector_meaning v w)
  steps_stay m xs v u e = store_stays v u (steps_keep side m xs v u e)

-- Over an even vector alike paths have the same conditions, and lead to an even vector.
use Rattle.std.proofs.Common.{◌≡◌, ℕ, ap, ap₂, sym, subst, ◌∙◌, List, [], ◌∷◌, ◌++◌, Some}
use Rattle.fs_model.specs.declared.parts.Sort.TheVariants as sorts
use Rattle.fs_model.specs.Expressions.{Expression, Literal}
use Rattle.fs_model.specs.Machines.{Fsmd}
use Rattle.fs_cut.specs.Paths.{Point, Path, BranchStep, steps_in}
use Rattle.nf_trees.specs.NormalTerms.{Polynomial}
use Rattle.nf_terms.specs.Computed.{Computed, Done, after}
use Rattle.fs_model.specs.declared.sides.Side.{Side}
use Rattle.fs_model.specs.declared.sides.Side.TheVariants.{Left, Right}
use Rattle.fs_model.specs.declared.sides.Pos.{Pos}
use Rattle.nf_terms.specs.declared.form.Nf.{Nf}
use Rattle.nf_terms.proofs.Computed.{same_Done}
use Rattle.nf_sums.specs.Operations.{normal_sum, normal_difference, normal_product, normal_negation}
use Rattle.nf_sums.proofs.Values.{goes_done}
use Rattle.nf_arrays.specs.NewAtoms.{quotient_of, remainder_of}
use Rattle.nf_arrays.specs.Writes.{write_array, read_at}
use Rattle.nf_arrays.specs.Pushes.{list_with_item}
use Rattle.nf_substitution.specs.Vectors.{number_at, array_form, list_at}
use Rattle.nf_rel.specs.Literals.{NormalLiteral, literal}
use Rattle.sym_paths.specs.ValuationStores.{at, other}
use Rattle.sym_paths.specs.Sequences.{each}
use Rattle.sym_paths.specs.Evaluation.{evaluate, evaluate_literal}
use Rattle.sym_paths.specs.Execution.{Post, conditions, steps_over, execute, arrive}
use Rattle.sym_paths.proofs.Changes.{steps_keep}
use Rattle.sym_paths.proofs.SameForms.{number_same, array_same, list_same}
use Rattle.cert_bisimulation.specs.PathExpressions.{PathExpression, Constant, Initial, Element, Plus, Minus, Times, Over, Rest, Opposite, ArrayExpression}
use Rattle.cert_bisimulation.specs.PathExpressions.{InitialArray, Stored, ListExpression, InitialList, Pushed, initial, path_expression}
use Rattle.cert_bisimulation.specs.ExpressionSameness.{AreTwins, Same, SameArray, SameListExpression, SameLiterals}
use Rattle.cert_bisimulation.specs.Alike.{literals_of, left_after, AlikePaths}
use Rattle.alike_searches.specs.Evenness.{IsEven}
use Rattle.alike_searches.proofs.ExpressionTerms.{Expressions, terms_of, term_of, array_term_of, list_term_of, left_shows, initial_term}

-- ---- the other side stays

record Stays (side : Side) (v u : List (Pos × Nf)) : Type 0 where
  numbers : (x : ℕ) → number_at u (at side x) ≡ number_at v (at side x)
  arrays : (x : ℕ) → array_form u (at side x) ≡ array_form v (at side x)
  lists : (x : ℕ) → list_at u (at side x) ≡ list_at v (at side x)

steps_stay : (side : Side) (m : Fsmd) (xs : List BranchStep) (v u : List (Pos × Nf)) → steps_over m side xs v ≡ Done u → Stays (other side) v u
steps_stay side m xs v u e =
    let same = steps_keep side m xs v u e in
    record { numbers = number_same (other side) v u same; arrays = array_same (other side) v u same; lists = list_same (other side) v u same }

-- a path that is executed leaves what its steps leave
pub steps_of :
    (m : Fsmd) (p : Path) (side : Side) (v : List (Pos × Nf)) (post : Post) → execute m p side v ≡ Done post
    → steps_over m side (steps_in p) v ≡ Done post.vector
steps_of m p side v post e =
    let c = goes_done (conditions m p side v) (λ c. after (steps_over m side (steps_in p) v) (λ u. Done (record { conditions = c; vector = u }))) post e in
    let u = goes_done (steps_over m side (steps_in p) v) (λ u. Done (record { conditions = c.middle; vector = u })) post c.next in
    subst (λ (z : Post). steps_over m side (steps_in p) v ≡ Done z.vector) (same_Done (record { conditions = c.middle; vector = u.middle }) post u.next) u.first

-- ---- the same expressions have equal terms

-- the terms of twins at the start are equal
record SameTerms (a b : Fsmd) (k l : Expressions) : Type 0 where
  numbers : (x y : ℕ) → AreTwins a b sorts.Scalar x y → k.number x ≡ l.number y
  arrays : (x y : ℕ) → AreTwins a b sorts.Array x y → k.array x ≡ l.array y
  lists : (x y : ℕ) → AreTwins a b sorts.Port x y → k.list x ≡ l.list y

module _ (a b : Fsmd) where
  module _ (k l : Expressions) (h : SameTerms a b k l) where
    both : {U : Type 0} (o o' : Computed Polynomial) (f : Polynomial → Polynomial → Computed U) (r r' : Computed Polynomial) → o ≡ o' → r ≡ r'
        → after o (λ p. after r (λ q. f p q)) ≡ after o' (λ p. after r' (λ q. f p q))
    both o o' f r r' g i = ap₂ (λ z y. after z (λ p. after y (λ q. f p q))) g i

    mutual
      same_term : (x z : PathExpression) → Same a b x z → term_of k x ≡ term_of l z
      same_term (Constant c) z w = sym (ap (term_of l) w)
      same_term (Initial x) z (y, e, t) = ap Done (h.numbers x y t) ∙ sym (ap (term_of l) e)
      same_term (Element c i) z (d, j, e, g, w) = ap₂ (λ o r. after o (λ p. after r (λ q. read_at p q))) (same_array_term c d g) (same_term i j w)
          ∙ sym (ap (term_of l) e)
      same_term (Plus x y) z (c, d, e, g, w) = both (term_of k x) (term_of l c) normal_sum (term_of k y) (term_of l d) (same_term x c g) (same_term y d w)
          ∙ sym (ap (term_of l) e)
      same_term (Minus x y) z (c, d, e, g, w) = both (term_of k x) (term_of l c) normal_difference (term_of k y) (term_of l d) (same_term x c g)
          (same_term y d w)
          ∙ sym (ap (term_of l) e)
      same_term (Times x y) z (c, d, e, g, w) = both (term_of k x) (term_of l c) normal_product (term_of k y) (term_of l d) (same_term x c g) (same_term y d w)
          ∙ sym (ap (term_of l) e)
      same_term (Over x y) z (c, d, e, g, w) = both (term_of k x) (term_of l c) quotient_of (term_of k y) (term_of l d) (same_term x c g) (same_term y d w)
          ∙ sym (ap (term_of l) e)
      same_term (Rest x y) z (c, d, e, g, w) = both (term_of k x) (term_of l c) remainder_of (term_of k y) (term_of l d) (same_term x c g) (same_term y d w)
          ∙ sym (ap (term_of l) e)
      same_term (Opposite x) z (c, e, g) = ap (λ o. after o (λ p. Done (normal_negation p))) (same_term x c g) ∙ sym (ap (term_of l) e)

      same_array_term : (x z : ArrayExpression) → SameArray a b x z → array_term_of k x ≡ array_term_of l z
      same_array_term (InitialArray x) z (y, e, t) = ap Done (h.arrays x y t) ∙ sym (ap (array_term_of l) e)
      same_array_term (Stored c i x) z (d, j, y, e, g, p, q) =
          (λ r. after (same_array_term c d g r) (λ m. after (same_term i j p r) (λ n. after (same_term x y q r) (λ t. write_array m n t))))
          ∙ sym (ap (array_term_of l) e)

    same_list_term : (x z : ListExpression) → SameListExpression a b x z → list_term_of k x ≡ list_term_of l z
    same_list_term (InitialList x) z (y, e, t) = ap Done (h.lists x y t) ∙ sym (ap (list_term_of l) e)
    same_list_term (Pushed x v) z (m, w, e, g, p) = (λ r. after (same_list_term x m g r) (λ n. after (same_term v w p r) (λ t. list_with_item n t)))
        ∙ sym (ap (list_term_of l) e)

  -- ---- conditions

  module _ (v : List (Pos × Nf)) (even : IsEven a b v) where
    start_terms : SameTerms a b (terms_of Left v) (terms_of Right v)
    start_terms = record { numbers = even.numbers; arrays = even.arrays; lists = even.lists }

    same_value : (x z : Expression ℕ) → Same a b (path_expression initial x) (path_expression initial z) → evaluate Left v x ≡ evaluate Right v z
    same_value x z h = initial_term Left v x ∙ same_term (terms_of Left v) (terms_of Right v) start_terms (path_expression initial x)
        (path_expression initial z) h
        ∙ sym (initial_term Right v z)

    same_literals : (ls ms : List (Literal ℕ)) → SameLiterals a b ls ms → each (λ l. evaluate_literal Left v l) ls ≡ each (λ l. evaluate_literal Right v l) ms
    same_literals [] ms h = sym (ap (each (λ l. evaluate_literal Right v l)) h)
    same_literals (l ∷ ls) ms (m, rest, e, r, g, h, w) =
        let first : evaluate_literal Left v l ≡ evaluate_literal Right v m =
        λ i. after (same_value l.left m.left g i) (λ p. after (same_value l.right m.right h i) (λ q. literal (r i) p q)) in
        ap₂ (λ o z. after o (λ y. after z (λ ys. Done (y ∷ ys)))) first (same_literals ls rest w) ∙ sym (ap (each (λ n. evaluate_literal Right v n)) e)

    pub same_conditions : (K : List (Point × Point)) (p q : Path) → AlikePaths a b K p q → conditions a p Left v ≡ conditions b q Right v
    same_conditions K p q w = same_literals (literals_of a p) (literals_of b q) w.literals

  -- ---- a move of two paths

  moved_evenly : (K : List (Point × Point)) (p q : Path) (v u w : List (Pos × Nf)) → AlikePaths a b K p q → IsEven a b v
      → steps_over a Left (steps_in p) v ≡ Done u → steps_over b Right (steps_in q) u ≡ Done w → IsEven a b w
  moved_evenly K p q v u w same even left right =
      let kept = steps_stay Left a (steps_in p) v u left in
      let kept' = steps_stay Right b (steps_in q) u w right in
      let shown = left_shows a Left (steps_in p) v u left in
      let shown' = left_shows b Right (steps_in q) u w right in
      let start : SameTerms a b (terms_of Left v) (terms_of Right u) = started v u even kept in
      record {
        numbers = λ x y t. kept'.numbers x
            ∙ same_Done (number_at u (at Left x)) (number_at w (at Right y))
            (sym (shown.numbers x) ∙ same_term (terms_of Left v) (terms_of Right u) start ((left_after a p).scalar x) ((left_after b q).scalar y)
            (same.values.scalars x y t) ∙ shown'.numbers y);
        arrays = λ x y t. kept'.arrays x
            ∙ same_Done (array_form u (at Left x)) (array_form w (at Right y))
            (sym (shown.arrays x) ∙ same_array_term (terms_of Left v) (terms_of Right u) start ((left_after a p).array x) ((left_after b q).array y)
            (same.values.arrays x y t) ∙ shown'.arrays y);
        lists = λ x y t. kept'.lists x
            ∙ same_Done (list_at u (at Left x)) (list_at w (at Right y))
            (sym (shown.lists x) ∙ same_list_term (terms_of Left v) (terms_of Right u) start ((left_after a p).port x) ((left_after b q).port y)
            (same.values.ports x y t) ∙ shown'.lists y);
      }
    where
      started : (v u : List (Pos × Nf)) → IsEven a b v → Stays Right v u → SameTerms a b (terms_of Left v) (terms_of Right u)
      started v u even kept =
          record {
            numbers = λ x y t. even.numbers x y t ∙ sym (kept.numbers y);
            arrays = λ x y t. even.arrays x y t ∙ sym (kept.arrays y);
            lists = λ x y t. even.lists x y t ∙ sym (kept.lists y);
          }

  pub arrive_evenly : (K : List (Point × Point)) (p q : Path) (ls : List NormalLiteral) (v : List (Pos × Nf)) (post : Post) → AlikePaths a b K p q
      → IsEven a b v → arrive a b ls v (Some p) (Some q) ≡ Done post → IsEven a b post.vector
  arrive_evenly K p q ls v post same even e =
      let r = goes_done (execute a p Left v)
      (λ l. after (execute b q Right l.vector) (λ r. Done (record { conditions = ls ++ (l.conditions ++ r.conditions); vector = r.vector }))) post e in
      let s = goes_done (execute b q Right r.middle.vector)
      (λ z. Done (record { conditions = ls ++ (r.middle.conditions ++ z.conditions); vector = z.vector })) post r.next in
      subst (λ (z : Post). IsEven a b z.vector)
      (same_Done (record { conditions = ls ++ (r.middle.conditions ++ s.middle.conditions); vector = s.middle.vector }) post s.next)
      (moved_evenly K p q v r.middle.vector s.middle.vector same even (steps_of a p Left v r.middle r.first)
      (steps_of b q Right r.middle.vector s.middle s.first))

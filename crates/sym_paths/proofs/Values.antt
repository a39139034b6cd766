-- Expressions and literals over a vector mean what they mean in the store that it means.
use Rattle.std.proofs.Common.{◌≡◌, ℕ, refl, ap, ap₂, sym, subst, ◌∙◌, List, [], ◌∷◌, ◌+ℤ◌, ◌-ℤ◌, ◌*ℤ◌, neg_ℤ}
use Rattle.std.specs.Prelude.{◌&&◌}
use Rattle.std.specs.List.{list_all}
use Rattle.fs_model.specs.Division.{quotient, remainder}
use Rattle.fs_model.specs.Expressions.{Expression, Number, Variable, Read, Sum, Difference, Product, Quotient, Remainder, Negative, Literal}
use Rattle.fs_model.specs.Expressions.{Assignment, Assign, ArrayWrite, Emit}
use Rattle.fs_model.specs.Meaning.{value, relates, literal_holds}
use Rattle.nf_trees.specs.NormalTerms.{Polynomial}
use Rattle.nf_terms.specs.TermMeaning.{Valuation, value_of, contents}
use Rattle.nf_terms.specs.Computed.{Computed, Done, after, IfDone}
use Rattle.nf_terms.specs.Means.{IsNumberOf}
use Rattle.fs_model.specs.declared.sides.Side.{Side}
use Rattle.fs_model.specs.declared.sides.Pos.{Pos}
use Rattle.nf_terms.specs.declared.form.Nf.{Nf}
use Rattle.nf_sums.specs.Operations.{normal_sum, normal_difference, normal_product, normal_negation}
use Rattle.nf_sums.proofs.Exact.{number_means}
use Rattle.nf_sums.proofs.Forms.{negation_value}
use Rattle.nf_sums.proofs.Values.{goes_done, added_value, subtracted_value, multiplied_value}
use Rattle.nf_arrays.specs.NewAtoms.{quotient_of, remainder_of}
use Rattle.nf_arrays.specs.Writes.{read_at}
use Rattle.nf_arrays.proofs.Values.{read_value, quotient_value, remainder_value}
use Rattle.nf_vectors.specs.Vectors.{number_at, array_form, vector_meaning}
use Rattle.nf_rel.specs.Literals.{NormalLiteral, is_true_in, literal}
use Rattle.nf_rel.proofs.Values.{literal_means}
use Rattle.sym_paths.specs.ValuationStores.{at, store_on}
use Rattle.sym_paths.specs.Sequences.{each}
use Rattle.sym_paths.specs.Evaluation.{evaluate, evaluate_literal, evaluate_assignment, SetTo, PutAt, PushTo}

-- what two operands give in turn
pub record Operands (side : Side) (v : List (Pos × Nf)) (a b : Expression ℕ) (f : Polynomial → Polynomial → Computed Polynomial) (r : Polynomial) : Type 0 where
  pub left : Polynomial
  pub right : Polynomial
  pub left_done : evaluate side v a ≡ Done left
  pub right_done : evaluate side v b ≡ Done right
  pub done : f left right ≡ Done r

pub operands : (side : Side) (v : List (Pos × Nf)) (a b : Expression ℕ) (f : Polynomial → Polynomial → Computed Polynomial) (r : Polynomial)
    → after (evaluate side v a) (λ p. after (evaluate side v b) (λ q. f p q)) ≡ Done r → Operands side v a b f r
operands side v a b f r e =
    let s = goes_done (evaluate side v a) (λ p. after (evaluate side v b) (λ q. f p q)) r e in
    let t = goes_done (evaluate side v b) (λ q. f s.middle q) r s.next in
    record { left = s.middle; right = t.middle; left_done = s.first; right_done = t.first; done = t.next }

module _ (w : Valuation) (side : Side) (v : List (Pos × Nf)) where
  pub evaluated : (e : Expression ℕ) (r : Polynomial) → evaluate side v e ≡ Done r → value_of w r ≡ value e (store_on side (vector_meaning v w))
  evaluated (Number n) r e =
      let m : IsNumberOf (λ x. n) r = subst (λ (k : Computed Polynomial). IfDone k (IsNumberOf (λ x. n))) e (number_means n) in
      m.means w
  evaluated (Variable x) r e = let k : number_at v (at side x) ≡ r = cc e in sym (ap (value_of w) k)
  evaluated (Read x i) r e =
      let s = goes_done (evaluate side v i) (λ j. read_at (array_form v (at side x)) j) r e in
      read_value w (array_form v (at side x)) s.middle r s.next ∙ ap (contents w (array_form v (at side x))) (evaluated i s.middle s.first)
  evaluated (Sum a b) r e =
      let o = operands side v a b (λ p q. normal_sum p q) r e in
      added_value w o.left o.right r o.done ∙ ap₂ (λ x y. x +ℤ y) (evaluated a o.left o.left_done) (evaluated b o.right o.right_done)
  evaluated (Difference a b) r e =
      let o = operands side v a b (λ p q. normal_difference p q) r e in
      subtracted_value w o.left o.right r o.done ∙ ap₂ (λ x y. x -ℤ y) (evaluated a o.left o.left_done) (evaluated b o.right o.right_done)
  evaluated (Product a b) r e =
      let o = operands side v a b (λ p q. normal_product p q) r e in
      multiplied_value w o.left o.right r o.done ∙ ap₂ (λ x y. x *ℤ y) (evaluated a o.left o.left_done) (evaluated b o.right o.right_done)
  evaluated (Quotient a b) r e =
      let o = operands side v a b (λ p q. quotient_of p q) r e in
      quotient_value w o.left o.right r o.done ∙ ap₂ quotient (evaluated a o.left o.left_done) (evaluated b o.right o.right_done)
  evaluated (Remainder a b) r e =
      let o = operands side v a b (λ p q. remainder_of p q) r e in
      remainder_value w o.left o.right r o.done ∙ ap₂ remainder (evaluated a o.left o.left_done) (evaluated b o.right o.right_done)
  evaluated (Negative a) r e =
      let s = goes_done (evaluate side v a) (λ p. Done (normal_negation p)) r e in
      let k : normal_negation s.middle ≡ r = cc s.next in
      sym (ap (value_of w) k) ∙ negation_value w s.middle ∙ ap neg_ℤ (evaluated a s.middle s.first)

  literal_evaluated : (l : Literal ℕ) (n : NormalLiteral) → evaluate_literal side v l ≡ Done n
      → is_true_in w n ≡ literal_holds l (store_on side (vector_meaning v w))
  literal_evaluated l n e =
      let s = goes_done (evaluate side v l.left) (λ p. after (evaluate side v l.right) (λ q. literal l.relation p q)) n e in
      let t = goes_done (evaluate side v l.right) (λ q. literal l.relation s.middle q) n s.next in
      literal_means l.relation s.middle t.middle n w t.next ∙ ap₂ (relates l.relation) (evaluated l.left s.middle s.first) (evaluated l.right t.middle t.first)

  pub literals_evaluated : (ls : List (Literal ℕ)) (ns : List NormalLiteral) → each (λ l. evaluate_literal side v l) ls ≡ Done ns
      → list_all (is_true_in w) ns ≡ list_all (λ l. literal_holds l (store_on side (vector_meaning v w))) ls
  literals_evaluated [] ns e = let k : [] ≡ ns = cc e in sym (ap (list_all (is_true_in w)) k)
  literals_evaluated (l ∷ ls) ns e =
      let s = goes_done (evaluate_literal side v l) (λ y. after (each (λ k. evaluate_literal side v k) ls) (λ ys. Done (y ∷ ys))) ns e in
      let t = goes_done (each (λ k. evaluate_literal side v k) ls) (λ ys. Done (s.middle ∷ ys)) ns s.next in
      let k : s.middle ∷ t.middle ≡ ns = cc t.next in
      sym (ap (list_all (is_true_in w)) k) ∙ ap₂ (λ x y. x && y) (literal_evaluated l s.middle s.first) (literals_evaluated ls t.middle t.first)

-- an assignment whose parts are evaluated
module _ (side : Side) (v : List (Pos × Nf)) (a : Assignment ℕ) (x : ℕ) where
  pub assigned : (e : Expression ℕ) (p : Polynomial) → a ≡ Assign x e → evaluate side v e ≡ Done p → evaluate_assignment side v a ≡ Done (SetTo x p)
  assigned e p is given = rw (is, given) refl

  pub written : (i e : Expression ℕ) (j p : Polynomial) → a ≡ ArrayWrite x i e → evaluate side v i ≡ Done j → evaluate side v e ≡ Done p
      → evaluate_assignment side v a ≡ Done (PutAt x j p)
  written i e j p is first given = rw (is, first, given) refl

  pub emitted : (e : Expression ℕ) (p : Polynomial) → a ≡ Emit x e → evaluate side v e ≡ Done p → evaluate_assignment side v a ≡ Done (PushTo x p)
  emitted e p is given = rw (is, given) refl

-- Expressions and assignments over a vector.
use Rattle.std.specs.Prelude.{ℕ, pos, List, [], ◌∷◌}
use Rattle.fs_model.specs.Expressions.{Expression, Number, Variable, Read, Sum, Difference, Product, Quotient, Remainder}
use Rattle.fs_model.specs.Expressions.{Negative, Literal}
use Rattle.fs_model.specs.Expressions.{Assignment, Assign, ArrayWrite, Emit}
use Rattle.nf_trees.specs.NormalTerms.{Polynomial}
use Rattle.nf_terms.specs.Computed.{Computed, Done, after}
use Rattle.fs_model.specs.declared.sides.Side.{Side}
use Rattle.fs_model.specs.declared.sides.Pos.{Pos}
use Rattle.nf_terms.specs.declared.form.Nf.{Nf}
use Rattle.nf_terms.specs.declared.form.Nf.TheVariants.{Num, Arr, Seq}
use Rattle.nf_sums.specs.Operations.{normal_sum, normal_difference, normal_product, normal_negation, number}
use Rattle.nf_arrays.specs.NewAtoms.{quotient_of, remainder_of}
use Rattle.nf_arrays.specs.Writes.{write_array, read_at}
use Rattle.nf_arrays.specs.Pushes.{list_with_item}
use Rattle.nf_vectors.specs.Vectors.{number_at, array_form, list_at, with_form}
use Rattle.nf_rel.specs.Literals.{NormalLiteral, literal}
use Rattle.sym_paths.specs.ValuationStores.{at}
use Rattle.sym_paths.specs.Sequences.{each}

-- what the operator of a term makes of its operands, and 0 where it has not two
abbrev pub normal_operation : Expression ℕ → (left right : Polynomial) → Computed Polynomial
normal_operation (Number n) p q = number (pos 0)
normal_operation (Variable x) p q = number (pos 0)
normal_operation (Read x i) p q = number (pos 0)
normal_operation (Sum a b) p q = normal_sum p q
normal_operation (Difference a b) p q = normal_difference p q
normal_operation (Product a b) p q = normal_product p q
normal_operation (Quotient a b) p q = quotient_of p q
normal_operation (Remainder a b) p q = remainder_of p q
normal_operation (Negative a) p q = number (pos 0)

-- the left operand, the right operand, and then the operation; of a read the index; a variable is its vector's value
abbrev pub evaluate : Side → List (Pos × Nf) → Expression ℕ → Computed Polynomial
evaluate side v (Number n) = number n
evaluate side v (Variable x) = Done (number_at v (at side x))
evaluate side v (Read x i) = after (evaluate side v i) (λ j. read_at (array_form v (at side x)) j)
evaluate side v (Sum a b) = after (evaluate side v a) (λ p. after (evaluate side v b) (λ q. normal_sum p q))
evaluate side v (Difference a b) = after (evaluate side v a) (λ p. after (evaluate side v b) (λ q. normal_difference p q))
evaluate side v (Product a b) = after (evaluate side v a) (λ p. after (evaluate side v b) (λ q. normal_product p q))
evaluate side v (Quotient a b) = after (evaluate side v a) (λ p. after (evaluate side v b) (λ q. quotient_of p q))
evaluate side v (Remainder a b) = after (evaluate side v a) (λ p. after (evaluate side v b) (λ q. remainder_of p q))
evaluate side v (Negative a) = after (evaluate side v a) (λ p. Done (normal_negation p))

abbrev pub evaluate_literal : Side → List (Pos × Nf) → Literal ℕ → Computed NormalLiteral
evaluate_literal side v l = after (evaluate side v l.left) (λ p. after (evaluate side v l.right) (λ q. literal l.relation p q))

-- an assignment with its parts evaluated
pub data Change : Type 0 where
  SetTo : ℕ → (value : Polynomial) → Change
  PutAt : ℕ → (index value : Polynomial) → Change
  PushTo : ℕ → (value : Polynomial) → Change

abbrev pub evaluate_assignment : Side → List (Pos × Nf) → Assignment ℕ → Computed Change
evaluate_assignment side v (Assign x e) = after (evaluate side v e) (λ p. Done (SetTo x p))
evaluate_assignment side v (ArrayWrite x i e) = after (evaluate side v i)
    (λ j. after (evaluate side v e) (λ p. Done (PutAt x j p)))
evaluate_assignment side v (Emit x e) = after (evaluate side v e) (λ p. Done (PushTo x p))

abbrev pub change : Side → Change → List (Pos × Nf) → Computed (List (Pos × Nf))
change side (SetTo x p) v = Done (with_form (at side x) (Num p) v)
change side (PutAt x j p) v = after (write_array (array_form v (at side x)) j p) (λ a. Done (with_form (at side x) (Arr a) v))
change side (PushTo x p) v = after (list_with_item (list_at v (at side x)) p) (λ l. Done (with_form (at side x) (Seq l) v))

abbrev pub change_all : Side → List Change → List (Pos × Nf) → Computed (List (Pos × Nf))
change_all side [] v = Done v
change_all side (c ∷ cs) v = after (change side c v) (λ u. change_all side cs u)

-- the assignments of a transition: all are evaluated over the vector before, and then done in order
abbrev pub act_over : Side → List (Assignment ℕ) → List (Pos × Nf) → Computed (List (Pos × Nf))
act_over side assignments v = after (each (λ a. evaluate_assignment side v a) assignments) (λ cs. change_all side cs v)

-- What is computed of the forms of a side is the same over two vectors in which these are the same.
use Rattle.std.proofs.Common.{◌≡◌, ℕ, refl, ap, ap₂, List}
use Rattle.fs_model.specs.Expressions.{Expression, Number, Variable, Read, Sum, Difference, Product, Quotient, Remainder, Negative, Literal}
use Rattle.fs_model.specs.Expressions.{Assignment, Assign, ArrayWrite, Emit}
use Rattle.fs_model.specs.Machines.{Fsmd}
use Rattle.fs_model.specs.declared.sides.Side.{Side}
use Rattle.fs_model.specs.declared.sides.Pos.{Pos}
use Rattle.fs_cut.specs.Paths.{Path, state_of, branch_at}
use Rattle.nf_trees.specs.NormalTerms.{Polynomial, ArrayTerm, polynomial_of_symbol, bare_array}
use Rattle.nf_terms.specs.Lists.{bare_list}
use Rattle.nf_terms.specs.Computed.{Computed, Done, after}
use Rattle.nf_terms.specs.declared.symbols.Sort.{Sort}
use Rattle.nf_terms.specs.declared.symbols.Sort.TheVariants as sort
use Rattle.nf_trees.specs.declared.tree.Base.TheVariants as base
use Rattle.nf_terms.specs.declared.tree.SeqBase.TheVariants as list
use Rattle.nf_terms.specs.declared.form.Nf.{Nf}
use Rattle.nf_sums.specs.Operations.{normal_sum, normal_difference, normal_product, normal_negation}
use Rattle.nf_arrays.specs.NewAtoms.{quotient_of, remainder_of}
use Rattle.nf_arrays.specs.Writes.{read_at}
use Rattle.nf_vectors.specs.Vectors.{form_at, number_or, array_or, list_or, number_at, array_form, list_at}
use Rattle.nf_rel.specs.Literals.{literal}
use Rattle.sym_paths.specs.ValuationStores.{at}
use Rattle.sym_paths.specs.Sequences.{each}
use Rattle.sym_paths.specs.Evaluation.{evaluate, evaluate_literal, SetTo, PutAt, PushTo, evaluate_assignment}
use Rattle.sym_paths.specs.Execution.{conditions}

module _ (side : Side) where
  -- the forms of the side are the same in two vectors
  abbrev pub HaveSameForms : (before after : List (Pos × Nf)) → Type 0
  HaveSameForms v u = (y : ℕ) (s : Sort) → form_at s (at side y) u ≡ form_at s (at side y) v

  module _ (v u : List (Pos × Nf)) (h : HaveSameForms v u) where
    pub number_same : (x : ℕ) → number_at u (at side x) ≡ number_at v (at side x)
    number_same x = ap (number_or (polynomial_of_symbol (at side x))) (h x sort.Scalar)

    pub array_same : (x : ℕ) → array_form u (at side x) ≡ array_form v (at side x)
    array_same x = ap (array_or (bare_array (base.Sym (at side x)))) (h x sort.Array)

    pub list_same : (x : ℕ) → list_at u (at side x) ≡ list_at v (at side x)
    list_same x = ap (list_or (bare_list (list.Sym (at side x)))) (h x sort.List)

    pub value_same : (e : Expression ℕ) → evaluate side u e ≡ evaluate side v e
    value_same (Number n) = refl
    value_same (Variable x) = ap (λ o. Done (number_or (polynomial_of_symbol (at side x)) o)) (h x sort.Scalar)
    value_same (Read x i) = ap₂ (λ (c : Computed Polynomial) (a : ArrayTerm). after c (λ j. read_at a j)) (value_same i) (array_same x)
    value_same (Sum a b) =
        ap₂ (λ (c d : Computed Polynomial). after c (λ p. after d (λ q. normal_sum p q))) (value_same a) (value_same b)
    value_same (Difference a b) =
        ap₂ (λ (c d : Computed Polynomial). after c (λ p. after d (λ q. normal_difference p q))) (value_same a) (value_same b)
    value_same (Product a b) =
        ap₂ (λ (c d : Computed Polynomial). after c (λ p. after d (λ q. normal_product p q))) (value_same a) (value_same b)
    value_same (Quotient a b) =
        ap₂ (λ (c d : Computed Polynomial). after c (λ p. after d (λ q. quotient_of p q))) (value_same a) (value_same b)
    value_same (Remainder a b) =
        ap₂ (λ (c d : Computed Polynomial). after c (λ p. after d (λ q. remainder_of p q))) (value_same a) (value_same b)
    value_same (Negative a) = ap (λ (c : Computed Polynomial). after c (λ p. Done (normal_negation p))) (value_same a)

    pub literal_same : (l : Literal ℕ) → evaluate_literal side u l ≡ evaluate_literal side v l
    literal_same l =
        ap₂ (λ (c d : Computed Polynomial). after c (λ p. after d (λ q. literal l.relation p q))) (value_same l.left) (value_same l.right)

    pub assignment_same : (x : Assignment ℕ) → evaluate_assignment side u x ≡ evaluate_assignment side v x
    assignment_same (Assign x e) = ap (λ (c : Computed Polynomial). after c (λ p. Done (SetTo x p))) (value_same e)
    assignment_same (ArrayWrite x i e) =
        ap₂ (λ (c d : Computed Polynomial). after c (λ j. after d (λ p. Done (PutAt x j p)))) (value_same i) (value_same e)
    assignment_same (Emit x e) = ap (λ (c : Computed Polynomial). after c (λ p. Done (PushTo x p))) (value_same e)

    pub conditions_same : (m : Fsmd) (p : Path) → conditions m p side u ≡ conditions m p side v
    conditions_same m p = λ k. each (λ l. literal_same l k) (branch_at m (state_of m p.from) p.branch).literals

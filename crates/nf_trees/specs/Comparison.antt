-- The laws of the orders of terms: they are total, and what ties is the same.
use Rattle.std.proofs.Common.{◌≡◌, Some, refl, ap, sym, ◌∙◌}
use Rattle.std.specs.declared.cmp.Ordering.{Ordering}
use Rattle.std.specs.declared.cmp.Ordering.TheVariants.{Equal}
use Rattle.std.specs.Ordering.{eq_by_cmp, ordering_reverse}
use Rattle.std.specs.Cmp.{IsTotalOrder, IsPartialOrder, IsEquivalence, IsPartialEquivalence, partial_order_from_agreeing_total}
use Rattle.std.specs.Cmp.{partial_equiv_from_equiv, eq_by_cmp_equiv}
use Rattle.nf_trees.specs.Order.{cmp_atom, cmp_monomial, cmp_polynomial, cmp_array}
use Rattle.nf_trees.specs.Keys.{Key, cmp_key, key_reverse, key_trans}
use Rattle.nf_trees.specs.TermKeys.{key_atom, key_monomial, key_polynomial, key_array, atom_by_key, monomial_by_key}
use Rattle.nf_trees.specs.TermKeys.{polynomial_by_key, array_by_key, atom_ties, monomial_ties, polynomial_ties, array_ties}

-- an order by keys is total, where what ties is the same
pub total_by_keys : {T : Type 0} (cmp : T → T → Ordering) (key : T → Key) → ((x y : T) → cmp x y ≡ cmp_key (key x) (key y))
    → ((x y : T) → cmp x y ≡ Equal → x ≡ y) → IsTotalOrder cmp
total_by_keys cmp key same ties = record {
  antisymm = λ x y. same x y ∙ key_reverse (key x) (key y) ∙ ap ordering_reverse (sym (same y x));
  trans = λ x y z p q. same x z ∙ key_trans (key x) (key y) (key z) (sym (same x y) ∙ p) (sym (same y z) ∙ q);
  congr = λ x y z e. ap (λ t. cmp t z) (ties x y e);
}

pub atoms_total : IsTotalOrder cmp_atom
atoms_total = total_by_keys cmp_atom key_atom atom_by_key atom_ties

pub monomials_total : IsTotalOrder cmp_monomial
monomials_total = total_by_keys cmp_monomial key_monomial monomial_by_key monomial_ties

pub polynomials_total : IsTotalOrder cmp_polynomial
polynomials_total = total_by_keys cmp_polynomial key_polynomial polynomial_by_key polynomial_ties

pub arrays_total : IsTotalOrder cmp_array
arrays_total = total_by_keys cmp_array key_array array_by_key array_ties

pub polynomials_equal : IsEquivalence (eq_by_cmp cmp_polynomial)
polynomials_equal = eq_by_cmp_equiv polynomials_total

pub polynomials_equal_partly : IsPartialEquivalence (eq_by_cmp cmp_polynomial)
polynomials_equal_partly = partial_equiv_from_equiv polynomials_equal

pub polynomials_partly : IsPartialOrder (eq_by_cmp cmp_polynomial) (λ x y. Some (cmp_polynomial x y))
polynomials_partly = partial_order_from_agreeing_total cmp_polynomial polynomials_total (λ x y. refl) (λ x y. refl)

pub arrays_equal : IsEquivalence (eq_by_cmp cmp_array)
arrays_equal = eq_by_cmp_equiv arrays_total

pub arrays_equal_partly : IsPartialEquivalence (eq_by_cmp cmp_array)
arrays_equal_partly = partial_equiv_from_equiv arrays_equal

pub arrays_partly : IsPartialOrder (eq_by_cmp cmp_array) (λ x y. Some (cmp_array x y))
arrays_partly = partial_order_from_agreeing_total cmp_array arrays_total (λ x y. refl) (λ x y. refl)

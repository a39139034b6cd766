-- Sums that grow by the monomials of another, one by one.
use Rattle.std.proofs.Common.{◌≡◌, ℕ, ◌+◌, ◌≤◌, ◌<◌, ℤ, ◌+ℤ◌, true, List, length, get_or, drop, arith, ap, subst, ◌∙◌}
use Rattle.std.proofs.lemmas.Int.{ints}
use Rattle.nf_terms.proofs.Booleans.{and_first, and_second}
use Rattle.nf_trees.specs.NormalTerms.{Monomial, Polynomial, Zero, Plus, polynomial_of}
use Rattle.nf_trees.specs.View.{monomial_in}
use Rattle.nf_trees.specs.declared.tree.MonoTree.{MonoTree}
use Rattle.nf_trees.specs.Measures.{size_of, weight_of}
use Rattle.nf_terms.specs.TermLimits.{weight_limit, size_limit}
use Rattle.nf_terms.specs.Normal.{IsNormal, ordered, ordered_monomial}
use Rattle.nf_terms.specs.RawSums.{raw_sum, IsNormalFormOf}
use Rattle.nf_sums.proofs.Parts.{rest_normal}
use Rattle.nf_sums.specs.RawSumForms.{with_term, with_terms}
use Rattle.nf_sums.specs.Accumulators.{IsMeasured}
use Rattle.nf_sums.specs.OrderedSums.{worth_of, polynomial_fits, fits_monomial}
use Rattle.nf_sums.proofs.Collecting.{monomials_ordered, with_term_ordered, worth-with_term, size-with_term, weight-with_term, fits-with_term}
use Rattle.nf_sums.proofs.RawProducts.{monomials_of_ordered}
use Rattle.nf_sums.proofs.Forms.{sum_form}
use Rattle.nf_sums.proofs.Terms.{terms_in}
use Rattle.nf_sums.proofs.Turns.{next}

ordered-with_terms : (p q : Polynomial) → ordered p ≡ true → monomials_ordered q ≡ true → ordered (with_terms p q) ≡ true
ordered-with_terms p Zero o h = o
ordered-with_terms p (Plus m c q) o h = ordered-with_terms (with_term m c p) q
    (with_term_ordered m c p (and_first (ordered_monomial m) (monomials_ordered q) h) o) (and_second (ordered_monomial m) (monomials_ordered q) h)

worth-with_terms : (f : Monomial → ℤ) (p q : Polynomial) → worth_of f (with_terms p q) ≡ worth_of f p +ℤ worth_of f q
worth-with_terms f p Zero = omega (arith, ints)
worth-with_terms f p (Plus m c q) = omega (arith, ints, worth-with_terms f (with_term m c p) q, worth-with_term f m c p)

size-with_terms : (p q : Polynomial) → size_of (with_terms p q) ≤ size_of p + size_of q
size-with_terms p Zero = omega arith
size-with_terms p (Plus m c q) = omega (arith, size-with_terms (with_term m c p) q, size-with_term m c p)

weight-with_terms : (p q : Polynomial) → weight_of (with_terms p q) ≤ weight_of p + weight_of q
weight-with_terms p Zero = omega arith
weight-with_terms p (Plus m c q) = omega (arith, weight-with_terms (with_term m c p) q, weight-with_term m c p)

fits-with_terms : (p q : Polynomial) → polynomial_fits p ≡ true → polynomial_fits q ≡ true → polynomial_fits (with_terms p q) ≡ true
fits-with_terms p Zero h k = h
fits-with_terms p (Plus m c q) h k = fits-with_terms (with_term m c p) q (fits-with_term m c p (and_first (fits_monomial m) (polynomial_fits q) k) h)
    (and_second (fits_monomial m) (polynomial_fits q) k)

-- in its places a sum's monomials give the form of the raw sum
pub all_more : (p q : Polynomial) → IsNormal p → IsNormal q → weight_of p + weight_of q ≤ weight_limit → size_of p + size_of q ≤ size_limit
    → IsNormalFormOf (with_terms p q) (raw_sum p q)
all_more p q n k = sum_form p q (with_terms p q) n k (record {
  in_order = ordered-with_terms p q n.ordered (monomials_of_ordered q k.ordered);
  worth = λ f. worth-with_terms f p q;
  size = size-with_terms p q;
  weight = weight-with_terms p q;
  inside = fits-with_terms p q;
})

-- a sum on its way to the whole, and what is left to put in its place
pub record Growing (p : Polynomial) (size weight : ℕ) (left whole : Polynomial) : Type 0 where
  pub measured : IsMeasured p size weight
  pub normal : IsNormal left
  pub small : size + size_of left ≤ size_limit
  pub narrow : weight + weight_of left ≤ weight_limit
  pub reaches : with_terms p left ≡ whole

pub grown : (p : Polynomial) (size weight : ℕ) (m : Monomial) (c : ℤ) (left whole : Polynomial) → Growing p size weight (Plus m c left) whole
    → (q : Polynomial) (s w : ℕ) → q ≡ with_term m c p → IsMeasured q s w → Growing q s w left whole
grown p size weight m c left whole g q s w e i = record {
  measured = i;
  normal = rest_normal m c left g.normal;
  small = omega (arith, g.small, g.measured.has_size, i.has_size, ap size_of e, size-with_term m c p);
  narrow = omega (arith, g.narrow, g.measured.has_weight, i.has_weight, ap weight_of e, weight-with_term m c p);
  reaches = ap (λ t. with_terms t left) e ∙ g.reaches;
}

-- the next of some terms
pub at_term : (l : List (MonoTree × ℤ)) (i : ℕ) (p : Polynomial) (size weight : ℕ) (whole : Polynomial) → Growing p size weight (terms_in (drop i l)) whole
    → (x : MonoTree × ℤ) → i < length l → x ≡ get_or l i x → Growing p size weight (Plus (monomial_in x.0) x.1 (terms_in (drop (i + 1) l))) whole
at_term l i p size weight whole g x h e = subst (λ t. Growing p size weight t whole) (ap polynomial_of (next l i x h e)) g

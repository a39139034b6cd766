-- The parts of a normal polynomial.
use Rattle.std.proofs.Common.{◌≡◌, ◌≤◌, ℤ, true, ◌&&◌, not, arith}
use Rattle.std.proofs.lemmas.Bool.{and_from}
use Rattle.std.proofs.lemmas.Bool.Decides.{nat_tests}
use Rattle.std.proofs.lemmas.Int.{fits_signed_from_abs}
use Rattle.std.specs.Prelude.{pos, FitsSigned}
use Rattle.std.specs.Int.{w128}
use Rattle.std.specs.Ordering.{int_eq}
use Rattle.nf_terms.proofs.Booleans.{and_second}
use Rattle.nf_trees.specs.NormalTerms.{Monomial, Polynomial, Plus}
use Rattle.nf_trees.specs.Measures.{weight_of}
use Rattle.nf_terms.specs.Normal.{IsNormal, ordered, ordered_monomial, monomial_rises, is_light, narrow_inside, narrow_monomial}
use Rattle.nf_terms.specs.TermLimits.{weight_limit}
use Rattle.nf_terms.proofs.Simple.{light}

-- a coefficient of a normal polynomial lies in i128
pub coefficient_fits : (m : Monomial) (c : ℤ) (p : Polynomial) → IsNormal (Plus m c p) → FitsSigned w128 c
coefficient_fits m c p n = fits_signed_from_abs w128 c (omega (arith, light (Plus m c p) n))

light_is : (p : Polynomial) → weight_of p ≤ weight_limit → is_light p ≡ true
light_is p h = grind (arith, nat_tests)

-- what follows the first monomial of a normal polynomial is normal
pub rest_normal : (m : Monomial) (c : ℤ) (p : Polynomial) → IsNormal (Plus m c p) → IsNormal p
rest_normal m c p n = record {
  ordered = and_second (not (int_eq c (pos 0)) && ordered_monomial m && monomial_rises m p) (ordered p) n.ordered;
  small = omega (arith, n.small);
  shallow = omega (arith, n.shallow);
  narrow = and_from (is_light p) (narrow_inside p) (light_is p (omega (arith, light (Plus m c p) n)))
      (and_second (narrow_monomial m) _ (and_second (is_light (Plus m c p)) _ n.narrow));
}

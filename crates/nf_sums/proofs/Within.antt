-- The limits of depth and weight, atom by atom.
use Rattle.std.proofs.Common.{◌≡◌, ◌≤◌, true, nat_le, arith, refl}
use Rattle.std.proofs.lemmas.Bool.{leb-true, le-leb, and_from}
use Rattle.nf_terms.proofs.Booleans.{and_first, and_second}
use Rattle.nf_trees.specs.NormalTerms.{Monomial, Polynomial, One, Times, Zero, Plus}
use Rattle.nf_trees.specs.Measures.{depth_of, depth_of_atom, depth_of_monomial}
use Rattle.nf_terms.specs.TermLimits.{depth_limit}
use Rattle.nf_terms.specs.Normal.{IsNormal, narrow_atom, narrow_monomial, narrow_inside, is_light}
use Rattle.nf_sums.specs.OrderedSums.{polynomial_fits, fits_atom, fits_monomial}

fits_in : (m : Monomial) → narrow_monomial m ≡ true → depth_of_monomial m ≤ depth_limit → fits_monomial m ≡ true
fits_in One n d = refl
fits_in (Times a m) n d =
    and_from (fits_atom a) (fits_monomial m)
    (and_from (narrow_atom a) (nat_le (depth_of_atom a) depth_limit) (and_first (narrow_atom a) (narrow_monomial m) n)
    (le-leb (depth_of_atom a) depth_limit (omega arith)))
    (fits_in m (and_second (narrow_atom a) (narrow_monomial m) n) (omega arith))

pub fits_of : (p : Polynomial) → narrow_inside p ≡ true → depth_of p ≤ depth_limit → polynomial_fits p ≡ true
fits_of Zero n d = refl
fits_of (Plus m c p) n d =
    and_from (fits_monomial m) (polynomial_fits p)
    (fits_in m (and_first (narrow_monomial m) (narrow_inside p) n) (omega arith))
    (fits_of p (and_second (narrow_monomial m) (narrow_inside p) n) (omega arith))

narrow_in : (m : Monomial) → fits_monomial m ≡ true → narrow_monomial m ≡ true
narrow_in One h = refl
narrow_in (Times a m) h =
    and_from (narrow_atom a) (narrow_monomial m)
    (and_first (narrow_atom a) (nat_le (depth_of_atom a) depth_limit) (and_first (fits_atom a) (fits_monomial m) h))
    (narrow_in m (and_second (fits_atom a) (fits_monomial m) h))

pub narrow_of : (p : Polynomial) → polynomial_fits p ≡ true → narrow_inside p ≡ true
narrow_of Zero h = refl
narrow_of (Plus m c p) h =
    and_from (narrow_monomial m) (narrow_inside p) (narrow_in m (and_first (fits_monomial m) (polynomial_fits p) h))
    (narrow_of p (and_second (fits_monomial m) (polynomial_fits p) h))

shallow_in : (m : Monomial) → fits_monomial m ≡ true → depth_of_monomial m ≤ depth_limit
shallow_in One h = omega arith
shallow_in (Times a m) h =
    let d : depth_of_atom a ≤ depth_limit = leb-true (depth_of_atom a) depth_limit
    (and_second (narrow_atom a) (nat_le (depth_of_atom a) depth_limit) (and_first (fits_atom a) (fits_monomial m) h)) in
    omega (arith, shallow_in m (and_second (fits_atom a) (fits_monomial m) h))

pub shallow_of : (p : Polynomial) → polynomial_fits p ≡ true → depth_of p ≤ depth_limit
shallow_of Zero h = omega arith
shallow_of (Plus m c p) h =
    omega (arith, shallow_in m (and_first (fits_monomial m) (polynomial_fits p) h), shallow_of p (and_second (fits_monomial m) (polynomial_fits p) h))

-- the parts of a normal polynomial are within the limits
pub normal_fits : (p : Polynomial) → IsNormal p → polynomial_fits p ≡ true
normal_fits p n = fits_of p (and_second (is_light p) (narrow_inside p) n.narrow) n.shallow

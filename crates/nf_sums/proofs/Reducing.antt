-- What is reduced stays normal.
use Rattle.std.proofs.Common.{◌≡◌, ◌≤◌, true, refl, arith}
use Rattle.std.proofs.lemmas.Bool.{le-leb, and_from}
use Rattle.nf_terms.proofs.Booleans.{and_first, and_second}
use Rattle.nf_terms.proofs.Orderings.{is_lt-true}
use Rattle.nf_terms.proofs.Integers.{int_eq_zero-false, not_zero}
use Rattle.nf_trees.specs.NormalTerms.{Monomial, Polynomial, One, Times, Zero, Plus}
use Rattle.nf_trees.specs.Order.{cmp_monomial}
use Rattle.nf_trees.specs.Measures.{size_of, depth_of, weight_of}
use Rattle.nf_terms.specs.TermLimits.{weight_limit}
use Rattle.nf_terms.specs.Normal.{IsNormal, ordered, monomial_rises, is_light, narrow_inside, narrow_monomial, part_with_atoms}
use Rattle.nf_terms.specs.Reduced.{Reduces, Ended, Dropped, Kept}
use Rattle.nf_terms.proofs.Simple.{light}
use Rattle.nf_sums.proofs.Partings.{ordered_term, term_ordered, rises_through}

rises_reduced : (k : Monomial) {p q : Polynomial} → Reduces p q → ordered p ≡ true → monomial_rises k p ≡ true → monomial_rises k q ≡ true
rises_reduced k Ended o r = refl
rises_reduced k (Dropped {m = m} {c = c} {p = p} s) o r = let t = ordered_term m c p o in
    rises_reduced k s t.rest (rises_through k m p (is_lt-true (cmp_monomial k m) r) t.rises)
rises_reduced k (Kept n h s) o r = r

ordered_reduced : {p q : Polynomial} → Reduces p q → ordered p ≡ true → ordered q ≡ true
ordered_reduced Ended o = refl
ordered_reduced (Dropped {m = m} {c = c} {p = p} s) o = ordered_reduced s (ordered_term m c p o).rest
ordered_reduced (Kept {m = m} {c = c} {d = d} {p = p} {q = q} n h s) o =
    let t = ordered_term m c p o in
    term_ordered m d q (record { nonzero = int_eq_zero-false d n; first = t.first; rises = rises_reduced m s t.rest t.rises; rest = ordered_reduced s t.rest })

size_reduced : {p q : Polynomial} → Reduces p q → size_of q ≤ size_of p
size_reduced Ended = omega arith
size_reduced (Dropped s) = omega (arith, size_reduced s)
size_reduced (Kept n h s) = omega (arith, size_reduced s)

depth_reduced : {p q : Polynomial} → Reduces p q → depth_of q ≤ depth_of p
depth_reduced Ended = omega arith
depth_reduced (Dropped s) = omega (arith, depth_reduced s)
depth_reduced (Kept n h s) = omega (arith, depth_reduced s)

weight_reduced : {p q : Polynomial} → Reduces p q → weight_of q ≤ weight_of p
weight_reduced Ended = omega arith
weight_reduced (Dropped s) = omega (arith, weight_reduced s)
weight_reduced (Kept n h s) = omega (arith, weight_reduced s, h)

inside_reduced : {p q : Polynomial} → Reduces p q → narrow_inside p ≡ true → narrow_inside q ≡ true
inside_reduced Ended e = refl
inside_reduced (Dropped {m = m} {p = p} s) e = inside_reduced s (and_second (narrow_monomial m) (narrow_inside p) e)
inside_reduced (Kept {m = m} {p = p} {q = q} n h s) e =
    and_from (narrow_monomial m) (narrow_inside q) (and_first (narrow_monomial m) (narrow_inside p) e)
    (inside_reduced s (and_second (narrow_monomial m) (narrow_inside p) e))

-- a normal sum with fewer monomials, or with other coefficients that are no larger, is normal
pub reduced_normal : (p q : Polynomial) → IsNormal p → Reduces p q → IsNormal q
reduced_normal p q n s = record {
  ordered = ordered_reduced s n.ordered;
  small = omega (arith, n.small, size_reduced s);
  shallow = omega (arith, n.shallow, depth_reduced s);
  narrow = and_from (is_light q) (narrow_inside q) (le-leb (weight_of q) weight_limit (omega (arith, light p n, weight_reduced s)))
      (inside_reduced s (and_second (is_light p) (narrow_inside p) n.narrow));
}

-- an ordered sum is reduced to its part with atoms
pub part_reduces : (p : Polynomial) → ordered p ≡ true → Reduces p (part_with_atoms p)
part_reduces Zero o = Ended
part_reduces (Plus One c p) o = Dropped (part_reduces p (ordered_term One c p o).rest)
part_reduces (Plus (Times a m) c p) o = let t = ordered_term (Times a m) c p o in Kept (not_zero c t.nonzero) (omega arith) (part_reduces p t.rest)

-- the part with atoms of a normal sum is normal
pub part_normal : (p : Polynomial) → IsNormal p → IsNormal (part_with_atoms p)
part_normal p n = reduced_normal p (part_with_atoms p) n (part_reduces p n.ordered)

pub ruleset reductions = (reduced_normal, part_normal)

use Rattle.std.proofs.Common.{◌≡◌, ◌<◌, ◌≤◌, length, map, ◌+◌, ◌*◌}
use Rattle.term_text.specs.Machine.{ForPolynomial, ForArray, ForMonomial, term_reading, at_monomial, first_monomial_for, after_monomial, after_sum}
use Rattle.term_text.specs.Machine.{after_array}
use Rattle.term_text.specs.TermTexts.{Monomial}
use Rattle.term_text.specs.View.{times_all, written_all, sum_of, written_atom_in, written_term_in, written_write_in, base_in}
use Rattle.term_text.proofs.Openings.{opened_measure}
use Rattle.term_text.proofs.terms.+terms.Given as goal

abbrev pub decreases-atom : goal.decreases-atom
decreases-atom l = 8 * length l.bytes.now

abbrev pub decreases-writes : goal.decreases-writes
decreases-writes l = 8 * length l.bytes.now

abbrev pub decreases-read : goal.decreases-read
decreases-read l = 8 * length l.bytes.now + 1

abbrev pub decreases-head : goal.decreases-head
decreases-head l = 8 * length l.bytes.now + 1

abbrev pub decreases-atoms : goal.decreases-atoms
decreases-atoms l = 8 * length l.bytes.now

abbrev pub decreases-monomial : goal.decreases-monomial
decreases-monomial l = 8 * length l.bytes.now + 3

abbrev pub decreases-further : goal.decreases-further
decreases-further l = 8 * length l.bytes.now + 4

abbrev pub decreases-sum : goal.decreases-sum
decreases-sum l = 8 * length l.bytes.now + 5

abbrev pub decreases-polynomial : goal.decreases-polynomial
decreases-polynomial l = 8 * length l.bytes.now + 6

abbrev pub decreases-division : goal.decreases-division
decreases-division l = 8 * length l.bytes.now + 7

abbrev pub decreases-inside : goal.decreases-inside
decreases-inside l = opened_measure l.opened

abbrev pub invariant-atoms-loop-after : goal.invariant-atoms-loop-after
invariant-atoms-loop-after l =
    ((m : Monomial) (k : ForMonomial) → term_reading l.bytes (after_monomial m k) ≡ term_reading l.rest
    (after_monomial (times_all m (map written_atom_in l.atoms.items)) k)) × (length l.rest ≤ length l.bytes)

abbrev pub decreases-atoms-loop-after : goal.decreases-atoms-loop-after
decreases-atoms-loop-after l = length l.rest

abbrev pub invariant-sum-loop-after : goal.invariant-sum-loop-after
invariant-sum-loop-after l =
    ((k : ForPolynomial) → term_reading l.bytes (at_monomial (first_monomial_for l.minus k))
    ≡ term_reading l.rest (after_sum (sum_of (map written_term_in l.monomials.items)) k)) × (length l.rest < length l.bytes) × (0 < length l.monomials.items)

abbrev pub decreases-sum-loop-after : goal.decreases-sum-loop-after
decreases-sum-loop-after l = length l.rest

abbrev pub invariant-writes-loop-after : goal.invariant-writes-loop-after
invariant-writes-loop-after l =
    ((k : ForArray) → term_reading l.bytes (after_array (base_in l.base) k)
    ≡ term_reading l.rest (after_array (written_all (base_in l.base) (map written_write_in l.writes.items)) k)) × (length l.rest ≤ length l.bytes)

abbrev pub decreases-writes-loop-after : goal.decreases-writes-loop-after
decreases-writes-loop-after l = length l.rest

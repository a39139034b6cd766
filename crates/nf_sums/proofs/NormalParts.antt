-- The parts of a normal term are normal.
use Rattle.std.proofs.Common.{◌≡◌, ◌+◌, ◌≤◌, max, true, ◌&&◌, not, arith}
use Rattle.std.proofs.lemmas.Bool.{and_from}
use Rattle.nf_terms.proofs.Booleans.{and_first, and_second}
use Rattle.nf_trees.specs.NormalTerms.{Atom, Monomial, Polynomial, Writes, Symbol, Read, Quotient, Remainder, One, Times, Zero, Plus, Over, NoWrites, Write}
use Rattle.nf_trees.specs.Measures.{size_of_atom, size_of_monomial, size_of, size_of_writes, depth_of_atom, depth_of_monomial, depth_of, depth_of_writes}
use Rattle.nf_terms.specs.TermLimits.{size_limit, depth_limit}
use Rattle.nf_terms.specs.Normal.{IsNormal, IsNormalArray, ordered, ordered_atom, ordered_monomial, ordered_array, ordered_writes, atom_rises, is_constant}
use Rattle.nf_terms.specs.Normal.{is_written, write_rises, stays_read, is_light, narrow_atom, narrow_monomial, narrow_inside, narrow_array, narrow_writes}
use Rattle.nf_terms.specs.TermParts.{HasNormalParts, AtomsHaveNormalParts, MonomialsHaveNormalParts, WritesAreNormal}
use Rattle.nf_trees.specs.declared.tree.Base.{Base}
use Rattle.nf_sums.proofs.Partings.{ordered_term}

divided_parts : (a b : Polynomial) → ordered a && ordered b && not (is_constant a && is_constant b) ≡ true
    → is_light a && narrow_inside a && is_light b && narrow_inside b ≡ true → 1 + size_of a + size_of b ≤ size_limit
    → 1 + max (depth_of a) (depth_of b) ≤ depth_limit → IsNormal a × IsNormal b
divided_parts a b o n s d =
    let u = and_first (ordered a && ordered b) (not (is_constant a && is_constant b)) o in
    let v = and_first (is_light a && narrow_inside a && is_light b) (narrow_inside b) n in (
      record {
        ordered = and_first (ordered a) (ordered b) u;
        small = omega arith;
        shallow = omega arith;
        narrow = and_first (is_light a && narrow_inside a) (is_light b) v;
      },
      record {
        ordered = and_second (ordered a) (ordered b) u;
        small = omega arith;
        shallow = omega arith;
        narrow = and_from (is_light b) (narrow_inside b) (and_second (is_light a && narrow_inside a) (is_light b) v)
            (and_second (is_light a && narrow_inside a && is_light b) (narrow_inside b) n);
      },
    )

pub parts_of_atom : (a : Atom) → ordered_atom a ≡ true → narrow_atom a ≡ true → size_of_atom a ≤ size_limit → depth_of_atom a ≤ depth_limit → HasNormalParts a
parts_of_atom (Symbol p) o n s d = tt
parts_of_atom (Read a i) o n s d =
    let u = and_first (ordered_array a && ordered i) (stays_read a i) o in
    let v = and_first (narrow_array a && is_light i) (narrow_inside i) n in (
      record {
        ordered = and_first (ordered_array a) (ordered i) u;
        small = omega arith;
        shallow = omega arith;
        narrow = and_first (narrow_array a) (is_light i) v;
      },
      record {
        ordered = and_second (ordered_array a) (ordered i) u;
        small = omega arith;
        shallow = omega arith;
        narrow = and_from (is_light i) (narrow_inside i) (and_second (narrow_array a) (is_light i) v)
            (and_second (narrow_array a && is_light i) (narrow_inside i) n);
      },
    )
parts_of_atom (Quotient a b) o n s d = divided_parts a b o n s d
parts_of_atom (Remainder a b) o n s d = divided_parts a b o n s d

pub parts_of_monomial : (m : Monomial) → ordered_monomial m ≡ true → narrow_monomial m ≡ true → size_of_monomial m ≤ size_limit
    → depth_of_monomial m ≤ depth_limit → AtomsHaveNormalParts m
parts_of_monomial One o n s d = tt
parts_of_monomial (Times a m) o n s d = (
  parts_of_atom a (and_first (ordered_atom a) (atom_rises a m) (and_first (ordered_atom a && atom_rises a m) (ordered_monomial m) o))
      (and_first (narrow_atom a) (narrow_monomial m) n) (omega arith) (omega arith),
  parts_of_monomial m (and_second (ordered_atom a && atom_rises a m) (ordered_monomial m) o) (and_second (narrow_atom a) (narrow_monomial m) n)
      (omega arith) (omega arith),
)

parts_of_terms : (p : Polynomial) → ordered p ≡ true → narrow_inside p ≡ true → size_of p ≤ size_limit → depth_of p ≤ depth_limit → MonomialsHaveNormalParts p
parts_of_terms Zero o n s d = tt
parts_of_terms (Plus m c p) o n s d = (
  parts_of_monomial m (ordered_term m c p o).first (and_first (narrow_monomial m) (narrow_inside p) n) (omega arith) (omega arith),
  parts_of_terms p (ordered_term m c p o).rest (and_second (narrow_monomial m) (narrow_inside p) n) (omega arith) (omega arith),
)

-- of a polynomial
pub parts_normal : (p : Polynomial) → IsNormal p → MonomialsHaveNormalParts p
parts_normal p n = parts_of_terms p n.ordered (and_second (is_light p) (narrow_inside p) n.narrow) n.small n.shallow

writes_of_array : (ws : Writes) → ordered_writes ws ≡ true → narrow_writes ws ≡ true → size_of_writes ws ≤ size_limit → depth_of_writes ws ≤ depth_limit
    → WritesAreNormal ws
writes_of_array NoWrites o n s d = tt
writes_of_array (Write i v ws) o n s d =
    let w = not (is_written i ws) in
    let r = write_rises i ws in
    let x = and_first (ordered i && ordered v && w) r (and_first (ordered i && ordered v && w && r) (ordered_writes ws) o) in
    let y = and_first (ordered i && ordered v) w x in
    let l = and_first (is_light i && narrow_inside i && is_light v && narrow_inside v) (narrow_writes ws) n in
    let k = and_first (is_light i && narrow_inside i && is_light v) (narrow_inside v) l in (
      record {
        ordered = and_first (ordered i) (ordered v) y;
        small = omega arith;
        shallow = omega arith;
        narrow = and_first (is_light i && narrow_inside i) (is_light v) k;
      },
      record {
        ordered = and_second (ordered i) (ordered v) y;
        small = omega arith;
        shallow = omega arith;
        narrow = and_from (is_light v) (narrow_inside v) (and_second (is_light i && narrow_inside i) (is_light v) k)
            (and_second (is_light i && narrow_inside i && is_light v) (narrow_inside v) l);
      },
      writes_of_array ws (and_second (ordered i && ordered v && w && r) (ordered_writes ws) o)
          (and_second (is_light i && narrow_inside i && is_light v && narrow_inside v) (narrow_writes ws) n) (omega arith) (omega arith),
    )

-- of an array
pub writes_normal : (b : Base) (ws : Writes) → IsNormalArray (Over b ws) → WritesAreNormal ws
writes_normal b ws n = writes_of_array ws n.ordered n.narrow (omega (arith, n.small)) n.shallow

pub ruleset normal_parts = (parts_normal, writes_normal)

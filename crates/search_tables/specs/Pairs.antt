-- Pairs of points as keys: equal where both points are the same, and then hashed alike.
use Rattle.std.specs.Prelude.{◌≡◌, Bool, true, false, ◌&&◌, ◌++◌}
use Rattle.std.specs.Hash as fed
use Rattle.std.proofs.Common.{refl, ap, ap₂, sym, ◌∙◌}
use Rattle.std.proofs.lemmas.Bool.{eq-eqb, and_from}
use Rattle.std.specs.Cmp.{IsPartialEquivalence, IsEquivalence}
use Rattle.base_laws.proofs.Booleans.{and_first, and_second}
use Rattle.fs_cut.specs.Paths.{Point, Start, At, Done}
use Rattle.fs_cut.specs.Covers.{same_point}
use Rattle.fs_cut.specs.View.{point_of}
use Rattle.fs_cut.proofs.Listed.{same_is}
use Rattle.cert_model.specs.PointKeys.{point_number}
use Rattle.search_tables.specs.declared.pairs.PointPair.{PointPair}

-- whether two pairs are of the same points
abbrev pub same_pair : PointPair → PointPair → Bool
same_pair a b = same_point (point_of b.left) (point_of a.left) && same_point (point_of b.right) (point_of a.right)

own_point : (P : Point) → same_point P P ≡ true
own_point Start = refl
own_point (At q) = eq-eqb q q refl
own_point Done = refl

left_same : (a b : PointPair) → same_pair a b ≡ true → point_of b.left ≡ point_of a.left
left_same a b e = same_is (point_of b.left) (point_of a.left)
    (and_first (same_point (point_of b.left) (point_of a.left)) (same_point (point_of b.right) (point_of a.right)) e)

right_same : (a b : PointPair) → same_pair a b ≡ true → point_of b.right ≡ point_of a.right
right_same a b e = same_is (point_of b.right) (point_of a.right)
    (and_second (same_point (point_of b.left) (point_of a.left)) (same_point (point_of b.right) (point_of a.right)) e)

own_pair : (a : PointPair) → same_pair a a ≡ true
own_pair a = and_from (same_point (point_of a.left) (point_of a.left)) (same_point (point_of a.right) (point_of a.right))
    (own_point (point_of a.left)) (own_point (point_of a.right))

-- a pair is the same as another where the other one is
turned : (a b : PointPair) → same_pair a b ≡ true → same_pair b a ≡ true
turned a b e =
    and_from (same_point (point_of a.left) (point_of b.left)) (same_point (point_of a.right) (point_of b.right))
    (ap (λ P. same_point (point_of a.left) P) (left_same a b e) ∙ own_point (point_of a.left))
    (ap (λ P. same_point (point_of a.right) P) (right_same a b e) ∙ own_point (point_of a.right))

same_turned : (a b : PointPair) → same_pair a b ≡ same_pair b a
same_turned a b = by_values (same_pair a b) (same_pair b a) refl refl
  where
    by_values : (t u : Bool) → same_pair a b ≡ t → same_pair b a ≡ u → t ≡ u
    by_values true true e f = refl
    by_values true false e f = sym (turned a b e) ∙ f
    by_values false true e f = sym e ∙ turned b a f
    by_values false false e f = refl

alike : (a b d : PointPair) → same_pair a b ≡ true → same_pair a d ≡ same_pair b d
alike a b d e =
    sym (ap₂ (λ P Q. same_point (point_of d.left) P && same_point (point_of d.right) Q) (left_same a b e) (right_same a b e))

pub pairs_partly : IsPartialEquivalence same_pair
pairs_partly = record { symm = same_turned; trans = λ a b d e f. alike a b d e ∙ f }

pub pairs_same : IsEquivalence same_pair
pairs_same = record { refl = own_pair; symm = same_turned; congr = alike }

pub pairs_alike : (a b : PointPair) → same_pair a b ≡ true
    → fed.u64 (point_number (point_of a.left)) ++ fed.u64 (point_number (point_of a.right))
    ≡ fed.u64 (point_number (point_of b.left)) ++ fed.u64 (point_number (point_of b.right))
pairs_alike a b e = sym (ap₂ (λ P Q. fed.u64 (point_number P) ++ fed.u64 (point_number Q)) (left_same a b e) (right_same a b e))

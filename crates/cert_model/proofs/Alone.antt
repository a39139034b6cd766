-- Of nodes at different points at most one stands at two points.
use Rattle.std.proofs.Common.{◌≡◌, ℕ, ◌≤◌, Bool, true, false, cond, not, ◌&&◌, ◌||◌, List, [], ◌∷◌, length, refl, ap, subst, ◌∙◌, sym, arith, Some, None}
use Rattle.std.specs.List.{list_any}
use Rattle.std.proofs.lemmas.Bool.{or_parts, not-true}
use Rattle.fs_model.proofs.Booleans.{and_first, and_second, true_and_false}
use Rattle.fs_cut.specs.Paths.{Point}
use Rattle.fs_cut.specs.Covers.{same_point}
use Rattle.fs_cut.proofs.Listed.{same_is}
use Rattle.cert_bisimulation.specs.Tables.{Node}
use Rattle.sym_facts.specs.Facts.{Fact}
use Rattle.nf_terms.specs.Computed.{Done, Wide, Large}
use Rattle.cert_model.specs.declared.reason.Reason.{Reason}
use Rattle.cert_model.specs.Lawful.{points_differ}
use Rattle.cert_model.specs.Obligations.{Judged, nodes_at, one_of}

abbrev stands_at : Node Fact → Node Fact → Bool
stands_at n k = same_point n.left k.left && same_point n.right k.right

-- behind a node at two points, at which none of the others stands, there is none
none_there : (n : Node Fact) (P Q : Point) → same_point n.left P && same_point n.right Q ≡ true → (ns : List (Node Fact))
    → list_any (stands_at n) ns ≡ false → nodes_at ns P Q ≡ []
none_there n P Q here [] h = refl
none_there n P Q here (k ∷ ns) h = by_test (same_point k.left P && same_point k.right Q) refl (λ apart. none_there n P Q here ns apart)
  where
    parts : (stands_at n k ≡ false) × (list_any (stands_at n) ns ≡ false)
    parts = or_parts (stands_at n k) (list_any (stands_at n) ns) h

    by_test : (t : Bool) → same_point k.left P && same_point k.right Q ≡ t → (list_any (stands_at n) ns ≡ false → nodes_at ns P Q ≡ [])
        → cond t (k ∷ nodes_at ns P Q) (nodes_at ns P Q) ≡ []
    by_test true e again =
        let left : k.left ≡ P = same_is k.left P (and_first (same_point k.left P) (same_point k.right Q) e) in
        let right : k.right ≡ Q = same_is k.right Q (and_second (same_point k.left P) (same_point k.right Q) e) in
        absurd (true_and_false (stands_at n k) ((λ j. same_point n.left (left j) && same_point n.right (right j)) ∙ here) parts.0)
    by_test false e again = again parts.1

pub at_most_one : (ns : List (Node Fact)) (P Q : Point) → points_differ ns ≡ true → length (nodes_at ns P Q) ≤ 1
at_most_one [] P Q h = omega arith
at_most_one (n ∷ ns) P Q h = by_test (same_point n.left P && same_point n.right Q) refl (λ apart. at_most_one ns P Q apart)
  where
    by_test : (t : Bool) → same_point n.left P && same_point n.right Q ≡ t → (points_differ ns ≡ true → length (nodes_at ns P Q) ≤ 1)
        → length (cond t (n ∷ nodes_at ns P Q) (nodes_at ns P Q)) ≤ 1
    by_test true e again =
        let apart : list_any (stands_at n) ns ≡ false =
        not-true (list_any (stands_at n) ns) (and_first (not (list_any (stands_at n) ns)) (points_differ ns) h) in
        let none : nodes_at ns P Q ≡ [] = none_there n P Q e ns apart in
        omega (arith, ap length none)
    by_test false e again = again (and_second (not (list_any (stands_at n) ns)) (points_differ ns) h)

-- one alone is judged as itself
pub one_alone : (none : Reason) (j : Judged) → one_of none (j ∷ []) ≡ j
one_alone none (Done None) = refl
one_alone none (Done (Some r)) = refl
one_alone none (Wide u v) = refl
one_alone none (Large u v) = refl

-- The target of a move is the certificate's node at its points.
use Rattle.std.proofs.Common.{◌≡◌, ℕ, suc, ◌+◌, refl, ap, ◌∙◌, arith, Bool, true, false, cond, List, [], ◌∷◌, map, Some}
use Rattle.std.specs.Prelude.{slice_get}
use Rattle.fs_cut.specs.Paths.{Point}
use Rattle.cert_bisimulation.specs.Tables.{Node as CertificateNode}
use Rattle.cert_model.specs.Facts.{Fact}
use Rattle.cert_model.specs.Obligations.{nodes_at}
use Rattle.search_tables.specs.SearchTables.{SearchNode, Known, target_from, is_at}
use Rattle.search_tables.specs.Certifying.{node_without_mode}

pub known_same : (j k : ℕ) (a n : SearchNode) → Known j a ≡ Known k n → (j ≡ k) × (a ≡ n)
known_same j k a n e = (cc e, cc e)

-- the first node at two points, by its number
pub record Stands (cs : List (CertificateNode Fact)) (P Q : Point) (i k : ℕ) (t : SearchNode) : Type 0 where
  pub place : ℕ
  pub number : k ≡ i + place
  pub node : CertificateNode Fact
  pub is_in : slice_get cs place ≡ Some node
  pub same : node_without_mode node ≡ t
  pub others : List (CertificateNode Fact)
  pub first : nodes_at cs P Q ≡ node ∷ others

pub standing : (P Q : Point) (i : ℕ) (cs : List (CertificateNode Fact)) (k : ℕ) (t : SearchNode) → target_from P Q i (map node_without_mode cs) ≡ Known k t
    → Stands cs P Q i k t
standing P Q i [] k t e = absurd (cc e)
standing P Q i (c ∷ cs) k t e = by_test (is_at P Q (node_without_mode c)) refl e (λ g. standing P Q (i + 1) cs k t g)
  where
    by_test : (b : Bool) → is_at P Q (node_without_mode c) ≡ b
        → cond b (Known i (node_without_mode c)) (target_from P Q (i + 1) (map node_without_mode cs)) ≡ Known k t
        → (target_from P Q (i + 1) (map node_without_mode cs) ≡ Known k t → Stands cs P Q (i + 1) k t) → Stands (c ∷ cs) P Q i k t
    by_test true h g again =
        let s = known_same i k (node_without_mode c) t g in
        record {
          place = 0;
          number = omega (arith, s.0);
          node = c;
          is_in = refl;
          same = s.1;
          others = nodes_at cs P Q;
          first = ap (λ b. cond b (c ∷ nodes_at cs P Q) (nodes_at cs P Q)) h;
        }
    by_test false h g again =
        let s = again g in
        record {
          place = suc s.place;
          number = omega (arith, s.number);
          node = s.node;
          is_in = s.is_in;
          same = s.same;
          others = s.others;
          first = ap (λ b. cond b (c ∷ nodes_at cs P Q) (nodes_at cs P Q)) h ∙ s.first;
        }

-- The certificate of a well-formed table is lawful.
use Rattle.std.proofs.Common.{◌≡◌, ℕ, suc, ◌≤◌, refl, ap, sym, subst, ◌∙◌, arith, Bool, true, List, [], ◌∷◌, map}
use Rattle.std.proofs.lemmas.Bool.Decides.{nat_tests}
use Rattle.std.proofs.lemmas.List.{length-map}
use Rattle.std.specs.Prelude.{◌&&◌, nat_le, slice_index}
use Rattle.std.specs.List.{list_all, AllByRecursion}
use Rattle.std.proofs.lemmas.Bool.{and_from}
use Rattle.fs_cut.specs.Paths.{is_point}
use Rattle.cert_bisimulation.specs.Tables.{Node as CertificateNode}
use Rattle.cert_model.specs.Facts.{Fact}
use Rattle.cert_model.specs.Pairings.{IsFactOf}
use Rattle.cert_model.specs.Lawful.{most_rank, IsLawful}
use Rattle.search_tables.specs.SearchTables.{MachinePair, positions_of, SearchNode, Table}
use Rattle.search_tables.specs.TableInvariants.{IsWellFormed}
use Rattle.search_tables.specs.Certifying.{node_without_mode, Certifies}

all_again : (f : SearchNode → Bool) (cs : List (CertificateNode Fact)) → list_all (λ c. f (node_without_mode c)) cs ≡ list_all f (map node_without_mode cs)
all_again f [] = refl
all_again f (c ∷ cs) = ap (λ b. f (node_without_mode c) && b) (all_again f cs)

ranks_low : (cs : List (CertificateNode Fact)) → ((i : ℕ) → slice_index (map (λ c. c.rank) cs) i ≤ most_rank)
    → list_all (λ c. nat_le c.rank most_rank) cs ≡ true
ranks_low [] h = refl
ranks_low (c ∷ cs) h =
    let low : c.rank ≤ most_rank = h 0 in
    let test : nat_le c.rank most_rank ≡ true = grind (arith, nat_tests) in
    and_from (nat_le c.rank most_rank) (list_all (λ d. nat_le d.rank most_rank) cs) test (ranks_low cs (λ i. h (suc i)))

facts_again : (P : Fact → Type 0) (cs : List (CertificateNode Fact)) → AllByRecursion (λ (n : SearchNode). P n.fact) (map node_without_mode cs)
    → AllByRecursion (λ (c : CertificateNode Fact). P c.fact) cs
facts_again P [] h = tt
facts_again P (c ∷ cs) h = (h.0, facts_again P cs h.1)

pub lawful : (m : MachinePair) (T : Table) (ranks : List ℕ) (cs : List (CertificateNode Fact)) → IsWellFormed m T
    → AllByRecursion (λ n. IsFactOf (positions_of m) n.fact) T → ((i : ℕ) → slice_index ranks i ≤ most_rank) → Certifies m T ranks cs
    → IsLawful m.left m.right cs
lawful m T ranks cs w facts low h =
    let v : IsWellFormed m (map node_without_mode cs) = subst (IsWellFormed m) (sym h.nodes) w in
    record {
      few = omega (arith, v.few, length-map cs node_without_mode);
      points = all_again (λ n. is_point m.left n.left && is_point m.right n.right) cs ∙ v.points;
      ranks = ranks_low cs (subst (λ rs. (i : ℕ) → slice_index rs i ≤ most_rank) (sym h.ranks_are) low);
      facts = facts_again (IsFactOf (positions_of m)) cs (subst (AllByRecursion (λ (n : SearchNode). IsFactOf (positions_of m) n.fact)) (sym h.nodes) facts);
    }

-- What a ranking and the modes of a closed table give.
use Rattle.std.proofs.Common.{◌≡◌, ℕ, ap, sym, subst, ◌∙◌, List, [], ◌∷◌, length, map}
use Rattle.std.specs.Prelude.{Result, Ok, Err, IfOk}
use Rattle.std.specs.List.{AllByRecursion}
use Rattle.fs_model.specs.Machines.{Fsmd}
use Rattle.cert_bisimulation.specs.declared.mode.Mode.{Mode}
use Rattle.cert_bisimulation.specs.Tables.{Node as CertificateNode}
use Rattle.nf_trees.specs.declared.stop.NoMemory.{NoMemory}
use Rattle.sym_facts.specs.Facts.{Fact}
use Rattle.search_tables.specs.Modes.{Traced, Found}
use Rattle.cert_model.specs.View.{node_of}
use Rattle.search_tables.specs.Graphs.{IsCycle, BeginsLeast, AreRanks}
use Rattle.search_tables.specs.Walks.{IsRanking}
use Rattle.search_tables.specs.declared.ranking.Ranking.{Ranking}
use Rattle.search_tables.specs.declared.ranking.Ranking.TheVariants as rankings
use Rattle.search_tables.specs.SearchTables.{MachinePair, Table}
use Rattle.search_tables.specs.declared.nodes.SearchNode.{SearchNode as CodeNode}
use Rattle.search_tables.specs.View.{table_in}
use Rattle.search_tables.specs.Next.{mode_at}
use Rattle.search_tables.specs.LoneMoves.{lone_moves, Spins}
use Rattle.search_tables.specs.Certifying.{node_without_mode, Certifies}
use Rattle.search_closing.specs.Closings.{GivesClosing, HasCount, IsMadeOf, ClosesBy}
use Rattle.search_closing.specs.ClosedModes.{AreModes, cycle_side}
use Rattle.search_closing.specs.declared.closing.Closing.{Closing}
use Rattle.search_closing.specs.declared.closing.Closing.TheVariants as closings
use Rattle.search_closing.proofs.Sides.{spins}

abbrev found : Mode → Traced Mode
found x = Found x

each_found : (m : MachinePair) (cs : List (CertificateNode Fact)) → map found (map (λ c. c.mode) cs) ≡ map (mode_at m) (map node_without_mode cs)
    → AllByRecursion (λ c. mode_at m (node_without_mode c) ≡ Found c.mode) cs
each_found m [] e = tt
each_found m (c ∷ cs) e = (cc e, each_found m cs (cc e))

certified : (m : MachinePair) (T : Table) (modes : List Mode) (ranks : List ℕ) (cs : List (CertificateNode Fact)) → AreModes m T modes
    → IsMadeOf T modes ranks cs → Certifies m T ranks cs
certified m T modes ranks cs e h = record {
  nodes = h.nodes_are;
  modes = each_found m cs (ap (map found) h.modes_are ∙ e ∙ ap (map (mode_at m)) (sym h.nodes_are));
  ranks_are = h.ranks_are;
}

pub gives : (m : MachinePair) (T : Table) (modes : List Mode) (r : Ranking) (E : List (List ℕ)) (c : Closing) → AreModes m T modes → E ≡ lone_moves m T
    → IsRanking E r → ClosesBy T modes r c → GivesClosing m T c
gives m T modes (rankings.Ranks ranks) E (closings.Certified cert) a e h b = record {
  ranks = ranks.items;
  are_ranks = subst (λ F. AreRanks F ranks.items) e h.0;
  low = h.1;
  certifies = certified m T modes ranks.items (map node_of cert.nodes.items) a b;
}
gives m T modes (rankings.Cycle cycle) E (closings.Spins side nodes) a e h b =
    let s : Spins m T (cycle_side modes cycle.items) cycle.items =
    spins m T modes cycle.items a (subst (λ F. IsCycle F cycle.items) e h.0) (subst (λ F. BeginsLeast F cycle.items) e h.1) in
    subst (λ d. Spins m T d nodes.items) (sym b.0) (subst (λ ks. Spins m T (cycle_side modes cycle.items) ks) (sym b.1) s)
gives m T modes (rankings.Ranks ranks) E (closings.Spins side nodes) a e h b = absurd b
gives m T modes (rankings.Cycle cycle) E (closings.Certified cert) a e h b = absurd b

-- there are as many ranks as nodes
pub counted : (n : ℕ) (E : List (List ℕ)) (r : Ranking) → length E ≡ n → IsRanking E r → HasCount n r
counted n E (rankings.Ranks ranks) e h = h.0.count ∙ e
counted n E (rankings.Cycle cycle) e h = tt

-- what an answer gives
pub answered : (m : MachinePair) (T : Table) (modes : List Mode) (r : Ranking) (E : List (List ℕ)) (result : Result Closing NoMemory) → AreModes m T modes
    → E ≡ lone_moves m T → IsRanking E r → IfOk result (λ c. ClosesBy T modes r c) → IfOk result (GivesClosing m T)
answered m T modes r E (Ok c) a e h b = gives m T modes r E c a e h b
answered m T modes r E (Err z) a e h b = tt

-- what holds of two machines and nodes holds of the machines that are read, and of the slice
pub at_machines : (P : MachinePair → Table → Type 0) (m : MachinePair) (a b : Fsmd) (ns slice : List CodeNode) → m.left ≡ a → m.right ≡ b → slice ≡ ns
    → P (record { left = a; right = b }) (table_in ns) → P m (table_in slice)
at_machines P m a b ns slice l r e h =
    subst (λ xs. P m (table_in xs)) (sym e)
    (subst (λ x. P (record { left = x; right = m.right }) (table_in ns)) (sym l)
    (subst (λ y. P (record { left = a; right = y }) (table_in ns)) (sym r) h))

pub of_machines : (m : MachinePair) (a b : Fsmd) (T : Table) (result : Result Closing NoMemory) → m.left ≡ a → m.right ≡ b
    → IfOk result (GivesClosing m T) → IfOk result (GivesClosing (record { left = a; right = b }) T)
of_machines m a b T result l r h =
    subst (λ x. IfOk result (GivesClosing (record { left = x; right = b }) T)) l
    (subst (λ y. IfOk result (GivesClosing (record { left = m.left; right = y }) T)) r h)

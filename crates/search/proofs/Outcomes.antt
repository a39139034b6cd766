-- The two ways in which a search ends: with a certificate, or with an obstacle.
use Rattle.std.proofs.Common.{◌≡◌, ℕ, ◌+◌, ◌*◌, ◌≤◌, arith, List, length, map, None}
use Rattle.std.specs.List.{AllByRecursion}
use Rattle.fs_model.specs.SoundMachines.{IsSound}
use Rattle.fs_pair.specs.Interfaces.{interface_fault}
use Rattle.cert_bisimulation.specs.Tables.{Node as CertificateNode}
use Rattle.sym_facts.specs.Facts.{Fact, most_literals}
use Rattle.sym_facts.specs.Pairings.{IsFactOf}
use Rattle.cert_model.specs.Lawful.{most_nodes}
use Rattle.cert_model.specs.Kept.{AreNormal}
use Rattle.search_tables.specs.declared.moves.Move.{Move}
use Rattle.search_tables.specs.SearchTables.{MachinePair, Table, positions_of}
use Rattle.search_tables.specs.Next.{IsClosed}
use Rattle.search_tables.specs.Legal.{Makes, difference_in}
use Rattle.search_tables.specs.Obstacles.{Obstacle, StandsIn}
use Rattle.search_tables.specs.View.{Points, points_at}
use Rattle.search_tables.proofs.Forming.{well_formed}
use Rattle.search_tables.proofs.Lawful.{lawful}
use Rattle.search_tables.proofs.Certified.{certified}
use Rattle.search_tables.proofs.Bounded.{legal_short}
use Rattle.search_closing.specs.Closings.{HasCertificate}
use Rattle.search.specs.SearchOutcomes.{IsClosedWith, most_positions, most_legal_moves, StopsAtObstacle}
use Rattle.search.proofs.FewPositions.{few_positions}

pub closes : (m : MachinePair) (moves : List Move) (T : Table) (nodes : List (CertificateNode Fact)) → IsSound m.left → IsSound m.right
    → interface_fault m.left m.right ≡ None → Makes m moves T
    → AllByRecursion (λ n. IsFactOf (positions_of m) n.fact) T → IsClosed m T → difference_in m T ≡ None → HasCertificate m T nodes → AreNormal nodes
    → IsClosedWith m nodes
closes m moves T nodes left right matched makes facts closed none h normal = record {
  left_sound = left;
  right_sound = right;
  moves = moves;
  table = T;
  makes = makes;
  closed = closed;
  none_differ = none;
  ranks = h.ranks;
  are_ranks = h.are_ranks;
  certifies = h.certifies;
  lawful = lawful m T h.ranks nodes (well_formed m left right moves T makes) facts h.low h.certifies;
  normal = normal;
  hold = certified m left matched moves T h.ranks nodes makes closed none h.are_ranks h.certifies;
}

-- of so few positions there are so few moves
low : (n k : ℕ) → n ≤ most_nodes * (k + most_literals + 1) → k ≤ most_positions → n ≤ most_legal_moves
low n k h p = omega (arith, h, p)

pub stops : (m : MachinePair) (moves : List Move) (T : Table) (points : List Points) (o : Obstacle) → IsSound m.left → IsSound m.right → Makes m moves T
    → map points_at T ≡ points → StandsIn m T o → StopsAtObstacle m moves points o
stops m moves T points o left right makes e h = record {
  left_sound = left;
  right_sound = right;
  table = T;
  makes = makes;
  points_are = e;
  stands = h;
  short = legal_short m moves T makes;
  few = low (length moves) (length (positions_of m)) (legal_short m moves T makes) (few_positions m.left m.right left right);
}

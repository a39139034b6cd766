-- The facts of each table that a legal list of moves makes are of the pairing.
use Rattle.std.proofs.Common.{◌≡◌, ℕ, zero, suc, inl, inr, subst, List, [], ◌∷◌}
use Rattle.std.specs.Prelude.{slice_set}
use Rattle.std.specs.List.{AllByRecursion}
use Rattle.base_laws.proofs.Quantifiers.{each_append, each_at}
use Rattle.fs_cut.specs.Paths.{Point}
use Rattle.fs_pair.specs.declared.positions.Position.{Position}
use Rattle.propagate.specs.Execution.{Post, arrive, end_of}
use Rattle.cert_model.specs.Facts.{vector_of}
use Rattle.cert_model.specs.Pairings.{IsFactOf}
use Rattle.cert_model.proofs.StartSolved.{of_the_pairing}
use Rattle.propagate.proofs.Paired.{rebase_paired}
use Rattle.propagate.proofs.JoinPaired.{join_paired}
use Rattle.search_tables.specs.declared.moves.Move.{Move}
use Rattle.search_tables.specs.SearchTables.{MachinePair, positions_of, SearchNode, Table, first_table}
use Rattle.search_tables.specs.Next.{Change, next_move}
use Rattle.search_tables.specs.Legal.{MovesLead, Makes}
use Rattle.search_tables.proofs.Forming.{known_in}
use Rattle.search_tables.proofs.Changing.{next_does, Adds, Weakens, arrives_so}

abbrev pub AreOf : List Position → Table → Type 0
AreOf ps T = AllByRecursion (λ (n : SearchNode). IsFactOf ps n.fact) T

pub all_set : (P : SearchNode → Type 0) (ns : List SearchNode) (k : ℕ) (x : SearchNode) → AllByRecursion P ns → P x → AllByRecursion P (slice_set ns k x)
all_set P [] k x h g = tt
all_set P (n ∷ ns) zero x h g = (g, h.1)
all_set P (n ∷ ns) (suc k) x h g = (h.0, all_set P ns k x h.1 g)

module _ (ps : List Position) (T U : Table) (P Q : Point) (post : Post) (h : AreOf ps T) where
  added_of : Adds ps T U P Q post → AreOf ps U
  added_of a =
      subst (AreOf ps) a.is
      (each_append (λ (n : SearchNode). IsFactOf ps n.fact) T (record { left = P; right = Q; fact = a.fact } ∷ []) h
      (rebase_paired post ps a.fact a.rebased, tt))

  weakened_of : Weakens T U P Q post → AreOf ps U
  weakened_of w =
      let j = known_in P Q 0 T w.number w.node w.target in
      let old = each_at (λ (n : SearchNode). IsFactOf ps n.fact) T j.0 w.node h j.2 in
      subst (AreOf ps) w.is
      (all_set (λ (n : SearchNode). IsFactOf ps n.fact) T w.number (record { left = w.node.left; right = w.node.right; fact = w.fact }) h
      (join_paired ps w.node.fact w.fact post w.missing w.joined old))

module _ (m : MachinePair) where
  next_of : (T U : Table) (y : Move) → AreOf (positions_of m) T → next_move m T ≡ Change y U → AreOf (positions_of m) U
  next_of T U y h e =
      let d = next_does m T U y e in
      let P = end_of d.node.left d.paths.left in
      let Q = end_of d.node.right d.paths.right in
      let a = arrives_so (positions_of m) T U P Q
      (arrive m.left m.right d.node.fact.literals (vector_of d.node.fact.positions) d.paths.left d.paths.right) d.does in
      elim a.changes [ inl x ↦ added_of (positions_of m) T U P Q a.post h x | inr x ↦ weakened_of (positions_of m) T U P Q a.post h x ]

  lead_of : (moves : List Move) (S T : Table) → AreOf (positions_of m) S → MovesLead m S moves T → AreOf (positions_of m) T
  lead_of [] S T h e = subst (AreOf (positions_of m)) e h
  lead_of (x ∷ xs) S T h e = lead_of xs e.0 T (next_of S e.0 x h e.2) e.3

  pub legal_facts : (moves : List Move) (T : Table) → Makes m moves T → AreOf (positions_of m) T
  legal_facts moves T e = lead_of moves (first_table m) T (of_the_pairing m.left m.right, tt) e.lead

-- The first node of each table is the start node: no move leads to its points.
use Rattle.std.proofs.Common.{◌≡◌, inl, inr, ℕ, suc, ◌+◌, refl, ap, sym, subst, ◌∙◌, arith, Bool, true, false, cond, List, [], ◌∷◌, ◌++◌, map, Some, None}
use Rattle.std.specs.Prelude.{◌&&◌, ◌==◌, length, slice_set}
use Rattle.std.specs.List.{range_with_len, AllByRecursion}
use Rattle.std.proofs.lemmas.Bool.{and_right}
use Rattle.base_laws.proofs.Quantifiers.{each_weaker, each_at}
use Rattle.fs_model.specs.SoundMachines.{branch_count}
use Rattle.fs_model.specs.Machines.{Fsmd}
use Rattle.fs_cut.specs.Paths.{Point, Start, At, Done, Path, end_at, target_of}
use Rattle.fs_cut.specs.Covers.{same_point, state_reached, path_by, paths_of}
use Rattle.fs_pair.specs.declared.positions.Position.{Position}
use Rattle.cert_bisimulation.specs.declared.mode.Mode.{Mode}
use Rattle.cert_bisimulation.specs.declared.mode.Mode.TheVariants.{Both, Left, Right, End}
use Rattle.propagate.specs.Execution.{Post, end_of, arrive}
use Rattle.cert_model.specs.Facts.{vector_of}
use Rattle.search_tables.specs.declared.moves.Move.{Move}
use Rattle.search_tables.specs.SearchTables.{MachinePair, positions_of, SearchNode, Table, start_node, first_table, Known, target_from, with_fact, PathPair}
use Rattle.search_tables.specs.Next.{paths_in, Change, next_move}
use Rattle.search_tables.specs.Legal.{MovesLead, Makes}
use Rattle.search_tables.proofs.Lists.{all_mapped, all_from, all_flat}
use Rattle.search_tables.proofs.Targets.{known_same}
use Rattle.search_tables.proofs.Changing.{next_does, Adds, Weakens, arrives_so}

-- ---- no move leads to the start
abbrev LeavesStart : SearchNode → PathPair → Type 0
LeavesStart n x = same_point Start (end_of n.left x.left) && same_point Start (end_of n.right x.right) ≡ false

not_start : (m : Fsmd) (q : ℕ) → same_point Start (end_at m q) ≡ false
not_start m q = by_test (q == m.reset)
  where
    by_test : (b : Bool) → same_point Start (cond b Done (At q)) ≡ false
    by_test true = refl
    by_test false = refl

abbrev EndsOff : Path → Type 0
EndsOff p = same_point Start p.to ≡ false

paths_end_off : (m : Fsmd) (P : Point) → AllByRecursion EndsOff (paths_of m P)
paths_end_off m Start = all_mapped EndsOff (path_by m Start m.reset) (range_with_len 0 (branch_count m m.reset))
    (λ k. not_start m (state_reached m (length m.states) (target_of m m.reset k)))
paths_end_off m (At q) = all_mapped EndsOff (path_by m (At q) q) (range_with_len 0 (branch_count m q))
    (λ k. not_start m (state_reached m (length m.states) (target_of m q k)))
paths_end_off m Done = tt

moves_leave : (m : MachinePair) (n : SearchNode) (x : Mode) → AllByRecursion (LeavesStart n) (paths_in m n x)
moves_leave m n Both =
    all_flat (LeavesStart n) (λ p. map (λ q. record { left = Some p; right = Some q }) (paths_of m.right n.right)) (paths_of m.left n.left)
    (each_weaker EndsOff (λ p. AllByRecursion (LeavesStart n) (map (λ q. record { left = Some p; right = Some q }) (paths_of m.right n.right)))
    (paths_of m.left n.left)
    (λ p h. all_mapped (LeavesStart n) (λ q. record { left = Some p; right = Some q }) (paths_of m.right n.right) (λ q. ap (λ b. b && same_point Start q.to) h))
    (paths_end_off m.left n.left))
moves_leave m n Left = all_from EndsOff (LeavesStart n) (λ p. record { left = Some p; right = None }) (paths_of m.left n.left)
    (λ p h. ap (λ b. b && same_point Start n.right) h) (paths_end_off m.left n.left)
moves_leave m n Right = all_from EndsOff (LeavesStart n) (λ q. record { left = None; right = Some q }) (paths_of m.right n.right)
    (λ q h. and_right (same_point Start n.left) (same_point Start q.to) h) (paths_end_off m.right n.right)
moves_leave m n End = tt

-- ---- what a change does
-- the table begins with this node
abbrev Begins : SearchNode → Table → Type 0
Begins s T = (rest : List SearchNode) × (T ≡ s ∷ rest)

from_one : (P Q : Point) (i : ℕ) (ns : List SearchNode) (k : ℕ) (t : SearchNode) → target_from P Q (suc i) ns ≡ Known k t → (j : ℕ) × (k ≡ suc j)
from_one P Q i [] k t e = absurd (cc e)
from_one P Q i (n ∷ ns) k t e = by_test (same_point n.left P && same_point n.right Q) e (λ g. from_one P Q (i + 1) ns k t g)
  where
    step : (suc i) + 1 ≡ suc (i + 1)
    step = omega arith

    by_test : (b : Bool) → cond b (Known (suc i) n) (target_from P Q ((suc i) + 1) ns) ≡ Known k t
        → (target_from P Q (suc (i + 1)) ns ≡ Known k t → (j : ℕ) × (k ≡ suc j)) → (j : ℕ) × (k ≡ suc j)
    by_test true g again = (i, sym (known_same (suc i) k n t g).0)
    by_test false g again = again (ap (λ z. target_from P Q z ns) (sym step) ∙ g)

module _ (s : SearchNode) (rest : List SearchNode) (P Q : Point) (off : same_point s.left P && same_point s.right Q ≡ false) where
  added_begins : (ps : List Position) (U : Table) (post : Post) → Adds ps (s ∷ rest) U P Q post → Begins s U
  added_begins ps U post a = (rest ++ record { left = P; right = Q; fact = a.fact } ∷ [], sym a.is)

  weakened_begins : (U : Table) (post : Post) → Weakens (s ∷ rest) U P Q post → Begins s U
  weakened_begins U post w =
      let at : target_from P Q 1 rest ≡ Known w.number w.node = sym (ap (λ b. cond b (Known 0 s) (target_from P Q 1 rest)) off) ∙ w.target in
      let j = from_one P Q 0 rest w.number w.node at in
      (slice_set rest j.0 (record { left = w.node.left; right = w.node.right; fact = w.fact }), sym w.is ∙ ap (λ k. with_fact (s ∷ rest) k w.node w.fact) j.1)

next_begins : (m : MachinePair) (rest : List SearchNode) (U : Table) (y : Move) → next_move m (start_node m ∷ rest) ≡ Change y U → Begins (start_node m) U
next_begins m rest U y h =
    let s = start_node m in
    let d = next_does m (s ∷ rest) U y h in
    let off = each_at (LeavesStart d.node) (paths_in m d.node d.mode) d.number d.paths (moves_leave m d.node d.mode) d.listed in
    let P = end_of d.node.left d.paths.left in
    let Q = end_of d.node.right d.paths.right in
    let a = arrives_so (positions_of m) (s ∷ rest) U P Q
    (arrive m.left m.right d.node.fact.literals (vector_of d.node.fact.positions) d.paths.left d.paths.right) d.does in
    elim a.changes [ inl x ↦ added_begins s rest P Q off (positions_of m) U a.post x | inr x ↦ weakened_begins s rest P Q off U a.post x ]

lead_begins : (m : MachinePair) (moves : List Move) (S T : Table) → Begins (start_node m) S → MovesLead m S moves T → Begins (start_node m) T
lead_begins m [] S T b h = (b.0, sym h ∙ b.1)
lead_begins m (x ∷ xs) S T b h = lead_begins m xs h.0 T (next_begins m b.0 h.0 x (subst (λ R. next_move m R ≡ Change x h.0) b.1 h.2)) h.3

pub begins_with_start : (m : MachinePair) (moves : List Move) (T : Table) → Makes m moves T → (rest : List SearchNode) × (T ≡ start_node m ∷ rest)
begins_with_start m moves T h = lead_begins m moves (first_table m) T ([], refl) h.lead

-- The facts of tables are of the positions.
use Rattle.std.proofs.Common.{◌≡◌, ℕ, List, [], ◌∷◌, sym, subst}
use Rattle.fs_model.proofs.Quantifiers.{each_append, each_at}
use Rattle.search_tables.proofs.FactsOfPairing.{all_set}
use Rattle.fs_cut.specs.Paths.{Point}
use Rattle.fs_pair.specs.declared.positions.Position.{Position}
use Rattle.sym_facts.specs.Pairings.{IsFactOf}
use Rattle.search_tables.specs.SearchTables.{SearchNode, Table, Known, node_target}
use Rattle.search_tables.proofs.Forming.{known_in}
use Rattle.show_move_lines.specs.MoveReplays.{Turn, Idle, Makes, Weakens, with_turn, AreOf, HasFactOf}

pub turned : (ps : List Position) (T : Table) (t : Turn) → AreOf ps T → HasFactOf ps t → AreOf ps (with_turn T t)
turned ps T Idle h g = h
turned ps T (Makes P Q f) h g = each_append (λ (n : SearchNode). IsFactOf ps n.fact) T (record { left = P; right = Q; fact = f } ∷ []) h (g, tt)
turned ps T (Weakens k P Q post x f) h g = all_set (λ (n : SearchNode). IsFactOf ps n.fact) T k (record { left = P; right = Q; fact = f }) h g

pub turned_to : (ps : List Position) (T U : Table) (t : Turn) → AreOf ps T → HasFactOf ps t → U ≡ with_turn T t → AreOf ps U
turned_to ps T U t h g e = subst (AreOf ps) (sym e) (turned ps T t h g)

pub known_fact : (ps : List Position) (T : Table) (P Q : Point) (k : ℕ) (n : SearchNode) → AreOf ps T → node_target T P Q ≡ Known k n → IsFactOf ps n.fact
known_fact ps T P Q k n h e =
    let j = known_in P Q 0 T k n e in
    each_at (λ (n : SearchNode). IsFactOf ps n.fact) T j.0 n h j.2

use Rattle.std.proofs.Common.{refl, sym, subst, ◌∙◌, length}
use Rattle.std.proofs.lemmas.List.{length-map}
use Rattle.search_tables.specs.LoneMoves.{lone_moves}
use Rattle.search_tables.specs.Next.{IsClosed}
use Rattle.search_tables.specs.TableInvariants.{IsWellFormed}
use Rattle.search_tables.specs.View.{table_in, search_node_in}
use Rattle.search_tables.specs.Walks.{IsRanking}
use Rattle.search_closing.specs.ClosedModes.{AreModes}
use Rattle.search_closing.specs.View.{covered_machines}
use Rattle.search_closing.proofs.Found.{same_count}
use Rattle.search_closing.proofs.Edges.{edge_count}
use Rattle.search_closing.proofs.Made.{at_machines, of_machines, counted, answered}
use Rattle.search_closing.proofs.closing.close.Goals as goal

pub modes_of-requires-clause-formed : goal.modes_of-requires-clause-formed
modes_of-requires-clause-formed c =
    at_machines IsWellFormed (covered_machines c.of-machines.result) c.args.a.now c.args.b.now c.args.nodes.items c.as_slice.result.now
    c.of-machines.ensures.left c.of-machines.ensures.right c.as_slice.ensures.value c.requires.well_formed

pub modes_of-requires-clause-closed : goal.modes_of-requires-clause-closed
modes_of-requires-clause-closed c =
    at_machines IsClosed (covered_machines c.of-machines.result) c.args.a.now c.args.b.now c.args.nodes.items c.as_slice.result.now
    c.of-machines.ensures.left c.of-machines.ensures.right c.as_slice.ensures.value c.requires.closed

pub rank-requires-clause-formed : goal.rank-requires-clause-formed
rank-requires-clause-formed c =
    at_machines IsWellFormed (covered_machines c.of-machines.result) c.args.a.now c.args.b.now c.args.nodes.items c.as_slice-2.result.now
    c.of-machines.ensures.left c.of-machines.ensures.right c.as_slice-2.ensures.value c.requires.well_formed

pub rank-requires-clause-closed : goal.rank-requires-clause-closed
rank-requires-clause-closed c =
    at_machines IsClosed (covered_machines c.of-machines.result) c.args.a.now c.args.b.now c.args.nodes.items c.as_slice-2.result.now
    c.of-machines.ensures.left c.of-machines.ensures.right c.as_slice-2.ensures.value c.requires.closed

pub rank-requires-clause-modes : goal.rank-requires-clause-modes
rank-requires-clause-modes c =
    let m = covered_machines c.of-machines.result in
    subst (AreModes m (table_in c.as_slice-2.result.now)) (sym c.as_slice-3.ensures.value)
    (subst (λ xs. AreModes m (table_in xs) c.in_ok-modes.modes.items) (c.as_slice.ensures.value ∙ sym c.as_slice-2.ensures.value) c.in_ok-modes.ensures)

pub close_by-requires-clause-modes : goal.close_by-requires-clause-modes
close_by-requires-clause-modes c =
    let ns = c.args.nodes.items in
    let m = covered_machines c.of-machines.result in
    let a = subst (AreModes m (table_in ns)) (sym c.as_slice-4.ensures.value)
    (subst (λ xs. AreModes m (table_in xs) c.in_ok-modes.modes.items) c.as_slice.ensures.value c.in_ok-modes.ensures) in
    same_count m (table_in ns) c.as_slice-4.result.now a ∙ length-map ns search_node_in

pub close_by-requires-clause-ranks : goal.close_by-requires-clause-ranks
close_by-requires-clause-ranks c =
    let ns = c.args.nodes.items in
    let m = covered_machines c.of-machines.result in
    counted (length ns) (lone_moves m (table_in ns)) c.in_ok-ranking.ranking (edge_count m (table_in ns) ∙ length-map ns search_node_in)
    (subst (λ xs. IsRanking (lone_moves m (table_in xs)) c.in_ok-ranking.ranking) c.as_slice-2.ensures.value c.in_ok-ranking.ensures)

pub returns : goal.returns
returns c =
    let ns = c.args.nodes.items in
    let m = covered_machines c.of-machines.result in
    let a = subst (AreModes m (table_in ns)) (sym c.as_slice-4.ensures.value)
    (subst (λ xs. AreModes m (table_in xs) c.in_ok-modes.modes.items) c.as_slice.ensures.value c.in_ok-modes.ensures) in
    of_machines m c.args.a.now c.args.b.now (table_in ns) c.close_by.result c.of-machines.ensures.left c.of-machines.ensures.right
    (answered m (table_in ns) c.as_slice-4.result.now c.in_ok-ranking.ranking (lone_moves m (table_in ns)) c.close_by.result a refl
    (subst (λ xs. IsRanking (lone_moves m (table_in xs)) c.in_ok-ranking.ranking) c.as_slice-2.ensures.value c.in_ok-ranking.ensures)
    c.close_by.ensures)

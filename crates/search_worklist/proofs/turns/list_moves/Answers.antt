use Rattle.std.proofs.Common.{◌≡◌, ◌+◌, ◌≤◌, length, rules, ap₂, refl, sym, ◌∙◌, subst}
use Rattle.std.specs.BTreeSet.{btree_set_len}
use Rattle.propagate.specs.Modes.{Found}
use Rattle.search_tables.specs.Next.{mode_at}
use Rattle.search_places.specs.NodeRecords.{NodeRecord}
use Rattle.search_places.specs.Moves.{moves_in_mode}
use Rattle.search_waiting.specs.ItemOrder.{waits, AddsMoves}
use Rattle.search_places.specs.View.{node_record_in}
use Rattle.search_worklist.specs.States.{records}
use Rattle.search_worklist.specs.View.{machines_in}
use Rattle.search_worklist.proofs.Legal.{left_point, right_point}
use Rattle.search_places.proofs.Moved.{moves_are}
use Rattle.search_worklist.proofs.Found.{found_turned}
use Rattle.search_worklist.proofs.turns.list_moves.Goals as goal

pub left_paths-lefts-requires : goal.left_paths-lefts-requires
left_paths-lefts-requires c = left_point (machines_in c.args.m.now) (records c.args.state.now) c.requires.made c.args.node
    (node_record_in c.node_at.result) c.node_at.ensures

pub right_paths-rights-requires : goal.right_paths-rights-requires
right_paths-rights-requires c = right_point (machines_in c.args.m.now) (records c.args.state.now) c.requires.made c.args.node
    (node_record_in c.node_at.result) c.node_at.ensures

pub returns : goal.returns
returns c =
    let m = machines_in c.args.m.now in
    let l = node_record_in c.node_at.result in
    let xs = c.in_ok-moves.moves.items in
    let t = c.requires.found in
    let same : t.node_record ≡ l = (let a = t.is_in in let b = c.node_at.ensures in cc) in
    let many : c.len.result ≡ length xs = search rules in
    found_turned m c.args.state.now _ c.add_moves.new.waiting c.args.node l c.args.mode xs c.requires.ready refl c.node_at.ensures
    (subst (λ (z : NodeRecord). mode_at m z.node ≡ Found c.args.mode) same t.found)
    (c.in_ok-moves.ensures.moves ∙ ap₂ (λ ps qs. moves_in_mode c.args.node ps qs c.args.mode) c.left_paths-lefts.ensures.paths
    c.right_paths-rights.ensures.paths ∙ sym (moves_are m c.args.node l.node c.args.mode)) c.in_ok-moves.ensures.few c.requires.waits
    (subst (λ n. AddsMoves (waits c.args.state.now.waiting) (waits c.add_moves.new.waiting) c.args.node n) many c.in_ok-add_moves.ensures.added)
    (subst (λ n. btree_set_len c.add_moves.new.waiting ≤ btree_set_len c.args.state.now.waiting + n) many c.in_ok-add_moves.ensures.many)
    c.remove.ensures.dropped c.remove.ensures.fewer c.set_moves.ensures

use Rattle.std.proofs.Common.{◌≡◌, ap, rules, sym, ◌∙◌, subst, arith}
use Rattle.fs_cut.specs.View.{point_of}
use Rattle.sym_paths.specs.View.{post_in}
use Rattle.sym_facts.specs.Pairings.{IsFactOf}
use Rattle.sym_facts.specs.View.{missing_in}
use Rattle.search_tables.specs.SearchTables.{positions_of, Known, node_target, within_units}
use Rattle.search_places.specs.NodeRecords.{NodeRecord}
use Rattle.search_places.specs.View.{node_record_in}
use Rattle.search_worklist.specs.NodeUpdates.{put_fact}
use Rattle.search_worklist.specs.States.{records, table}
use Rattle.search_worklist.specs.View.{machines_in}
use Rattle.search_worklist.proofs.Legal.{node_in, fact_of}
use Rattle.search_worklist.proofs.Judged.{part_le, put_known_units, join_gives, gives_change, effect_there}
use Rattle.search_worklist.proofs.trials.try_known.Goals as goal

pub returns-then-is_nothing : goal.returns-then-is_nothing
returns-then-is_nothing c =
    let l = node_record_in c.node_at.result in
    let s = c.requires.stands in
    let same : s.0 ≡ l = (let a = s.1 in let b = c.node_at.ensures in cc) in (
      c.requires.is_open,
      record {
        node = l.node;
        target = s.2 ∙ ap (λ (z : NodeRecord). Known c.args.number z.node) same;
        missing = missing_in c.in_ok-miss.miss;
        compared = c.in_ok-miss.ensures;
        nothing = sym c.if-is_nothing.ensures;
      },
    )

pub join-requires-clause-pairing : goal.join-requires-clause-pairing
join-requires-clause-pairing c =
    let p : c.args.m.now.pairing.now ≡ positions_of (machines_in c.args.m.now) = search rules in
    subst (λ ps. IsFactOf ps c.node_at.result.entry.now.fact) (sym p)
    (fact_of (machines_in c.args.m.now) (records c.args.state.now) c.requires.made c.args.number (node_record_in c.node_at.result) c.node_at.ensures)

pub overflow_sub-state : goal.overflow_sub-state
overflow_sub-state c =
    let g = node_in (machines_in c.args.m.now) (records c.args.state.now) c.requires.made c.args.number (node_record_in c.node_at.result) c.node_at.ensures in
    omega (arith, part_le (table c.args.state.now) c.args.number (node_record_in c.node_at.result).node g, c.size.ensures, c.requires.sized)

pub returns : goal.returns
returns c =
    let ps = positions_of (machines_in c.args.m.now) in
    let T = table c.args.state.now in
    let P = point_of c.args.left in
    let Q = point_of c.args.right in
    let post = post_in c.args.post.now in
    let f = c.in_ok-fact.fact in
    let l = node_record_in c.node_at.result in
    let s = c.requires.stands in
    let same : s.0 ≡ l = (let a = s.1 in let b = c.node_at.ensures in cc) in
    let there : node_target T P Q ≡ Known c.args.number l.node = s.2 ∙ ap (λ (z : NodeRecord). Known c.args.number z.node) same in
    gives_change T P Q post (effect_there ps T P Q post) (within_units (put_fact T P Q f)) c.give_fact.result
    (join_gives ps T P Q post c.args.number l.node there (missing_in c.in_ok-miss.miss) c.in_ok-miss.ensures
    (sym c.if-is_nothing.ensures) f c.in_ok-fact.ensures)
    (c.give_fact.ensures T (put_known_units ps T P Q post c.args.number l.node there f c.args.state.now.units c.size.result c.requires.sized c.size.ensures))

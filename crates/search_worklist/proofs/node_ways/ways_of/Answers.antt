use Rattle.std.proofs.Common.{map, ◌∙◌}
use Rattle.fs_model.specs.declared.sides.Side.TheVariants.{Left, Right}
use Rattle.sym_paths.specs.Execution.{execute}
use Rattle.search_places.specs.View.{node_record_in}
use Rattle.search_worklist.specs.States.{records}
use Rattle.search_worklist.specs.View.{machines_in}
use Rattle.search_worklist.proofs.Legal.{node_in, left_point, right_point}
use Rattle.search_worklist.proofs.node_ways.ways_of.Goals as goal

pub left_paths-left_paths-requires : goal.left_paths-left_paths-requires
left_paths-left_paths-requires c = left_point (machines_in c.args.m.now) (records c.args.state.now) c.requires.made c.args.node
    (node_record_in c.node_at-from.result) c.node_at-from.ensures

pub right_paths-right_paths-requires : goal.right_paths-right_paths-requires
right_paths-right_paths-requires c = right_point (machines_in c.args.m.now) (records c.args.state.now) c.requires.made c.args.node
    (node_record_in c.node_at-from.result) c.node_at-from.ensures

pub returns : goal.returns
returns c =
    let m = machines_in c.args.m.now in
    let l = node_record_in c.node_at-from.result in
    record {
      node = l.node;
      is_in = node_in m (records c.args.state.now) c.requires.made c.args.node l c.node_at-from.ensures;
      lefts = c.in_ok-lefts.ensures.ways ∙ (λ k. map (λ p. (p, execute m.left p Left (c.in_ok-v.ensures k))) (c.left_paths-left_paths.ensures.paths k));
      rights = c.in_ok-rights.ensures.ways ∙ (λ k. map (λ p. (p, execute m.right p Right (c.in_ok-v.ensures k))) (c.right_paths-right_paths.ensures.paths k));
    }

use Rattle.std.proofs.Common.{ap, ◌∙◌}
use Rattle.fs_cut.specs.View.{point_of}
use Rattle.nf_terms.specs.Computed.{Done}
use Rattle.sym_paths.specs.Execution.{end_of}
use Rattle.sym_paths.specs.View.{post_in}
use Rattle.search_places.specs.View.{node_record_in}
use Rattle.search_places.specs.Moves.{path_in, paths_at}
use Rattle.search_worklist.specs.States.{records, table}
use Rattle.search_worklist.specs.View.{machines_in}
use Rattle.search_worklist.proofs.Legal.{left_point, right_point}
use Rattle.search_worklist.proofs.Judged.{arrives_by, arrival_tries}
use Rattle.search_worklist.proofs.trials.try_move.Goals as goal

pub left_paths-requires : goal.left_paths-requires
left_paths-requires c = left_point (machines_in c.args.m.now) (records c.args.state.now) c.requires.made c.args.at.node
    (node_record_in c.node_at-from.result) c.node_at-from.ensures

pub right_paths-requires : goal.right_paths-requires
right_paths-requires c = right_point (machines_in c.args.m.now) (records c.args.state.now) c.requires.made c.args.at.node
    (node_record_in c.node_at-from.result) c.node_at-from.ensures

pub returns : goal.returns
returns c =
    let m = machines_in c.args.m.now in
    let l = node_record_in c.node_at-from.result in
    let left = c.path_by-left.ensures ∙ ap (λ ps. path_in ps c.args.at.left) c.left_paths.ensures.paths in
    let right = c.path_by-right.ensures ∙ ap (λ ps. path_in ps c.args.at.right) c.right_paths.ensures.paths in
    let post = post_in c.in_ok-post.post in
    record {
      node_record = l;
      is_in = c.node_at-from.ensures;
      tries = arrival_tries m (table c.args.state.now) l.node (paths_at m l.node c.args.at) (point_of c.end_of-left.result)
          (point_of c.end_of-right.result) post c.try_arrival.result
          (arrives_by m l.node c.args.at _ _ (Done post) left right c.in_ok-post.ensures) (c.end_of-left.ensures ∙ ap (end_of l.node.left) left)
          (c.end_of-right.ensures ∙ ap (end_of l.node.right) right) c.try_arrival.ensures;
    }

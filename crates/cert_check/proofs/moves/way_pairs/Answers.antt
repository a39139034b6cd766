use Rattle.std.proofs.Common.{map, ap, ◌∙◌}
use Rattle.std.specs.List.{flat_map}
use Rattle.std.specs.Prelude.{Some}
use Rattle.fs_cut.specs.View.{path_of}
use Rattle.sym_entailment.specs.Outcomes.{way_in}
use Rattle.cert_model.specs.View.{node_of}
use Rattle.cert_check.specs.View.{move_in}
use Rattle.cert_check.proofs.Results.{answer_over}
use Rattle.cert_check.proofs.Ways.{ways_move}
use Rattle.cert_check.proofs.moves.way_pairs.Goals as goal

pub returns-clause-moves : goal.returns-clause-moves
returns-clause-moves c =
    let t = c.args.table.now in
    let n = node_of c.args.node.now in
    let lefts = map path_of c.args.lefts.now in
    let rights = map path_of c.args.rights.now in
    answer_over c.args.first _ (flat_map (λ l. map (λ r. move_in t n (Some l) (Some r)) rights) lefts) c.left_ways.result
    (ways_move c.outcomes_tell_refuted_arrivals.ensures t n _ c.in_ok-v.ensures _ lefts rights
    (ap (map way_in) c.as_slice.ensures.value ∙ c.in_ok-rights.ensures.ways))
    c.left_ways.ensures.moves

use Rattle.std.proofs.Common.{◌+◌, map, drop, option_map, ap, ◌∙◌}
use Rattle.fs_model.proofs.Lists.{map_drop_next}
use Rattle.nf_terms.specs.Computed.{Done}
use Rattle.sym_paths.specs.View.{post_in}
use Rattle.cert_model.specs.Obligations.{reaches}
use Rattle.cert_model.specs.View.{node_of}
use Rattle.cert_check.specs.View.{falls_from, behind}
use Rattle.cert_check.proofs.Targets.{next_fails}
use Rattle.cert_check.proofs.moves.judge_targets.Goals as goal

pub loop-target-preserved : goal.loop-target-preserved
loop-target-preserved c =
    let all = c.args.targets.now in
    let i = c.loop-target.target-index in
    let from = option_map (λ n. node_of n.now) c.args.from in
    let post = post_in c.args.post.now in
    let left = map (λ t. node_of t.now) (drop (i + 1) all) in
    ap (λ o. behind o (reaches c.args.none left (falls_from from) post)) c.or-first.ensures
    ∙ next_fails c.args.none from post c.loop-target.first (node_of c.target-item.result.now) (map (λ t. node_of t.now) (drop i all)) left
    c.falls_from.result c.in-Some.reason _
    (map_drop_next (λ t. node_of t.now) all i c.target-item.result c.loop-target-test.true c.target-item.is) c.falls_from.ensures
    (c.in_ok-missing.ensures ∙ ap Done c.in-Some.is) c.loop-target.invariant

use Rattle.std.proofs.Common.{List, refl, map}
use Rattle.std.specs.Prelude.{ℕ, Some}
use Rattle.fs_cut.specs.Paths.{Path}
use Rattle.fs_cut.specs.View.{path_of}
use Rattle.cert_model.specs.View.{node_of}
use Rattle.search_tables.specs.SearchTables.{machines}
use Rattle.show_fact_text.proofs.Loops.{next_more_of}
use Rattle.show_certificate_lines.specs.Demands.{right_demands, both_demands}
use Rattle.show_certificate_lines.proofs.move_demands.push_both.Goals as goal

pub loop-left-preserved : goal.loop-left-preserved
loop-left-preserved c =
    let m = machines c.args.a.now c.args.b.now in
    let ns = map node_of c.args.nodes.now in
    let n = node_of c.args.node.now in
    let rights = map path_of c.args.rights.now in
    let one : Path → List (List ℕ) = λ p. right_demands m ns n (Some p) rights in
    next_more_of (both_demands m ns n rights) one (λ b bs. refl) path_of c.args.lefts.now c.loop-left.left-index c.left-item.result c.loop-left-test.true
    c.left-item.is _ _ _ c.in_ok-push_rights.ensures c.loop-left.invariant

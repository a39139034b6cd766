use Rattle.std.proofs.Common.{◌≡◌, ◌&&◌, true, map, sym, subst}
use Rattle.std.specs.List.{list_all}
use Rattle.fs_cut.specs.Paths.{is_point}
use Rattle.sym_facts.specs.Starts.{start_fact}
use Rattle.cert_model.specs.Obligations.{obligations}
use Rattle.cert_model.specs.View.{node_of}
use Rattle.cert_check.proofs.Results.{answer_over}
use Rattle.cert_check.proofs.verify.check.Goals as goal

pub check_all-requires-clause-points : goal.check_all-requires-clause-points
check_all-requires-clause-points c =
    let nodes = map node_of c.args.nodes.now in
    subst (λ b. list_all (λ n. is_point c.in_ok-table.table.a.now n.left && is_point b n.right) nodes ≡ true) (sym c.in_ok-table.ensures.right)
    (subst (λ a. list_all (λ n. is_point a n.left && is_point c.args.b.now n.right) nodes ≡ true) (sym c.in_ok-table.ensures.left) c.requires.points)

pub returns : goal.returns
returns c =
    let nodes = map node_of c.args.nodes.now in
    let start = start_fact c.args.p.now in
    answer_over 1 _ (obligations c.args.a.now c.args.b.now start nodes) c.check_all.result
    (λ k. obligations (c.in_ok-table.ensures.left k) (c.in_ok-table.ensures.right k) start nodes) c.check_all.ensures

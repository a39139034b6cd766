use Rattle.std.proofs.Common.{◌≡◌, ◌++◌, OnOk, length, arith, subst}
use Rattle.cert_model.specs.View.{node_of}
use Rattle.show_certificate_lines.proofs.NodesSplit.{case_is}
use Rattle.show_certificate_lines.proofs.cases.write_case.Goals as goal

pub returns : goal.returns
returns c =
    let before : c.len.result ≡ length c.in_ok-before.before.items = omega (arith, c.in_ok-before.before.ok, c.len.ensures) in
    let all : c.len-2.result ≡ length c.in_ok-all.all.items = omega (arith, c.in_ok-all.all.ok, c.len-2.ensures) in
    subst (λ text. OnOk c.write_case_of.result (c.write_case_of.new.out.items ≡ c.args.out.now.items ++ text))
    (case_is node_of c.args.nodes.now c.args.place (node_of c.args.node.now) (λ n. node_of n.now) c.in_ok-before.before.items c.in_ok-all.all.items
    c.len.result c.len-2.result before all c.in_ok-before.ensures c.in_ok-all.ensures)
    c.write_case_of.ensures

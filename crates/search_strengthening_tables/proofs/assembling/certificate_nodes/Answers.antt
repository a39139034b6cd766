use Rattle.std.proofs.Common.{rules}
use Rattle.sym_facts.specs.Pairings.{IsFactOf}
use Rattle.cert_model.specs.View.{node_of}
use Rattle.search_strengthening_tables.proofs.Assembled.{append_keeps_all}
use Rattle.search_strengthening_tables.proofs.assembling.certificate_nodes.Goals as goal

pub loop-place-preserved : goal.loop-place-preserved
loop-place-preserved c =
    let of : IsFactOf c.args.p.now c.in-Some.made.fact = search rules in
    append_keeps_all node_of (λ n. IsFactOf c.args.p.now n.fact) c.push.new.self.items c.loop-place.out.items c.in-Some.made c.in_ok-push-in-Some.ensures.items
    c.loop-place.invariant of

use Rattle.std.proofs.Common.{map, arith}
use Rattle.nf_trees.specs.View.{term_in}
use Rattle.nf_sums.proofs.Turns.{weight_at}
use Rattle.nf_rel.proofs.Divided.{append_kept_term_keeps_whole, divided_all}
use Rattle.nf_rel.proofs.divisors.divide_monomials.Goals as goal

pub push_divided-requires-clause-small : goal.push_divided-requires-clause-small
push_divided-requires-clause-small c =
    omega (arith, weight_at c.args.terms.now c.loop-mono.mono-index c.loop-mono-item.result c.loop-mono-test.true c.loop-mono-item.is, c.requires.small)

pub loop-mono-preserved : goal.loop-mono-preserved
loop-mono-preserved c = append_kept_term_keeps_whole c.args.by.now c.args.terms.now c.loop-mono.mono-index c.loop-mono-item.result
    (map term_in c.loop-mono.out.items) _ _
    c.loop-mono-test.true c.loop-mono-item.is c.in_ok-push_divided.ensures c.loop-mono.invariant

pub returns : goal.returns
returns c = divided_all c.args.by.now c.args.terms.now c.loop-mono.out.items c.loop-mono.mono-index c.loop-mono.invariant
    (omega (arith, c.loop-mono-test.false))

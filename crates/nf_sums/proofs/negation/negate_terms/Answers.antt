use Rattle.std.proofs.Common.{◌∙◌, arith}
use Rattle.nf_trees.proofs.Loops.{append_moves_mapped}
use Rattle.nf_sums.proofs.Negations.{opposite, negated_all}
use Rattle.nf_sums.proofs.Turns.{weight_at}
use Rattle.nf_sums.proofs.negation.negate_terms.Goals as goal

pub push_negated-requires : goal.push_negated-requires
push_negated-requires c =
    omega (arith, weight_at c.args.terms.now c.loop-mono.mono-index c.loop-mono-item.result c.loop-mono-test.true c.loop-mono-item.is, c.requires)

pub loop-mono-preserved : goal.loop-mono-preserved
loop-mono-preserved c =
    append_moves_mapped opposite _ _ c.args.terms.now c.loop-mono.mono-index c.loop-mono-item.result c.loop-mono-test.true c.loop-mono-item.is
    c.in_ok-push_negated.ensures
    ∙ c.loop-mono.invariant

pub returns : goal.returns
returns c = negated_all c.args.terms.now _ _ c.loop-mono.invariant (omega arith)

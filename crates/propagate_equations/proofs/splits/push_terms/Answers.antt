use Rattle.std.proofs.Common.{◌∙◌}
use Rattle.nf_trees.specs.View.{term_in}
use Rattle.nf_trees.proofs.Loops.{append_moves_mapped, all_there}
use Rattle.propagate_equations.proofs.splits.push_terms.Goals as goal

pub loop-mono-preserved : goal.loop-mono-preserved
loop-mono-preserved c =
    append_moves_mapped term_in _ _ c.args.terms.now c.loop-mono.mono-index c.loop-mono-item.result c.loop-mono-test.true c.loop-mono-item.is
    c.in_ok-push_term_copy.ensures
    ∙ c.loop-mono.invariant

pub returns : goal.returns
returns c = all_there term_in _ c.args.terms.now c.loop-mono.mono-index c.loop-mono-test.false ∙ c.loop-mono.invariant

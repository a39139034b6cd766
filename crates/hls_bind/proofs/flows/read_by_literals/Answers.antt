use Rattle.std.proofs.Common.{◌∙◌, ap}
use Rattle.fs_model.specs.View.{literal_of, shared_literal_of}
use Rattle.fs_model.specs.PartFolds.{scalars, uses_in_literal}
use Rattle.fs_variable_sets.specs.Sets.{has_variable, also_all}
use Rattle.hls_bind.proofs.Loops.{read_more}
use Rattle.hls_bind.proofs.flows.read_by_literals.Goals as goal

pub loop-lit-preserved : goal.loop-lit-preserved
loop-lit-preserved c =
    read_more (uses_in_literal scalars) shared_literal_of c.args.lits.now c.loop-lit.lit-index c.lit-item.result (has_variable c.loop-lit.set)
    (has_variable c.with_literal-set.result) _ c.loop-lit-test.true c.lit-item.is
    (c.with_literal-set.ensures ∙ ap (λ l. also_all (uses_in_literal scalars (literal_of l)) (has_variable c.loop-lit.set)) c.deref.ensures)
    c.loop-lit.invariant

use Rattle.std.proofs.Common.{ap, subst, ◌∙◌}
use Rattle.nf_terms.specs.Computed.{Answers}
use Rattle.nf_arrays.specs.Writes.{prefix_for}
use Rattle.nf_arrays.proofs.Stopping.{writes_in, stopped_normal, stopped_again, read_whole}
use Rattle.nf_arrays.proofs.reads.read.Goals as goal

pub read_stopped-requires-clause-normal : goal.read_stopped-requires-clause-normal
read_stopped-requires-clause-normal c =
    stopped_normal c.args.a.now c.args.i.now _ _ _ c.base-base.ensures.same c.writes.ensures.same
    (c.prefix_for.ensures ∙ ap (λ t. prefix_for t (writes_in c.writes.result.now)) c.tree.ensures.same) c.writes.ensures.normal

pub read_stopped-requires-clause-stops : goal.read_stopped-requires-clause-stops
read_stopped-requires-clause-stops c =
    stopped_again c.args.a.now c.args.i.now _ _ _ c.base-base.ensures.same c.writes.ensures.same
    (c.prefix_for.ensures ∙ ap (λ t. prefix_for t (writes_in c.writes.result.now)) c.tree.ensures.same)

pub returns : goal.returns
returns c =
    subst (Answers c.read_stopped.result)
    (read_whole c.args.a.now c.args.i.now _ _ _ c.base-base.ensures.same c.writes.ensures.same
    (c.prefix_for.ensures ∙ ap (λ t. prefix_for t (writes_in c.writes.result.now)) c.tree.ensures.same)) c.read_stopped.ensures

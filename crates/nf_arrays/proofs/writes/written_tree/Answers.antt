use Rattle.std.proofs.Common.{◌∙◌}
use Rattle.nf_terms.specs.Tidied.{rising_stretches, last_writes}
use Rattle.nf_arrays.specs.Writes.{written_last}
use Rattle.nf_arrays.proofs.Inserting.{write_whole}
use Rattle.nf_arrays.proofs.Stopping.{writes_in}
use Rattle.nf_arrays.proofs.writes.written_tree.Goals as goal

pub returns : goal.returns
returns c =
    c.array_of.ensures
    ∙ write_whole c.args.a.now c.args.i.now c.args.v.now _ _ _ c.base-base.ensures.same c.writes.ensures.same
    (c.in_ok-writes.ensures
    ∙ (λ k. rising_stretches (last_writes (written_last (writes_in c.writes.result.now) (c.tree.ensures.same k) (c.tree-2.ensures.same k)))))

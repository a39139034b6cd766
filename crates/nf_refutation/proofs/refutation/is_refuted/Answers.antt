use Rattle.std.proofs.Common.{map, sym, ◌∙◌}
use Rattle.nf_rel.specs.View.{literal_in}
use Rattle.nf_rel.proofs.Clashing.{refuted_is}
use Rattle.nf_refutation.proofs.refutation.is_refuted.Goals as goal

pub returns : goal.returns
returns c =
    let ls = map literal_in c.args.list.now in
    c.refutes_any.ensures ls c.in_ok-table.ensures ∙ sym (refuted_is ls)

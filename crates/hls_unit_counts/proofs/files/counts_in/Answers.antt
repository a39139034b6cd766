use Rattle.std.proofs.Common.{◌∙◌, ap}
use Rattle.serde_json.specs.View.{view}
use Rattle.hls_unit_counts.specs.Counts.{units_in, count_of, counts_in}
use Rattle.hls_unit_counts.proofs.Agreeing.{same_units}
use Rattle.hls_unit_counts.proofs.files.counts_in.Goals as goal

pub returns : goal.returns
returns c =
    same_units (units_in (record { add = c.count_of.result; mul = c.count_of-2.result; div = c.count_of-3.result; mem = c.count_of-4.result }))
    (counts_in (view c.args.value.now))
    (c.count_of.ensures ∙ ap count_of c.get.ensures)
    (c.count_of-2.ensures ∙ ap count_of c.get-2.ensures)
    (c.count_of-3.ensures ∙ ap count_of c.get-3.ensures)
    (c.count_of-4.ensures ∙ ap count_of c.get-4.ensures)

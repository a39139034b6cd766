use Rattle.std.proofs.Common.{refl}
use Rattle.std.specs.List.{flat_map}
use Rattle.nf_rel.specs.View.{literal_in}
use Rattle.show_fact_text.specs.FactLines.{condition_line}
use Rattle.show_fact_text.specs.View.{side_names_in}
use Rattle.show_fact_text.proofs.Loops.{next_more_of}
use Rattle.show_fact_text.proofs.lines.write_conditions.Goals as goal

pub loop-literal-preserved : goal.loop-literal-preserved
loop-literal-preserved c =
    let one = condition_line c.args.before.now (side_names_in c.args.names.now) in
    next_more_of (flat_map one) one (λ b bs. refl) literal_in c.args.literals.now c.loop-literal.literal-index c.literal-item.result
    c.loop-literal-test.true c.literal-item.is _ _ _ c.in_ok-write_condition.ensures c.loop-literal.invariant

use Rattle.std.proofs.Common.{refl}
use Rattle.std.specs.List.{flat_map}
use Rattle.sym_facts.specs.View.{position_in}
use Rattle.show_fact_text.specs.FactLines.{position_line}
use Rattle.show_fact_text.specs.View.{side_names_in}
use Rattle.show_fact_text.proofs.Loops.{next_more_of}
use Rattle.show_fact_text.proofs.lines.write_positions.Goals as goal

pub loop-position-preserved : goal.loop-position-preserved
loop-position-preserved c =
    let one = position_line c.args.before.now (side_names_in c.args.names.now) in
    next_more_of (flat_map one) one (λ b bs. refl) position_in c.args.positions.now c.loop-position.position-index c.position-item.result
    c.loop-position-test.true c.position-item.is _ _ _ c.in_ok-write_position.ensures c.loop-position.invariant

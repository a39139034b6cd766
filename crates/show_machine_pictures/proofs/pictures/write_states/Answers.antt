use Rattle.std.proofs.Common.{◌<◌, ◌∙◌, arith, length}
use Rattle.show_machine_pictures.specs.Pictures.{state_lines}
use Rattle.show_machine_pictures.proofs.Loops.{flat_step}
use Rattle.show_machine_pictures.proofs.pictures.write_states.Goals as goal

pub loop-state-preserved : goal.loop-state-preserved
loop-state-preserved c =
    let m = c.args.machine.now in
    let k = c.loop-state.state in
    let low : k < length m.states = omega (arith, c.loop-state-test.true, c.loop-state.invariant.all) in
    record {
      all = c.loop-state.invariant.all;
      done = flat_step (state_lines m) c.loop-state.out.items c.write_state.new.out.items k (length m.states) low c.in_ok-write_state.ensures
          ∙ c.loop-state.invariant.done;
    }

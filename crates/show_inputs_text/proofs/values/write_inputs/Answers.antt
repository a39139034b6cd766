use Rattle.std.proofs.Common.{◌≤◌, arith, ap, length}
use Rattle.show_inputs_text.proofs.values.write_inputs.Goals as goal

pub overflow_add-number : goal.overflow_add-number
overflow_add-number c =
    let few : length c.args.machine.now.variables ≤ 128 = c.vars-variable-items.ensures.sound.few_variables in
    omega (arith, c.loop-variable.invariant, c.loop-variable-test.true, few, ap length c.vars-variable-items.ensures.vars)

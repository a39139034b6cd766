use Rattle.std.proofs.Common.{◌<◌, ◌^◌, sym, arith, rules, Fits}
use Rattle.std.specs.Int.{w128}
use Rattle.fs_variable_sets.proofs.Bits.{low_bit, past_bits}
use Rattle.fs_variable_sets.proofs.VariableSet.contains.Goals as goal

pub returns-then-variable-lt128 : goal.returns-then-variable-lt128
returns-then-variable-lt128 c = low_bit c.args.self c.args.variable.0

pub returns-else-variable-lt128 : goal.returns-else-variable-lt128
returns-else-variable-lt128 c =
    let range : Fits w128 c.args.self.bits = search rules in
    let few : c.args.self.bits < 2 ^ 128 = search (rules, range) in
    sym (past_bits c.args.self c.args.variable.0 few (omega (arith, c.if-variable-lt128.false)))

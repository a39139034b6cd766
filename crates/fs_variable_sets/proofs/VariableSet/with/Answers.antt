use Rattle.std.proofs.Common.{◌≡◌, arith, false}
use Rattle.std.specs.Prelude.{nat_lt}
use Rattle.std.proofs.lemmas.Bool.Decides.{nat_tests}
use Rattle.fs_variable_sets.specs.Sets.{has_variable}
use Rattle.fs_variable_sets.proofs.Members.{also_none}
use Rattle.fs_variable_sets.proofs.Bits.{has_one_more}
use Rattle.fs_variable_sets.proofs.VariableSet.with.Goals as goal

pub returns-then-variable-lt128 : goal.returns-then-variable-lt128
returns-then-variable-lt128 c = has_one_more c.args.self c.args.variable.0 (omega (arith, c.if-variable-lt128.true))

pub returns-else-variable-lt128 : goal.returns-else-variable-lt128
returns-else-variable-lt128 c =
    let past = c.if-variable-lt128.false in
    let high : nat_lt c.args.variable.0 128 ≡ false = grind (arith, nat_tests, past) in
    also_none (has_variable c.args.self) c.args.variable.0 high

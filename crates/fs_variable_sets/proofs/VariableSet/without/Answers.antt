use Rattle.std.proofs.Common.{◌<◌, ◌^◌, rules, Fits}
use Rattle.std.specs.Int.{w128}
use Rattle.fs_variable_sets.proofs.Bits.{has_except}
use Rattle.fs_variable_sets.proofs.VariableSet.without.Goals as goal

pub returns : goal.returns
returns c =
    let range : Fits w128 c.args.self.bits = search rules in
    let few : c.args.self.bits < 2 ^ 128 = search (rules, range) in
    let other_range : Fits w128 c.args.other.bits = search rules in
    let other_few : c.args.other.bits < 2 ^ 128 = search (rules, other_range) in
    has_except c.args.self c.args.other few other_few

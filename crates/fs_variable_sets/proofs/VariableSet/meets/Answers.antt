use Rattle.std.proofs.Common.{◌<◌, ◌^◌, rules, Fits}
use Rattle.std.specs.Int.{w128}
use Rattle.fs_variable_sets.proofs.Bits.{meets_is}
use Rattle.fs_variable_sets.proofs.VariableSet.meets.Goals as goal

pub returns : goal.returns
returns c =
    let range : Fits w128 c.args.self.bits = search rules in
    let few : c.args.self.bits < 2 ^ 128 = search (rules, range) in
    meets_is c.args.self c.args.other few

use Rattle.std.proofs.Common.{◌≡◌, false, map, take}
use Rattle.clap.specs.Words.{app_of}
use Rattle.clap.specs.declared.builder.command.Command.TheViews.{out-Command}
use Rattle.fsmd_command_line.specs.SubcommandShapes.{rule_of_argument}
use Rattle.fsmd_command_line.specs.CommandLine.{alone, command_with}
use Rattle.fsmd_command_line.proofs.building.command_of.Given as goal

abbrev pub invariant-loop-argument : goal.invariant-loop-argument
invariant-loop-argument l = (app_of l.command ≡ alone (command_with l.name (map rule_of_argument (take l.argument-index l.arguments))))
    × ((out-Command l.command).has_globals ≡ false)

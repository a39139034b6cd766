use Rattle.std.proofs.Common.{◌≡◌, drop, map}
use Rattle.std.specs.List.{fold}
use Rattle.clap.specs.Words.{app_of, with_subcommand}
use Rattle.fsmd_command_line.specs.SubcommandShapes.{app_of_subcommands, shape_of_subcommand}
use Rattle.fsmd_command_line.proofs.building.command_line_of.Given as goal

abbrev pub invariant-loop-subcommand : goal.invariant-loop-subcommand
invariant-loop-subcommand l = fold with_subcommand (app_of l.line) (map shape_of_subcommand (drop l.subcommand-index l.subcommands))
    ≡ app_of_subcommands l.name l.subcommands

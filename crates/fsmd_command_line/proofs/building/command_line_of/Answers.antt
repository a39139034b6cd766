use Rattle.std.proofs.Common.{◌+◌, ◌∙◌, ap, drop, map, sym}
use Rattle.std.proofs.lemmas.List.{at_drop_more}
use Rattle.std.specs.List.{fold}
use Rattle.clap.specs.Words.{app_of, with_subcommand}
use Rattle.fsmd_command_line.specs.SubcommandShapes.{shape_of_subcommand}
use Rattle.fsmd_command_line.proofs.building.command_line_of.Goals as goal

pub loop-subcommand-preserved : goal.loop-subcommand-preserved
loop-subcommand-preserved c =
    let all = c.args.subcommands.now in
    let i = c.loop-subcommand.subcommand-index in
    let before = app_of c.loop-subcommand.line in
    ap (λ app. fold with_subcommand app (map shape_of_subcommand (drop (i + 1) all)))
    (c.in_ok-line.ensures.shape c.in_ok-command.ensures.local ∙ ap (with_subcommand before) c.in_ok-command.ensures.shape)
    ∙ sym (at_drop_more (λ rest. fold with_subcommand before (map shape_of_subcommand rest)) all i _ c.loop-subcommand-test.true)
    ∙ c.loop-subcommand.invariant

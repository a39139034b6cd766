use Rattle.std.proofs.Common.{◌∙◌, ap, true}
use Rattle.clap.specs.Words.{Shape}
use Rattle.clap.specs.declared.builder.command.Command.TheViews.{out-Command}
use Rattle.clap.specs.Simple.{app_of_fields, on_top}
use Rattle.fsmd_command_line.proofs.building.program.Goals as goal

pub returns : goal.returns
returns c =
    let first = ap app_of_fields {y = record (out-Command c.new.result) { no_binary_name = true }} c.no_binary_name.ensures
    ∙ ap (on_top (λ (s : Shape). record s { no_binary_name = true })) c.new.ensures.app in
    let second = ap app_of_fields {y = record (out-Command c.no_binary_name.result) { disable_help_subcommand = true }} c.disable_help_subcommand.ensures
    ∙ ap (on_top (λ (s : Shape). record s { disable_help_subcommand = true })) first in
    ap app_of_fields {y = record (out-Command c.disable_help_subcommand.result) { subcommand_required = true }} c.subcommand_required.ensures
    ∙ ap (on_top (λ (s : Shape). record s { subcommand_required = true })) second

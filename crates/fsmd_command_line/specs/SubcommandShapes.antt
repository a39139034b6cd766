-- The command line that is built of subcommands, as a definition of clap's.
use Rattle.std.specs.Prelude.{List, true, map}
use Rattle.std.specs.List.{fold}
use Rattle.clap.specs.Words.{App, Rule, Shape, Text, with_subcommand}
use Rattle.clap.specs.Simple.{new_shape}
use Rattle.fsmd_command_line.specs.CommandLine.{alone, cert_option, chain_words, command_with}
use Rattle.fsmd_command_line.specs.CommandLine.{file_word, loops_word, steps_option}
use Rattle.fsmd_command_line.specs.declared.subcommands.Argument.{Argument}
use Rattle.fsmd_command_line.specs.declared.subcommands.Argument.TheVariants.{File, Files, Cert, Steps, Loops}
use Rattle.fsmd_command_line.specs.declared.subcommands.Subcommand.{Subcommand}

abbrev pub rule_of_argument : Argument → Rule
rule_of_argument (File id) = file_word id.now
rule_of_argument Files = chain_words
rule_of_argument Cert = cert_option
rule_of_argument Steps = steps_option
rule_of_argument Loops = loops_word

abbrev pub shape_of_subcommand : Subcommand → Shape
shape_of_subcommand subcommand = command_with subcommand.name.now (map rule_of_argument subcommand.arguments.now)

-- before its subcommands are added: the words are those after the program's name, and one of the commands has to be there
abbrev pub program_named : Text → Shape
program_named name = record (new_shape name) {
  no_binary_name = true;
  disable_help_subcommand = true;
  subcommand_required = true;
}

abbrev pub app_of_subcommands : Text → List Subcommand → App
app_of_subcommands name subcommands = fold with_subcommand (alone (program_named name)) (map shape_of_subcommand subcommands)

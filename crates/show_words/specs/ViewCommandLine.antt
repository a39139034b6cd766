-- The command line, as a definition of clap's.
use Rattle.std.specs.Prelude.{List, [], ◌∷◌, true, false, codes}
use Rattle.clap.specs.Words.{App, Rule, Shape, Text, new_rule}
use Rattle.clap.specs.Simple.{new_shape}
use Rattle.fsmd_command_line.specs.CommandLine.{steps_option}

-- a word that has to be there
abbrev pub view_file_word : Text → Rule
view_file_word id = record (new_rule id) { required = true }

abbrev pub view_command_with : Text → List Rule → Shape
view_command_with name rules = record (new_shape name) { rules = rules }

-- a command by itself
abbrev pub view_command_alone : Shape → App
view_command_alone command = record { top = command; subs = [] }

-- `machine A`
abbrev pub machine_command : Shape
machine_command = view_command_with (codes "machine") (view_file_word (codes "machine") ∷ [])

-- a view of two machines, as `pair A B`
abbrev pub pair_command : Text → Shape
pair_command name = view_command_with name (view_file_word (codes "left") ∷ view_file_word (codes "right") ∷ [])

-- `certificate A B C`
abbrev pub certificate_command : Shape
certificate_command = view_command_with (codes "certificate")
    (view_file_word (codes "left") ∷ view_file_word (codes "right") ∷ view_file_word (codes "certificate") ∷ [])

-- `trace A I [--steps N]`
abbrev pub trace_command : Shape
trace_command = view_command_with (codes "trace")
    (view_file_word (codes "machine") ∷ view_file_word (codes "inputs") ∷ steps_option ∷ [])

-- before its commands are added: the words are those after the program's name, and one of the commands has to be there
abbrev pub view_program_alone : Shape
view_program_alone = record (new_shape (codes "fsmd_show")) {
  no_binary_name = true;
  disable_help_subcommand = true;
  subcommand_required = true;
}

-- the whole command line
abbrev pub view_command_line : App
view_command_line = record {
  top = record view_program_alone { is_leaf = false };
  subs = machine_command ∷ pair_command (codes "pair") ∷ pair_command (codes "why") ∷ certificate_command ∷ pair_command
      (codes "inputs") ∷ trace_command ∷ [];
}

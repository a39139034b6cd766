-- The command line, as a definition of clap's.
use Rattle.std.specs.Prelude.{List, [], ◌∷◌, Some, true, false, pos, codes}
use Rattle.clap.specs.Words.{App, Rule, Shape, Text, new_rule}
use Rattle.clap.specs.Simple.{new_shape}
use Rattle.clap.specs.declared.builder.value_parser.ValueParser.TheVariants as parsers

-- a word that has to be there
abbrev pub file_word : Text → Rule
file_word id = record (new_rule id) { required = true }

-- `--cert F`
abbrev pub cert_option : Rule
cert_option = record (new_rule (codes "cert")) { long = Some (codes "cert") }

-- `--steps N`, from 1 to 100,000, and 10,000 where it is left out
abbrev pub steps_option : Rule
steps_option = record (new_rule (codes "steps")) {
  long = Some (codes "steps");
  parser = Some (parsers.Unsigned 1 100000);
  defaults = codes "10000" ∷ [];
}

-- `N`, from 1 to 300
abbrev pub loops_word : Rule
loops_word = record (file_word (codes "loops")) { parser = Some (parsers.Signed (pos 1) (pos 300)) }

-- `A C B [C B ..]`: from 3 to 129 words, that is a machine, and a certificate and a machine for each of 1 to 64 links
abbrev pub chain_words : Rule
chain_words = record (file_word (codes "files")) {
  range = Some (record { start_inclusive = 3; end_inclusive = 129 });
}

abbrev pub command_with : Text → List Rule → Shape
command_with name rules = record (new_shape name) { rules = rules }

-- a command by itself
abbrev pub alone : Shape → App
alone command = record { top = command; subs = [] }

-- `check A B [--cert F] [--steps N]`
abbrev pub check_command : Shape
check_command = command_with (codes "check")
    (file_word (codes "left") ∷ file_word (codes "right") ∷ cert_option ∷ steps_option ∷ [])

-- `verify A B C`
abbrev pub verify_command : Shape
verify_command = command_with (codes "verify")
    (file_word (codes "left") ∷ file_word (codes "right") ∷ file_word (codes "certificate") ∷ [])

-- `run A I [--steps N]`
abbrev pub run_command : Shape
run_command = command_with (codes "run")
    (file_word (codes "machine") ∷ file_word (codes "inputs") ∷ steps_option ∷ [])

-- `replay A B I [--steps N]`
abbrev pub replay_command : Shape
replay_command = command_with (codes "replay")
    (file_word (codes "left") ∷ file_word (codes "right") ∷ file_word (codes "inputs") ∷ steps_option ∷ [])

-- `fmt A`
abbrev pub fmt_command : Shape
fmt_command = command_with (codes "fmt") (file_word (codes "machine") ∷ [])

-- `cuts A`
abbrev pub cuts_command : Shape
cuts_command = command_with (codes "cuts") (file_word (codes "machine") ∷ [])

-- `generate N`
abbrev pub generate_command : Shape
generate_command = command_with (codes "generate") (loops_word ∷ [])

-- `compile P`
abbrev pub compile_command : Shape
compile_command = command_with (codes "compile") (file_word (codes "program") ∷ [])

-- `schedule A U`
abbrev pub schedule_command : Shape
schedule_command = command_with (codes "schedule") (file_word (codes "machine") ∷ file_word (codes "units") ∷ [])

-- `bind A M`
abbrev pub bind_command : Shape
bind_command = command_with (codes "bind") (file_word (codes "machine") ∷ file_word (codes "binding") ∷ [])

-- `shrink A B I [--steps N]`
abbrev pub shrink_command : Shape
shrink_command = command_with (codes "shrink")
    (file_word (codes "left") ∷ file_word (codes "right") ∷ file_word (codes "inputs") ∷ steps_option ∷ [])

-- `chain A C B [C B ..]`
abbrev pub chain_command : Shape
chain_command = command_with (codes "chain") (chain_words ∷ [])

-- before its commands are added: the words are those after the program's name, and one of the commands has to be there
abbrev pub program_alone : Shape
program_alone = record (new_shape (codes "fsmd")) {
  no_binary_name = true;
  disable_help_subcommand = true;
  subcommand_required = true;
}

-- the whole command line
abbrev pub command_line : App
command_line = record {
  top = record program_alone { is_leaf = false };
  subs = check_command ∷ verify_command ∷ run_command ∷ replay_command ∷ fmt_command ∷ cuts_command ∷ generate_command
      ∷ compile_command ∷ schedule_command ∷ bind_command ∷ shrink_command ∷ chain_command ∷ [];
}

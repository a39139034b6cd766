-- What words ask, by the matches that clap defines for them.
use Rattle.std.specs.Prelude.{◌≡◌, ◌≤◌, ◌==◌, ◌&&◌, ◌%◌, ℕ, Bool, true, List, [], ◌∷◌, Option, Some, None, ⊤}
use Rattle.std.specs.Prelude.{codes, unwrap_or, option_and_then, option_map, if◌then◌else◌, nat_le, string_bytes}
use Rattle.std.specs.Prelude.{map, length, IfSome}
use Rattle.std.specs.Str.{bytes_eq}
use Rattle.std.specs.Str.Parse.{digits_value, without_leading_plus}
use Rattle.clap.specs.Words.{Kinds, Row, Text, all_of, first_of, one_of, subcommand_of, fault_of}
use Rattle.clap.specs.ValueTests.{is_unsigned_in}
use Rattle.fsmd_command_line.specs.CommandLine.{command_line}
use Rattle.fsmd_words.specs.declared.asking.Ask.{Ask}
use Rattle.fsmd_words.specs.declared.asking.Ask.TheVariants as asks

-- what is asked, as plain data: files as their words, then numbers
pub data Asked : Type 0 where
  Check : (left right : Text) → (cert : Option Text) → (steps : ℕ) → Asked
  Verify : (left right cert : Text) → Asked
  Run : (machine inputs : Text) → (steps : ℕ) → Asked
  Replay : (left right inputs : Text) → (steps : ℕ) → Asked
  Fmt : (machine : Text) → Asked
  Cuts : (machine : Text) → Asked
  Generate : (loops : ℕ) → Asked
  Compile : (program : Text) → Asked
  Schedule : (machine units : Text) → Asked
  Bind : (machine binding : Text) → Asked
  Shrink : (left right inputs : Text) → (steps : ℕ) → Asked
  Chain : (files : List Text) → Asked

abbrev pub asked_of_ask : Ask → Asked
asked_of_ask (asks.Check left right cert steps) =
    Check (string_bytes left) (string_bytes right) (option_map string_bytes cert) steps
asked_of_ask (asks.Verify left right cert) =
    Verify (string_bytes left) (string_bytes right) (string_bytes cert)
asked_of_ask (asks.Run machine inputs steps) = Run (string_bytes machine) (string_bytes inputs) steps
asked_of_ask (asks.Replay left right inputs steps) =
    Replay (string_bytes left) (string_bytes right) (string_bytes inputs) steps
asked_of_ask (asks.Fmt machine) = Fmt (string_bytes machine)
asked_of_ask (asks.Cuts machine) = Cuts (string_bytes machine)
asked_of_ask (asks.Generate n) = Generate n
asked_of_ask (asks.Compile program) = Compile (string_bytes program)
asked_of_ask (asks.Schedule machine units) = Schedule (string_bytes machine) (string_bytes units)
asked_of_ask (asks.Bind machine binding) = Bind (string_bytes machine) (string_bytes binding)
asked_of_ask (asks.Shrink left right inputs steps) =
    Shrink (string_bytes left) (string_bytes right) (string_bytes inputs) steps
asked_of_ask (asks.Chain files) = Chain (map string_bytes files.items)

-- ---- fields, by the matches of a command

-- the word that was matched, or no text
abbrev pub match_word : Text → List Row → Text
match_word id rows = unwrap_or (first_of id rows) []

-- the words that were matched, in their order, or none
abbrev pub words_of : Text → List Row → List Text
words_of id rows = unwrap_or (all_of id rows) []

abbrev pub number_in_range : ℕ → ℕ → ℕ → Option ℕ → ℕ
number_in_range low high other None = other
number_in_range low high other (Some n) = if nat_le low n && nat_le n high then n else other

-- the number that a text spells, where it lies in the range
abbrev pub number_option : ℕ → ℕ → ℕ → Option Text → ℕ
number_option low high other None = other
number_option low high other (Some text) =
    if is_unsigned_in low high text then digits_value 10 (without_leading_plus text) else other

abbrev pub step_limit_of : List Row → ℕ
step_limit_of rows = number_option 1 100000 10000 (one_of (codes "steps") rows)

abbrev pub loops_of : List Row → ℕ
loops_of rows = number_option 1 300 1 (one_of (codes "loops") rows)

-- ---- commands, by their matches

abbrev pub check_of : List Row → Asked
check_of rows = Check (match_word (codes "left") rows) (match_word (codes "right") rows)
    (first_of (codes "cert") rows) (step_limit_of rows)

abbrev pub verify_of : List Row → Asked
verify_of rows = Verify (match_word (codes "left") rows) (match_word (codes "right") rows)
    (match_word (codes "certificate") rows)

abbrev pub run_of : List Row → Asked
run_of rows = Run (match_word (codes "machine") rows) (match_word (codes "inputs") rows) (step_limit_of rows)

abbrev pub replay_of : List Row → Asked
replay_of rows = Replay (match_word (codes "left") rows) (match_word (codes "right") rows)
    (match_word (codes "inputs") rows) (step_limit_of rows)

abbrev pub fmt_of : List Row → Asked
fmt_of rows = Fmt (match_word (codes "machine") rows)

abbrev pub cuts_of : List Row → Asked
cuts_of rows = Cuts (match_word (codes "machine") rows)

abbrev pub generate_of : List Row → Asked
generate_of rows = Generate (loops_of rows)

abbrev pub compile_of : List Row → Asked
compile_of rows = Compile (match_word (codes "program") rows)

abbrev pub schedule_of_rows : List Row → Asked
schedule_of_rows rows = Schedule (match_word (codes "machine") rows) (match_word (codes "units") rows)

abbrev pub bind_of : List Row → Asked
bind_of rows = Bind (match_word (codes "machine") rows) (match_word (codes "binding") rows)

abbrev pub shrink_of : List Row → Asked
shrink_of rows = Shrink (match_word (codes "left") rows) (match_word (codes "right") rows)
    (match_word (codes "inputs") rows) (step_limit_of rows)

abbrev pub chain_of_rows : List Row → Asked
chain_of_rows rows = Chain (words_of (codes "files") rows)

-- the last commands
abbrev pub last_by : Text → List Row → Option Asked
last_by name rows =
    if bytes_eq name (codes "schedule") then Some (schedule_of_rows rows)
    else (if bytes_eq name (codes "bind") then Some (bind_of rows)
    else (if bytes_eq name (codes "shrink") then Some (shrink_of rows)
    else (if bytes_eq name (codes "chain") then Some (chain_of_rows rows)
    else None)))

-- the commands that take one word, and the last
abbrev pub one_word_by : Text → List Row → Option Asked
one_word_by name rows =
    if bytes_eq name (codes "fmt") then Some (fmt_of rows)
    else (if bytes_eq name (codes "cuts") then Some (cuts_of rows)
    else (if bytes_eq name (codes "generate") then Some (generate_of rows)
    else (if bytes_eq name (codes "compile") then Some (compile_of rows)
    else last_by name rows)))

-- all commands
abbrev pub asked_by : Text → List Row → Option Asked
asked_by name rows =
    if bytes_eq name (codes "check") then Some (check_of rows)
    else (if bytes_eq name (codes "verify") then Some (verify_of rows)
    else (if bytes_eq name (codes "run") then Some (run_of rows)
    else (if bytes_eq name (codes "replay") then Some (replay_of rows)
    else one_word_by name rows)))

-- what a command and its matches ask
abbrev pub asked_in : Option (Text × List Row) → Option Asked
asked_in = option_and_then (λ p. asked_by p.0 p.1)

-- ---- words

-- clap takes the words: no step of a parse fails
abbrev pub AreParsed : List Text → Type 0
AreParsed words = fault_of command_line words ≡ []

-- what the command that the words name asks by its matches, also where clap refuses them
abbrev pub matched_of : List Text → Option Asked
matched_of words = asked_in (subcommand_of command_line words)

-- the files of a chain are machine and certificate by turns, from a machine to a machine: their number is odd
abbrev pub is_by_turns : Asked → Bool
is_by_turns (Chain files) = length files % 2 == 1
is_by_turns _ = true

abbrev pub IsByTurns : Asked → Type 0
IsByTurns what = is_by_turns what ≡ true

-- the words are taken: clap takes them, and what they name for a chain is machine and certificate by turns
abbrev pub AreTaken : List Text → Type 0
AreTaken words = AreParsed words × IfSome (matched_of words) IsByTurns

-- only where no step of a parse fails
abbrev pub where_parsed : Kinds → Option Asked → Option Asked
where_parsed [] what = what
where_parsed (kind ∷ kinds) what = None

-- only where the files of a chain are machine and certificate by turns
abbrev pub where_by_turns : Option Asked → Option Asked
where_by_turns None = None
where_by_turns (Some what) = if is_by_turns what then Some what else None

-- what words ask, and nothing where they are not taken
unfoldable pub asked_of : List Text → Option Asked
asked_of words = where_parsed (fault_of command_line words) (where_by_turns (matched_of words))

-- from 3 to 129 files, and an odd number of them: a machine, and a certificate and a machine for each of 1 to 64 links
abbrev pub IsChainLength : List Text → Type 0
IsChainLength files = (3 ≤ length files) × (length files ≤ 129) × (length files % 2 ≡ 1)

-- steps are from 1 to 100,000, loops from 1 to 300, and files of a chain as many as a chain may have
abbrev pub IsWithinLimits : Asked → Type 0
IsWithinLimits (Check left right cert steps) = (1 ≤ steps) × (steps ≤ 100000)
IsWithinLimits (Run machine inputs steps) = (1 ≤ steps) × (steps ≤ 100000)
IsWithinLimits (Replay left right inputs steps) = (1 ≤ steps) × (steps ≤ 100000)
IsWithinLimits (Generate loops) = (1 ≤ loops) × (loops ≤ 300)
IsWithinLimits (Shrink left right inputs steps) = (1 ≤ steps) × (steps ≤ 100000)
IsWithinLimits (Chain files) = IsChainLength files
IsWithinLimits _ = ⊤

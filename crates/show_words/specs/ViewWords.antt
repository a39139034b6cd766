-- What words ask to see, by the matches that clap defines for them.
use Rattle.std.specs.Prelude.{◌≡◌, ◌≤◌, List, [], ◌∷◌, Option, Some, None, ⊤, codes, option_and_then, if◌then◌else◌}
use Rattle.std.specs.Str.{bytes_eq}
use Rattle.clap.specs.Words.{Kinds, Row, Text, subcommand_of, fault_of}
use Rattle.fsmd_words.specs.AskedWords.{Asked, Check, Verify, Fmt, asked_of_ask, match_word, step_limit_of, run_of}
use Rattle.show_words.specs.declared.asking.View.{View}
use Rattle.show_words.specs.declared.asking.View.TheVariants.{Machine, Pair, Why, Certificate, Inputs, Trace}
use Rattle.show_words.specs.declared.asking.Show.{Show}
use Rattle.show_words.specs.ViewCommandLine.{view_command_line}

-- a view, and what is asked of the same files
pub record ShownView : Type 0 where
  pub view : View
  pub asked : Asked

abbrev pub shown_view : Show → ShownView
shown_view s = record { view = s.view; asked = asked_of_ask s.ask }

-- ---- commands, by their matches

abbrev pub machine_view_of : List Row → ShownView
machine_view_of rows = record { view = Machine; asked = Fmt (match_word (codes "machine") rows) }

abbrev pub pair_view_of : View → List Row → ShownView
pair_view_of view rows = record {
  view = view;
  asked = Check (match_word (codes "left") rows) (match_word (codes "right") rows) None 10000;
}

abbrev pub certificate_of : List Row → ShownView
certificate_of rows = record {
  view = Certificate;
  asked = Verify (match_word (codes "left") rows) (match_word (codes "right") rows)
      (match_word (codes "certificate") rows);
}

abbrev pub trace_view_of : List Row → ShownView
trace_view_of rows = record { view = Trace (step_limit_of rows); asked = run_of rows }

abbrev pub shown_by : Text → List Row → Option ShownView
shown_by name rows =
    if bytes_eq name (codes "machine") then Some (machine_view_of rows)
    else (if bytes_eq name (codes "pair") then Some (pair_view_of Pair rows)
    else (if bytes_eq name (codes "why") then Some (pair_view_of Why rows)
    else (if bytes_eq name (codes "certificate") then Some (certificate_of rows)
    else (if bytes_eq name (codes "inputs") then Some (pair_view_of Inputs rows)
    else (if bytes_eq name (codes "trace") then Some (trace_view_of rows)
    else None)))))

-- what a command and its matches ask to see
abbrev pub shown_in : Option (Text × List Row) → Option ShownView
shown_in = option_and_then (λ p. shown_by p.0 p.1)

-- ---- words

-- clap takes the words: no step of a parse fails
abbrev pub AreTakenAsView : List Text → Type 0
AreTakenAsView words = fault_of view_command_line words ≡ []

-- what the command that the words name asks to see by its matches, also where clap refuses them
abbrev pub matched_view_of : List Text → Option ShownView
matched_view_of words = shown_in (subcommand_of view_command_line words)

-- only where no step of a parse fails
abbrev pub where_taken : Kinds → Option ShownView → Option ShownView
where_taken [] what = what
where_taken (kind ∷ kinds) what = None

-- what words ask to see, and nothing where clap refuses them
unfoldable pub shown_of : List Text → Option ShownView
shown_of words = where_taken (fault_of view_command_line words) (matched_view_of words)

-- steps are from 1 to 100,000
abbrev pub IsViewWithinLimits : View → Type 0
IsViewWithinLimits (Trace steps) = (1 ≤ steps) × (steps ≤ 100000)
IsViewWithinLimits _ = ⊤

-- Words that are taken, with what they ask to see, and words that are refused.
use Rattle.std.specs.Prelude.{◌≡◌, List, [], ◌∷◌, Some, None, codes}
use Rattle.clap.specs.Words.{Text, fault_of}
use Rattle.clap.specs.declared.error.kind.ErrorKind.{ErrorKind}
use Rattle.clap.specs.declared.error.kind.ErrorKind.TheVariants as kinds
use Rattle.fsmd_words.specs.AskedWords.{Asked, Check, Verify, Run, Fmt}
use Rattle.fsmd_words.specs.Examples.{IsPlainWord}
use Rattle.show_words.specs.declared.asking.View.{View}
use Rattle.show_words.specs.declared.asking.View.TheVariants.{Machine, Pair, Why, Certificate, Inputs, Trace}
use Rattle.show_words.specs.ViewCommandLine.{view_command_line}
use Rattle.show_words.specs.ViewWords.{AreTakenAsView, shown_of}

abbrev pub Shows : List Text → View → Asked → Type 0
Shows words view asked = AreTakenAsView words × (shown_of words ≡ Some (record { view = view; asked = asked }))

pub record PlainWordsAreViewFiles : Type 0 where
  pub machine : (machine : Text) → IsPlainWord machine → Shows (codes "machine" ∷ machine ∷ []) Machine (Fmt machine)
  pub pair : (left right : Text) → IsPlainWord left → IsPlainWord right
      → Shows (codes "pair" ∷ left ∷ right ∷ []) Pair (Check left right None 10000)
  pub why : (left right : Text) → IsPlainWord left → IsPlainWord right
      → Shows (codes "why" ∷ left ∷ right ∷ []) Why (Check left right None 10000)
  pub certificate : (left right cert : Text) → IsPlainWord left → IsPlainWord right → IsPlainWord cert
      → Shows (codes "certificate" ∷ left ∷ right ∷ cert ∷ []) Certificate (Verify left right cert)
  pub inputs : (left right : Text) → IsPlainWord left → IsPlainWord right
      → Shows (codes "inputs" ∷ left ∷ right ∷ []) Inputs (Check left right None 10000)
  pub trace : (machine inputs : Text) → IsPlainWord machine → IsPlainWord inputs
      → Shows (codes "trace" ∷ machine ∷ inputs ∷ []) (Trace 10000) (Run machine inputs 10000)

pub record TakenViewExamples : Type 0 where
  pub most_steps : Shows (codes "trace" ∷ codes "A" ∷ codes "I" ∷ codes "--steps" ∷ codes "100000" ∷ [])
      (Trace 100000) (Run (codes "A") (codes "I") 100000)
  pub option_between : Shows (codes "trace" ∷ codes "A" ∷ codes "--steps=5" ∷ codes "I" ∷ [])
      (Trace 5) (Run (codes "A") (codes "I") 5)

abbrev pub FailAsViewBy : List Text → ErrorKind → Type 0
FailAsViewBy words kind = fault_of view_command_line words ≡ kind ∷ []

pub record RefusedViewExamples : Type 0 where
  pub nothing : FailAsViewBy [] kinds.MissingSubcommand
  pub one_file : FailAsViewBy (codes "why" ∷ codes "A" ∷ []) kinds.MissingRequiredArgument
  pub two_files : FailAsViewBy (codes "machine" ∷ codes "A" ∷ codes "B" ∷ []) kinds.UnknownArgument
  pub no_certificate : FailAsViewBy (codes "certificate" ∷ codes "A" ∷ codes "B" ∷ []) kinds.MissingRequiredArgument
  pub no_inputs : FailAsViewBy (codes "trace" ∷ codes "A" ∷ []) kinds.MissingRequiredArgument
  pub no_steps : FailAsViewBy (codes "trace" ∷ codes "A" ∷ codes "I" ∷ codes "--steps=0" ∷ []) kinds.ValueValidation
  pub flag : FailAsViewBy (codes "why" ∷ codes "A" ∷ codes "B" ∷ codes "--steps=5" ∷ []) kinds.UnknownArgument
  pub help : FailAsViewBy (codes "pair" ∷ codes "--help" ∷ []) kinds.DisplayHelp
  pub top_help : FailAsViewBy (codes "-h" ∷ []) kinds.DisplayHelp

-- Words that are taken, with what they ask, and words that are refused.
use Rattle.std.specs.Prelude.{◌≡◌, ◌<◌, false, List, [], ◌∷◌, ◌++◌, All, replicate, Some, None, codes}
use Rattle.std.specs.Str.Parse.{digits_value, without_leading_plus}
use Rattle.clap.specs.Lexer.{strip_byte}
use Rattle.clap.specs.ValueTests.{is_unsigned_in}
use Rattle.clap.specs.Words.{Text, fault_of}
use Rattle.clap.specs.declared.error.kind.ErrorKind.{ErrorKind}
use Rattle.clap.specs.declared.error.kind.ErrorKind.TheVariants as kinds
use Rattle.fsmd_command_line.specs.CommandLine.{command_line}
use Rattle.fsmd_words.specs.AskedWords.{AreTaken, AreParsed, IsChainLength, Asked, asked_of}
use Rattle.fsmd_words.specs.AskedWords.{Check, Verify, Run, Replay, Fmt, Cuts, Generate, Compile, Schedule, Bind, Shrink, Chain}

abbrev pub Asks : List Text → Asked → Type 0
Asks words what = AreTaken words × (asked_of words ≡ Some what)

abbrev pub FailBy : List Text → ErrorKind → Type 0
FailBy words kind = fault_of command_line words ≡ kind ∷ []

-- clap takes the words, but their files are not by turns
abbrev pub FailByTurns : List Text → Type 0
FailByTurns words = AreParsed words × (asked_of words ≡ None)

pub record TakenExamples : Type 0 where
  pub options_between : Asks
      (codes "check" ∷ codes "--steps=5" ∷ codes "A" ∷ codes "--cert" ∷ codes "F" ∷ codes "B" ∷ [])
      (Check (codes "A") (codes "B") (Some (codes "F")) 5)
  pub most_steps : Asks (codes "run" ∷ codes "A" ∷ codes "I" ∷ codes "--steps" ∷ codes "100000" ∷ [])
      (Run (codes "A") (codes "I") 100000)
  pub named_as_command : Asks (codes "fmt" ∷ codes "check" ∷ []) (Fmt (codes "check"))
  pub after_hyphens : Asks (codes "cuts" ∷ codes "--" ∷ codes "--steps" ∷ [])
      (Cuts (codes "--steps"))
  pub hyphen_value : Asks (codes "check" ∷ codes "A" ∷ codes "B" ∷ codes "--cert=-x" ∷ [])
      (Check (codes "A") (codes "B") (Some (codes "-x")) 10000)
  pub most_loops : Asks (codes "generate" ∷ codes "300" ∷ []) (Generate 300)
  pub with_plus : Asks (codes "generate" ∷ codes "+7" ∷ []) (Generate 7)
  pub shrink_steps : Asks
      (codes "shrink" ∷ codes "A" ∷ codes "--steps" ∷ codes "7" ∷ codes "B" ∷ codes "I" ∷ [])
      (Shrink (codes "A") (codes "B") (codes "I") 7)
  pub one_link : Asks (codes "chain" ∷ codes "A" ∷ codes "C" ∷ codes "B" ∷ [])
      (Chain (codes "A" ∷ codes "C" ∷ codes "B" ∷ []))
  pub two_links : Asks (codes "chain" ∷ codes "A" ∷ codes "C" ∷ codes "B" ∷ codes "D" ∷ codes "B" ∷ [])
      (Chain (codes "A" ∷ codes "C" ∷ codes "B" ∷ codes "D" ∷ codes "B" ∷ []))
  pub chain_with_hyphens : Asks (codes "chain" ∷ codes "A" ∷ codes "--" ∷ codes "-C" ∷ codes "--" ∷ [])
      (Chain (codes "A" ∷ codes "-C" ∷ codes "--" ∷ []))

pub record RefusedExamples : Type 0 where
  pub nothing : FailBy [] kinds.MissingSubcommand
  pub unknown : fault_of command_line (codes "trace" ∷ codes "A" ∷ [])
      ≡ kinds.UnknownArgument ∷ kinds.InvalidSubcommand ∷ []
  pub one_file : FailBy (codes "check" ∷ codes "A" ∷ []) kinds.MissingRequiredArgument
  pub three_files : FailBy (codes "check" ∷ codes "A" ∷ codes "B" ∷ codes "C" ∷ [])
      kinds.UnknownArgument
  pub no_steps : FailBy (codes "check" ∷ codes "A" ∷ codes "B" ∷ codes "--steps=0" ∷ [])
      kinds.ValueValidation
  pub too_many_steps : FailBy
      (codes "check" ∷ codes "A" ∷ codes "B" ∷ codes "--steps" ∷ codes "100001" ∷ [])
      kinds.ValueValidation
  pub no_value : FailBy (codes "check" ∷ codes "A" ∷ codes "B" ∷ codes "--cert" ∷ [])
      kinds.InvalidValue
  pub flag_for_value : FailBy
      (codes "check" ∷ codes "A" ∷ codes "B" ∷ codes "--cert" ∷ codes "-x" ∷ [])
      kinds.UnknownArgument
  pub twice : FailBy
      (codes "check" ∷ codes "A" ∷ codes "B" ∷ codes "--steps=1" ∷ codes "--steps=1" ∷ [])
      kinds.ArgumentConflict
  pub no_loops : FailBy (codes "generate" ∷ codes "0" ∷ []) kinds.ValueValidation
  pub too_many_loops : FailBy (codes "generate" ∷ codes "301" ∷ []) kinds.ValueValidation
  pub no_certificate : FailBy (codes "verify" ∷ codes "A" ∷ codes "B" ∷ [])
      kinds.MissingRequiredArgument
  pub no_inputs : FailBy (codes "shrink" ∷ codes "A" ∷ codes "B" ∷ []) kinds.MissingRequiredArgument
  pub no_chain : FailBy (codes "chain" ∷ []) kinds.MissingRequiredArgument
  pub one_machine : FailBy (codes "chain" ∷ codes "A" ∷ []) kinds.TooFewValues
  pub two_words : FailBy (codes "chain" ∷ codes "A" ∷ codes "C" ∷ []) kinds.TooFewValues
  pub four_words : FailByTurns (codes "chain" ∷ codes "A" ∷ codes "C" ∷ codes "B" ∷ codes "D" ∷ [])
  pub too_many_words : FailBy (codes "chain" ∷ replicate 131 (codes "A")) kinds.TooManyValues
  pub chain_steps : FailBy (codes "chain" ∷ codes "A" ∷ codes "C" ∷ codes "--steps=5" ∷ codes "B" ∷ [])
      kinds.UnknownArgument
  pub help : FailBy (codes "check" ∷ codes "--help" ∷ []) kinds.DisplayHelp
  pub top_help : FailBy (codes "-h" ∷ []) kinds.DisplayHelp

-- the word begins with no hyphen, whose byte is 45
abbrev pub IsPlainWord : Text → Type 0
IsPlainWord word = strip_byte 45 word ≡ None

pub record PlainWordsAreFiles : Type 0 where
  pub check : (left right : Text) → IsPlainWord left → IsPlainWord right
      → Asks (codes "check" ∷ left ∷ right ∷ []) (Check left right None 10000)
  pub verify : (left right cert : Text) → IsPlainWord left → IsPlainWord right → IsPlainWord cert
      → Asks (codes "verify" ∷ left ∷ right ∷ cert ∷ []) (Verify left right cert)
  pub run : (machine inputs : Text) → IsPlainWord machine → IsPlainWord inputs
      → Asks (codes "run" ∷ machine ∷ inputs ∷ []) (Run machine inputs 10000)
  pub replay : (left right inputs : Text) → IsPlainWord left → IsPlainWord right → IsPlainWord inputs
      → Asks (codes "replay" ∷ left ∷ right ∷ inputs ∷ []) (Replay left right inputs 10000)
  pub fmt : (machine : Text) → IsPlainWord machine → Asks (codes "fmt" ∷ machine ∷ []) (Fmt machine)
  pub cuts : (machine : Text) → IsPlainWord machine → Asks (codes "cuts" ∷ machine ∷ []) (Cuts machine)
  pub compile : (program : Text) → IsPlainWord program
      → Asks (codes "compile" ∷ program ∷ []) (Compile program)
  pub schedule : (machine units : Text) → IsPlainWord machine → IsPlainWord units
      → Asks (codes "schedule" ∷ machine ∷ units ∷ []) (Schedule machine units)
  pub bind : (machine binding : Text) → IsPlainWord machine → IsPlainWord binding
      → Asks (codes "bind" ∷ machine ∷ binding ∷ []) (Bind machine binding)
  pub shrink : (left right inputs : Text) → IsPlainWord left → IsPlainWord right → IsPlainWord inputs
      → Asks (codes "shrink" ∷ left ∷ right ∷ inputs ∷ []) (Shrink left right inputs 10000)
  pub chain : (files : List Text) → All IsPlainWord files → IsChainLength files → Asks (codes "chain" ∷ files) (Chain files)

-- the word spells no number from 1 to 100,000
abbrev pub SpellsNoSteps : Text → Type 0
SpellsNoSteps word = is_unsigned_in 1 100000 word ≡ false

-- words that spell numbers outside these, and the commands that are refused where such a word stands behind their files and
-- `--steps`, as a word of its own or behind `=`
pub record OtherStepsAreRefused : Type 0 where
  pub too_few : (word : Text) → digits_value 10 (without_leading_plus word) < 1 → SpellsNoSteps word
  pub too_many : (word : Text) → 100000 < digits_value 10 (without_leading_plus word) → SpellsNoSteps word
  pub check : (left right steps : Text) → IsPlainWord left → IsPlainWord right → IsPlainWord steps → SpellsNoSteps steps
      → FailBy (codes "check" ∷ left ∷ right ∷ codes "--steps" ∷ steps ∷ []) kinds.ValueValidation
  pub check_attached : (left right steps : Text) → IsPlainWord left → IsPlainWord right → SpellsNoSteps steps
      → FailBy (codes "check" ∷ left ∷ right ∷ (codes "--steps=" ++ steps) ∷ []) kinds.ValueValidation
  pub run : (machine inputs steps : Text) → IsPlainWord machine → IsPlainWord inputs → IsPlainWord steps → SpellsNoSteps steps
      → FailBy (codes "run" ∷ machine ∷ inputs ∷ codes "--steps" ∷ steps ∷ []) kinds.ValueValidation
  pub run_attached : (machine inputs steps : Text) → IsPlainWord machine → IsPlainWord inputs → SpellsNoSteps steps
      → FailBy (codes "run" ∷ machine ∷ inputs ∷ (codes "--steps=" ++ steps) ∷ []) kinds.ValueValidation
  pub replay : (left right inputs steps : Text) → IsPlainWord left → IsPlainWord right → IsPlainWord inputs → IsPlainWord steps
      → SpellsNoSteps steps → FailBy (codes "replay" ∷ left ∷ right ∷ inputs ∷ codes "--steps" ∷ steps ∷ []) kinds.ValueValidation
  pub replay_attached : (left right inputs steps : Text) → IsPlainWord left → IsPlainWord right → IsPlainWord inputs
      → SpellsNoSteps steps
      → FailBy (codes "replay" ∷ left ∷ right ∷ inputs ∷ (codes "--steps=" ++ steps) ∷ []) kinds.ValueValidation
  pub shrink : (left right inputs steps : Text) → IsPlainWord left → IsPlainWord right → IsPlainWord inputs → IsPlainWord steps
      → SpellsNoSteps steps → FailBy (codes "shrink" ∷ left ∷ right ∷ inputs ∷ codes "--steps" ∷ steps ∷ []) kinds.ValueValidation
  pub shrink_attached : (left right inputs steps : Text) → IsPlainWord left → IsPlainWord right → IsPlainWord inputs
      → SpellsNoSteps steps
      → FailBy (codes "shrink" ∷ left ∷ right ∷ inputs ∷ (codes "--steps=" ++ steps) ∷ []) kinds.ValueValidation

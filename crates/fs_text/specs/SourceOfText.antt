-- What the bytes of a machine text spell.
use Rattle.std.specs.Prelude.{ℕ, List, Result}
use Rattle.fs_model.specs.Source.{Source}
use Rattle.fs_grammar.specs.declared.fault.TextFault.{TextFault}
use Rattle.fs_grammar.specs.declared.fault.ReadError.{ReadError}
use Rattle.fs_grammar.specs.declared.fault.ReadError.TheVariants.{Text, NoMemory}
use Rattle.fs_grammar.specs.Grammar.{reading, at_start}
use Rattle.fs_lex.specs.Scan.{tokens_of}

-- the source that the bytes spell, or their first fault
abbrev pub source_spelled : List ℕ → Result Source TextFault
source_spelled bytes = reading (tokens_of bytes) at_start

-- if the text is faulty, then P of its fault
abbrev pub IfText : ReadError → (TextFault → Type 0) → Type 0
IfText (Text fault) P = P fault
IfText NoMemory P = Unit {0}

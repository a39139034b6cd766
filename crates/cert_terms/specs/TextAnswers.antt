-- Answers on texts.
use Rattle.std.specs.Prelude.{◌≡◌, Result, Ok, Err}
use Rattle.term_values.specs.declared.faults.TermError.{TermError}
use Rattle.term_values.specs.declared.faults.TermError.TheVariants as term

-- an answer is what a function says of a text, or memory was refused
abbrev pub TellsText : {X Y : Type 0} → (X → Y) → Result X TermError → Result Y TermError → Type 0
TellsText view (Ok x) y = y ≡ Ok (view x)
TellsText view (Err term.BadTerm) y = y ≡ Err term.BadTerm
TellsText view (Err term.NumberTooBig) y = y ≡ Err term.NumberTooBig
TellsText view (Err term.UnknownName) y = y ≡ Err term.UnknownName
TellsText view (Err term.SortOf) y = y ≡ Err term.SortOf
TellsText view (Err term.NotNormal) y = y ≡ Err term.NotNormal
TellsText view (Err term.NoMemory) y = Unit {0}

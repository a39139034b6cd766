-- Answers of parts of a node.
use Rattle.std.specs.Prelude.{◌≡◌, ℕ, Result, Ok, Err}
use Rattle.term_values.specs.declared.faults.TermError.{TermError}
use Rattle.term_values.specs.declared.faults.TermError.TheVariants as term
use Rattle.cert_facts.specs.declared.faults.CertError.{CertError}
use Rattle.cert_facts.specs.declared.faults.CertError.TheVariants as errors
use Rattle.cert_facts.specs.declared.faults.Stop.{Stop}
use Rattle.cert_facts.specs.declared.faults.Stop.TheVariants as stop

-- an answer is what a function says, or memory was refused
abbrev pub Tells : {X Y : Type 0} → (X → Y) → Result X Stop → Result Y CertError → Type 0
Tells view (Ok x) y = y ≡ Ok (view x)
Tells view (Err (stop.Refused e)) y = y ≡ Err e
Tells view (Err stop.NoMemory) y = Unit {0}

-- what comes of a part goes on with the next, or its refusal is that of the whole
abbrev pub then_part : {X Y : Type 0} → Result X CertError → (X → Result Y CertError) → Result Y CertError
then_part (Ok x) next = next x
then_part (Err e) next = Err e

-- why node i is refused where one of its texts is, or out of memory
abbrev pub stop_of : ℕ → TermError → Stop
stop_of i term.BadTerm = stop.Refused (errors.BadTerm i)
stop_of i term.NumberTooBig = stop.Refused (errors.NumberTooBig i)
stop_of i term.UnknownName = stop.Refused (errors.UnknownName i)
stop_of i term.SortOf = stop.Refused (errors.SortOf i)
stop_of i term.NotNormal = stop.Refused (errors.NotNormal i)
stop_of i term.NoMemory = stop.NoMemory

-- Answers on the nodes that texts and other parts stand in.
use Rattle.std.proofs.Common.{ℕ, ap, Result, Err}
use Rattle.term_values.specs.declared.faults.TermError.{TermError}
use Rattle.term_values.specs.declared.faults.TermError.TheVariants.{BadTerm, NumberTooBig, UnknownName, SortOf, NotNormal, NoMemory}
use Rattle.cert_terms.specs.TextAnswers.{TellsText}
use Rattle.cert_facts.specs.declared.faults.CertError.{CertError}
use Rattle.cert_facts.specs.declared.faults.Stop.{Stop}
use Rattle.cert_facts.specs.declared.faults.Stop.TheVariants as stop
use Rattle.cert_facts.specs.PartAnswers.{Tells, then_part, stop_of}
use Rattle.cert_facts.specs.FactReading.{text_read}

pub stopped : {X Y : Type 0} (view : X → Y) (i : ℕ) (e : TermError) (y : Result Y TermError) → TellsText view (Err e) y
    → Tells view (Err (stop_of i e)) (text_read i y)
stopped view i BadTerm y h = ap (text_read i) h
stopped view i NumberTooBig y h = ap (text_read i) h
stopped view i UnknownName y h = ap (text_read i) h
stopped view i SortOf y h = ap (text_read i) h
stopped view i NotNormal y h = ap (text_read i) h
stopped view i NoMemory y h = tt

-- where a part stops, the whole does
pub stopped_first : {V W X Y : Type 0} (v : V → X) (w : W → Y) (e : Stop) (y : Result X CertError) (next : X → Result Y CertError) → Tells v (Err e) y
    → Tells w (Err e) (then_part y next)
stopped_first v w (stop.Refused e) y next h = ap (λ z. then_part z next) h
stopped_first v w stop.NoMemory y next h = tt

-- Answers on texts.
use Rattle.std.proofs.Common.{◌≡◌, ℕ, List, Result, Ok, Err}
use Rattle.std.specs.Prelude.{IfOk, IfErr}
use Rattle.nf_terms.specs.NormalTerms.{Polynomial, ArrayTerm}
use Rattle.nf_terms.specs.Lists.{ListTerm}
use Rattle.nf_terms.specs.declared.symbols.Sort.{Sort}
use Rattle.nf_terms.specs.declared.symbols.Sort.TheVariants as sort
use Rattle.nf_terms.specs.declared.form.Nf.{Nf}
use Rattle.nf_terms.specs.declared.form.Nf.TheVariants.{Num, Arr, Seq}
use Rattle.nf_rel.specs.Literals.{NormalLiteral}
use Rattle.term_values.specs.NameMeanings.{Find}
use Rattle.term_values.specs.TermFaults.{IsPolynomialOf, ReadsAsArray, ReadsAsList, IsRefusedAsTerm, IsLiteralOf, IsRefusedCondition}
use Rattle.term_values.specs.declared.faults.TermError.{TermError}
use Rattle.term_values.specs.declared.faults.TermError.TheVariants.{BadTerm, NumberTooBig, UnknownName, SortOf, NotNormal, NoMemory}
use Rattle.cert_terms.specs.TextMeanings.{Refuses}
use Rattle.cert_terms.specs.TextFunctions.{meanings_by}
use Rattle.cert_terms.specs.TextAnswers.{TellsText}
use Rattle.cert_terms.proofs.Readings.{texts_are_read}

pub refused : {X Y : Type 0} (view : X → Y) (e : TermError) (y : Result Y TermError) → Refuses e y → TellsText view (Err e) y
refused view BadTerm y h = h
refused view NumberTooBig y h = h
refused view UnknownName y h = h
refused view SortOf y h = h
refused view NotNormal y h = h
refused view NoMemory y h = tt

-- ---- what a text is read as

pub number_told : (find : Find) (bytes : List ℕ) (p : Polynomial) → IsPolynomialOf find bytes p → (meanings_by find).term sort.Scalar bytes ≡ Ok (Num p)
number_told find bytes p i = (texts_are_read find).polynomial bytes p i

pub array_told : (find : Find) (bytes : List ℕ) (a : ArrayTerm) → ReadsAsArray find bytes a → (meanings_by find).term sort.Array bytes ≡ Ok (Arr a)
array_told find bytes a i = (texts_are_read find).array bytes a i

pub list_told : (find : Find) (bytes : List ℕ) (l : ListTerm) → ReadsAsList find bytes l → (meanings_by find).term sort.List bytes ≡ Ok (Seq l)
list_told find bytes l i = (texts_are_read find).list bytes l i

pub term_refused :
    (find : Find) (s : Sort) (bytes : List ℕ) (e : TermError) → IsRefusedAsTerm find s bytes e
    → TellsText {X = Nf} (λ f. f) (Err e) ((meanings_by find).term s bytes)
term_refused find s bytes e i = refused (λ f. f) e ((meanings_by find).term s bytes) ((texts_are_read find).no_term s bytes e i)

pub condition_told : (find : Find) (bytes : List ℕ) (l : NormalLiteral) → IsLiteralOf find bytes l → (meanings_by find).condition bytes ≡ Ok l
condition_told find bytes l i = (texts_are_read find).condition bytes l i

pub condition_refused : {X : Type 0} (view : X → NormalLiteral) (find : Find) (bytes : List ℕ) (e : TermError) → IsRefusedCondition find bytes e
    → TellsText view (Err e) ((meanings_by find).condition bytes)
condition_refused view find bytes e i = refused view e ((meanings_by find).condition bytes) ((texts_are_read find).no_condition bytes e i)

-- an answer on a condition
pub condition_tells : {X : Type 0} (view : X → NormalLiteral) (find : Find) (bytes : List ℕ) (result : Result X TermError)
    → IfOk result (λ l. IsLiteralOf find bytes (view l)) → IfErr result (λ e. IsRefusedCondition find bytes e)
    → TellsText view result ((meanings_by find).condition bytes)
condition_tells view find bytes (Ok l) h g = condition_told find bytes (view l) h
condition_tells view find bytes (Err e) h g = condition_refused view find bytes e g

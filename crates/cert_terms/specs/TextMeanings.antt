-- What the texts of terms and of conditions stand for, as functions that agree with their grammar.
use Rattle.std.specs.Prelude.{◌≡◌, ℕ, List, Result, Ok, Err}
use Rattle.nf_terms.specs.NormalTerms.{Polynomial, ArrayTerm}
use Rattle.nf_terms.specs.Lists.{ListTerm}
use Rattle.nf_terms.specs.declared.symbols.Sort.{Sort}
use Rattle.nf_terms.specs.declared.symbols.Sort.TheVariants as sort
use Rattle.nf_terms.specs.declared.form.Nf.{Nf}
use Rattle.nf_terms.specs.declared.form.Nf.TheVariants.{Num, Arr, Seq}
use Rattle.nf_rel.specs.Literals.{NormalLiteral}
use Rattle.term_values.specs.declared.faults.TermError.{TermError}
use Rattle.term_values.specs.declared.faults.TermError.TheVariants.{BadTerm, NumberTooBig, UnknownName, SortOf, NotNormal}
use Rattle.term_values.specs.declared.faults.TermError.TheVariants.{NoMemory}
use Rattle.term_values.specs.NameMeanings.{Find}
use Rattle.term_values.specs.TermFaults.{IsPolynomialOf, ReadsAsArray, ReadsAsList, IsRefusedAsTerm, IsLiteralOf}
use Rattle.term_values.specs.TermFaults.{IsRefusedCondition}

-- for each text a term of a sort, or a literal, or why it is refused
pub record TextMeanings : Type 0 where
  pub term : Sort → List ℕ → Result Nf TermError
  pub condition : List ℕ → Result NormalLiteral TermError

-- a text is refused for this; nothing is said of memory
abbrev pub Refuses : {X : Type 0} → TermError → Result X TermError → Type 0
Refuses BadTerm y = y ≡ Err BadTerm
Refuses NumberTooBig y = y ≡ Err NumberTooBig
Refuses UnknownName y = y ≡ Err UnknownName
Refuses SortOf y = y ≡ Err SortOf
Refuses NotNormal y = y ≡ Err NotNormal
Refuses NoMemory y = Unit {0}

-- the functions say of each text what its grammar says
pub record AreRead (find : Find) (r : TextMeanings) : Type 0 where
  pub polynomial : (bytes : List ℕ) (p : Polynomial) → IsPolynomialOf find bytes p → r.term sort.Scalar bytes ≡ Ok (Num p)
  pub array : (bytes : List ℕ) (a : ArrayTerm) → ReadsAsArray find bytes a → r.term sort.Array bytes ≡ Ok (Arr a)
  pub list : (bytes : List ℕ) (l : ListTerm) → ReadsAsList find bytes l → r.term sort.List bytes ≡ Ok (Seq l)
  pub no_term : (s : Sort) (bytes : List ℕ) (e : TermError) → IsRefusedAsTerm find s bytes e → Refuses e (r.term s bytes)
  pub condition : (bytes : List ℕ) (l : NormalLiteral) → IsLiteralOf find bytes l → r.condition bytes ≡ Ok l
  pub no_condition : (bytes : List ℕ) (e : TermError) → IsRefusedCondition find bytes e → Refuses e (r.condition bytes)

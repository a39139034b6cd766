-- What is kept of a sum whose monomials are read one by one.
use Rattle.std.specs.Prelude.{◌≡◌, ℕ, suc, ◌≤◌, ◌&&◌, cond, List, None, Result, Ok, Err}
use Rattle.term_text.specs.declared.fault.ReadError.{ReadError}
use Rattle.term_text.specs.declared.fault.ReadError.TheVariants as unread
use Rattle.term_text.specs.Machine.{term_reading, at_polynomial, whole_polynomial, after_sum}
use Rattle.term_text.specs.TermTexts.{Monomial, Sum, Positive, Negative, Plus, Minus}
use Rattle.term_values.specs.declared.faults.TermError.{TermError}
use Rattle.term_values.specs.declared.faults.TermError.TheVariants.{NumberTooBig, UnknownName, SortOf, NotNormal}
use Rattle.term_values.specs.declared.sums.Tally.{Tally}
use Rattle.term_values.specs.NameMeanings.{Find}
use Rattle.term_values.specs.Checks.{numbers_fit, names_known, sorts_fit, monomial_passes, sum_passes}

-- how many monomials a sum has
abbrev pub monomial_count : Sum → ℕ
monomial_count (Positive m) = 1
monomial_count (Negative m) = 1
monomial_count (Plus s m) = suc (monomial_count s)
monomial_count (Minus s m) = suc (monomial_count s)

-- the first fault of a sum with this tally that is too long to be normal
abbrev pub tally_fault : Tally → TermError
tally_fault t = cond t.numbers (cond t.names (cond t.sorts NotNormal SortOf) UnknownName) NumberTooBig

-- what one monomial makes of the tally before it
pub record CountsMonomial (find : Find) (old new : Tally) (m : Monomial) : Type 0 where
  pub count : new.count ≤ suc old.count
  pub numbers : new.numbers ≡ (old.numbers && monomial_passes numbers_fit m)
  pub names : new.names ≡ (old.names && monomial_passes (names_known find) m)
  pub sorts : new.sorts ≡ (old.sorts && monomial_passes (sorts_fit find) m)

-- bytes are read as a sum up to what is left of them, and the sum has this tally
pub record HasTally (find : Find) (bytes rest : List ℕ) (t : Tally) : Type 0 where
  pub sum : Sum
  pub goes : term_reading bytes (at_polynomial whole_polynomial) ≡ term_reading rest (after_sum sum whole_polynomial)
  pub count : t.count ≤ monomial_count sum
  pub numbers : t.numbers ≡ sum_passes numbers_fit sum
  pub names : t.names ≡ sum_passes (names_known find) sum
  pub sorts : t.sorts ≡ sum_passes (sorts_fit find) sum

-- what an answer says of the bytes that were read holds, or the bytes are read as no polynomial, or memory ran out
abbrev pub IsTallied : {X : Type 0} → List ℕ → Result X ReadError → (X → Type 0) → Type 0
IsTallied bytes (Ok x) holds = holds x
IsTallied bytes (Err unread.BadTerm) holds = term_reading bytes (at_polynomial whole_polynomial) ≡ None
IsTallied bytes (Err unread.NoMemory) holds = Unit {0}

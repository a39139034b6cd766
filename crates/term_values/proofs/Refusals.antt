-- What a text is read as, and why it is refused.
use Rattle.std.proofs.Common.{◌≡◌, ℕ, Bool, true, false, List, Option, Some, None, Result, Ok, Err, refl, sym, subst, ap, ◌∙◌}
use Rattle.std.specs.Prelude.{IfOk, IfErr, IsErrAnd}
use Rattle.std.specs.Option.{option_or}
use Rattle.nf_trees.specs.NormalTerms as terms
use Rattle.nf_terms.specs.Lists as lists
use Rattle.term_text.specs.TermTexts.{TermSyntax, Polynomial, ArrayTerm, ListSyntax, polynomial, array, list}
use Rattle.term_text.specs.SpellableTerms.{SpellsTermText}
use Rattle.term_values.specs.declared.faults.TermError.{TermError}
use Rattle.term_values.specs.declared.faults.TermError.TheVariants.{BadTerm, NumberTooBig, UnknownName, SortOf, NotNormal, NoMemory}
use Rattle.term_values.specs.NameMeanings.{Find}
use Rattle.term_values.specs.TermValues.{within_limit, exact, polynomial_value, array_value, list_value}
use Rattle.term_values.specs.Checks.{Test, numbers_fit, names_known, sorts_fit, ones_left_out}
use Rattle.nf_rel.specs.NormalLiterals.{is_normal}
use Rattle.term_values.specs.TermFaults.{is_normal_array, is_normal_list, sort_of_term, term_passes, stands_normal, unless, fault_by, term_fault}
use Rattle.term_values.specs.TermFaults.{IsPolynomialOf, ReadsAsArray, ReadsAsList, HasFault, IsRefusedAsTerm, IsJudgedText, IsJudgedAs}
use Rattle.term_values.proofs.Exact.{polynomial_exact, array_exact, list_exact}

some_is_none : (e : TermError) → Some e ≡ None → ⊥
some_is_none e h = cc

fits_by : (b : Bool) (rest : Option TermError) → option_or (unless b NumberTooBig) rest ≡ None → b ≡ true
fits_by true rest e = refl
fits_by false rest e = absurd (some_is_none NumberTooBig e)

-- without a fault each number fits
pub fits : (passes : Test → Bool) (find : Find) → fault_by passes find ≡ None → passes numbers_fit ≡ true
fits passes find e = fits_by (passes numbers_fit) _ e

-- what stands for the value within the limit stands for the exact one
exactly : (find : Find) (t : TermSyntax) → term_passes numbers_fit t ≡ true → stands_normal (within_limit find) t ≡ stands_normal (exact find) t
exactly find (polynomial p) e = ap is_normal (polynomial_exact find p e)
exactly find (array a) e = ap is_normal_array (array_exact find a terms.NoWrites e)
exactly find (list l) e = ap is_normal_list (list_exact find l e)

pub faultless_by : (b : Bool) (o : Option TermError) → o ≡ None → b ≡ true → option_or o (unless b NotNormal) ≡ None
faultless_by b o e f = rw (e, f) refl

pub not_normal_by : (b : Bool) (o : Option TermError) → o ≡ None → b ≡ false → option_or o (unless b NotNormal) ≡ Some NotNormal
not_normal_by b o e f = rw (e, f) refl

-- a term without fault
faultless : (find : Find) (t : TermSyntax) → fault_by (λ test. term_passes test t) find ≡ None → stands_normal (within_limit find) t ≡ true
    → term_fault find t ≡ None
faultless find t e f = faultless_by (stands_normal (exact find) t) (fault_by (λ test. term_passes test t) find) e
    (sym (exactly find t (fits (λ test. term_passes test t) find e)) ∙ f)

-- a term that isn't normal, and has no other fault
not_normal : (find : Find) (t : TermSyntax) → fault_by (λ test. term_passes test t) find ≡ None → stands_normal (within_limit find) t ≡ false
    → term_fault find t ≡ Some NotNormal
not_normal find t e f = not_normal_by (stands_normal (exact find) t) (fault_by (λ test. term_passes test t) find) e
    (sym (exactly find t (fits (λ test. term_passes test t) find e)) ∙ f)

-- the refusal of what has no fault before it is brought to normal form
pub judged_refused : {X : Type 0} (find : Find) (bytes : List ℕ) (t : TermSyntax) (value : X) (r : Result X TermError) → SpellsTermText bytes t
    → fault_by (λ test. term_passes test t) find ≡ None → IsJudgedText r (stands_normal (within_limit find) t) value
    → IfErr r (IsRefusedAsTerm find (sort_of_term t) bytes)
judged_refused find bytes t value (Ok x) s e j = tt
judged_refused find bytes t value (Err BadTerm) s e j = absurd j
judged_refused find bytes t value (Err NumberTooBig) s e j = absurd j
judged_refused find bytes t value (Err UnknownName) s e j = absurd j
judged_refused find bytes t value (Err SortOf) s e j = absurd j
judged_refused find bytes t value (Err NotNormal) s e j = record { term = t; sort_is = refl; spells = s; first = not_normal find t e j }
judged_refused find bytes t value (Err NoMemory) s e j = tt

pub polynomial_read : (find : Find) (bytes : List ℕ) (w : Polynomial) (r : Result terms.Polynomial TermError) → SpellsTermText bytes (polynomial w)
    → fault_by (λ test. term_passes test (polynomial w)) find ≡ None
    → IsJudgedText r (stands_normal (within_limit find) (polynomial w)) (polynomial_value (within_limit find) w) → IfOk r (IsPolynomialOf find bytes)
polynomial_read find bytes w (Ok p) s e j = record {
  written = w;
  stands = record { spells = s; faultless = faultless find (polynomial w) e j.1 };
  value = j.0 ∙ polynomial_exact find w (fits (λ test. term_passes test (polynomial w)) find e);
}
polynomial_read find bytes w (Err d) s e j = tt

pub array_read : (find : Find) (bytes : List ℕ) (w : ArrayTerm) (r : Result terms.ArrayTerm TermError) → SpellsTermText bytes (array w)
    → fault_by (λ test. term_passes test (array w)) find ≡ None
    → IsJudgedText r (stands_normal (within_limit find) (array w)) (array_value (within_limit find) w terms.NoWrites) → IfOk r (ReadsAsArray find bytes)
array_read find bytes w (Ok a) s e j = record {
  written = w;
  stands = record { spells = s; faultless = faultless find (array w) e j.1 };
  value = j.0 ∙ array_exact find w terms.NoWrites (fits (λ test. term_passes test (array w)) find e);
}
array_read find bytes w (Err d) s e j = tt

pub list_read : (find : Find) (bytes : List ℕ) (w : ListSyntax) (r : Result lists.ListTerm TermError) → SpellsTermText bytes (list w)
    → fault_by (λ test. term_passes test (list w)) find ≡ None
    → IsJudgedText r (stands_normal (within_limit find) (list w)) (list_value (within_limit find) w) → IfOk r (ReadsAsList find bytes)
list_read find bytes w (Ok l) s e j = record {
  written = w;
  stands = record { spells = s; faultless = faultless find (list w) e j.1 };
  value = j.0 ∙ list_exact find w (fits (λ test. term_passes test (list w)) find e);
}
list_read find bytes w (Err d) s e j = tt

only_faults : (a b c d : Bool)
    → option_or (unless a NumberTooBig) (option_or (unless b UnknownName) (option_or (unless c SortOf) (unless d NotNormal))) ≡ Some BadTerm → ⊥
only_faults true true true true e = cc
only_faults true true true false e = cc
only_faults true true false d e = cc
only_faults true false c d e = cc
only_faults false b c d e = cc

has_fault : (find : Find) (bytes : List ℕ) (t : TermSyntax) (e : TermError) → SpellsTermText bytes t
    → fault_by (λ test. term_passes test t) find ≡ Some e → HasFault find (sort_of_term t) bytes e
has_fault find bytes t e s f = record {
  term = t;
  sort_is = refl;
  spells = s;
  first = ap (λ o. option_or o (unless (stands_normal (exact find) t) NotNormal)) f;
}

-- numbers and names of a term that spells something are no reason to say that it spells nothing
pub not_bad : (passes : Test → Bool) (find : Find) → fault_by passes find ≡ Some BadTerm → ⊥
not_bad passes find e = only_faults (passes numbers_fit) (passes (names_known find)) (passes (sorts_fit find)) (passes ones_left_out) e

-- the refusal of what has a fault in its numbers or names
pub fault_refused : (find : Find) (bytes : List ℕ) (t : TermSyntax) (e : TermError) → SpellsTermText bytes t
    → fault_by (λ test. term_passes test t) find ≡ Some e → IsRefusedAsTerm find (sort_of_term t) bytes e
fault_refused find bytes t BadTerm s f = absurd (not_bad (λ test. term_passes test t) find f)
fault_refused find bytes t NumberTooBig s f = has_fault find bytes t NumberTooBig s f
fault_refused find bytes t UnknownName s f = has_fault find bytes t UnknownName s f
fault_refused find bytes t SortOf s f = has_fault find bytes t SortOf s f
fault_refused find bytes t NotNormal s f = has_fault find bytes t NotNormal s f
fault_refused find bytes t NoMemory s f = tt

judged_so : {X Y Z : Type 0} (view : Z → Y) (e : TermError) (b c : Bool) (v : X) (w : Y) → IsJudgedText {X = X} (Err e) b v → (b ≡ false → c ≡ false)
    → IsJudgedAs {X = Z} view (Err e) c w
judged_so view BadTerm b c v w j f = absurd j
judged_so view NumberTooBig b c v w j f = absurd j
judged_so view UnknownName b c v w j f = absurd j
judged_so view SortOf b c v w j f = absurd j
judged_so view NotNormal b c v w j f = f j
judged_so view NoMemory b c v w j f = tt

-- the refusal of a part is that of the whole
pub judged_too : {X Y Z : Type 0} (view : Z → Y) (r : Result Z TermError) (e : TermError) (b c : Bool) (v : X) (w : Y) → IsErrAnd r (λ d. d ≡ e)
    → IsJudgedText {X = X} (Err e) b v → (b ≡ false → c ≡ false) → IsJudgedAs view r c w
judged_too view (Ok x) e b c v w h j f = absurd h
judged_too {Z = Z} view (Err d) e b c v w h j f = subst (λ (x : TermError). IsJudgedAs {X = Z} view (Err x) c w) (sym h) (judged_so view e b c v w j f)

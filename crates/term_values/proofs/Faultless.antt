-- A written term that passes all tests at once shows no fault.
use Rattle.std.proofs.Common.{◌≡◌, ℕ, Bool, true, false, ◌&&◌, List, Option, Some, None, refl}
use Rattle.std.specs.Prelude.{is_some}
use Rattle.std.specs.Option.{option_or}
use Rattle.fs_model.specs.declared.sides.Pos.{Pos}
use Rattle.fs_model.specs.declared.sides.Side.{Side}
use Rattle.nf_terms.specs.declared.symbols.Sort.{Sort}
use Rattle.nf_terms.specs.declared.symbols.Sort.TheVariants as sort
use Rattle.term_text.specs.TermTexts.{Atom, Monomial, Sum, Polynomial, ArrayTerm, ListSyntax, Symbol, Read, Quotient, Remainder, Number, One, Times, Positive}
use Rattle.term_text.specs.TermTexts.{Negative, Plus, Minus, Zero, Of, ZeroArray, Bare, Written, EmptyList, BareList, Pushed}
use Rattle.term_text.specs.View.{written_polynomial_in, written_array_in, written_list_in}
use Rattle.term_condition_text.specs.ConditionTexts as conditions
use Rattle.term_condition_text.specs.ConditionTexts.{Integer, Condition, ZeroInteger, Compared}
use Rattle.term_condition_text.specs.View.{condition_in}
use Rattle.term_values.specs.declared.faults.TermError.TheVariants.{NumberTooBig, UnknownName, SortOf, NotNormal}
use Rattle.term_values.specs.declared.faults.WrittenTerm.{WrittenTerm}
use Rattle.term_values.specs.declared.faults.WrittenTerm.TheVariants as written
use Rattle.term_values.specs.NameMeanings.{Find, name_has_sort}
use Rattle.term_values.specs.Checks.{Test, numbers_fit, names_known, sorts_fit, ones_left_out, faultless, factor_passes, atom_passes, monomial_passes}
use Rattle.term_values.specs.Checks.{sum_passes, polynomial_passes, array_passes, list_passes}
use Rattle.term_values.specs.Conditions.{integer_passes, written_condition_passes}
use Rattle.term_values.specs.TermFaults.{unless, fault_by}
use Rattle.term_values.specs.TermTests.{written_passes}

-- what passes one test passes the other
pub record IsStronger (t u : Test) : Type 0 where
  pub number : (ds : List ℕ) → t.number ds ≡ true → u.number ds ≡ true
  pub factor : (ds : List ℕ) → t.factor ds ≡ true → u.factor ds ≡ true
  pub name : (wanted : Sort) (s : Side) (x : List ℕ) → t.name wanted s x ≡ true → u.name wanted s x ≡ true

two : (a b c d : Bool) → (a ≡ true → c ≡ true) → (b ≡ true → d ≡ true) → (a && b) ≡ true → (c && d) ≡ true
two true b true d f g e = g e
two true b false d f g e = absurd (cc (f refl))
two false b c d f g e = absurd (cc e)

module _ (t u : Test) (h : IsStronger t u) where
  factor_too : (m : Monomial) → factor_passes t m ≡ true → factor_passes u m ≡ true
  factor_too (Number ds) e = h.factor ds e
  factor_too (One a) e = refl
  factor_too (Times m a) e = refl

  mutual
    atom_too : (a : Atom) → atom_passes t a ≡ true → atom_passes u a ≡ true
    atom_too (Symbol s x) e = h.name sort.Scalar s x e
    atom_too (Read a i) e = two (array_passes t a) (polynomial_passes t i) (array_passes u a) (polynomial_passes u i) (λ d. array_too a d)
        (λ d. polynomial_too i d) e
    atom_too (Quotient p q) e = two (polynomial_passes t p) (polynomial_passes t q) (polynomial_passes u p) (polynomial_passes u q) (λ d. polynomial_too p d)
        (λ d. polynomial_too q d) e
    atom_too (Remainder p q) e = two (polynomial_passes t p) (polynomial_passes t q) (polynomial_passes u p) (polynomial_passes u q) (λ d. polynomial_too p d)
        (λ d. polynomial_too q d) e

    pub monomial_too : (m : Monomial) → monomial_passes t m ≡ true → monomial_passes u m ≡ true
    monomial_too (Number ds) e = h.number ds e
    monomial_too (One a) e = atom_too a e
    monomial_too (Times m a) e =
        two (monomial_passes t m && factor_passes t m) (atom_passes t a) (monomial_passes u m && factor_passes u m) (atom_passes u a)
        (λ d. two (monomial_passes t m) (factor_passes t m) (monomial_passes u m) (factor_passes u m) (λ f. monomial_too m f) (λ f. factor_too m f) d)
        (λ d. atom_too a d) e

    sum_too : (s : Sum) → sum_passes t s ≡ true → sum_passes u s ≡ true
    sum_too (Positive m) e = monomial_too m e
    sum_too (Negative m) e = monomial_too m e
    sum_too (Plus s m) e = two (sum_passes t s) (monomial_passes t m) (sum_passes u s) (monomial_passes u m) (λ d. sum_too s d) (λ d. monomial_too m d) e
    sum_too (Minus s m) e = two (sum_passes t s) (monomial_passes t m) (sum_passes u s) (monomial_passes u m) (λ d. sum_too s d) (λ d. monomial_too m d) e

    polynomial_too : (p : Polynomial) → polynomial_passes t p ≡ true → polynomial_passes u p ≡ true
    polynomial_too Zero e = refl
    polynomial_too (Of s) e = sum_too s e

    array_too : (a : ArrayTerm) → array_passes t a ≡ true → array_passes u a ≡ true
    array_too ZeroArray e = refl
    array_too (Bare s x) e = h.name sort.Array s x e
    array_too (Written a i v) e =
        two (array_passes t a && polynomial_passes t i) (polynomial_passes t v) (array_passes u a && polynomial_passes u i) (polynomial_passes u v)
        (λ d. two (array_passes t a) (polynomial_passes t i) (array_passes u a) (polynomial_passes u i) (λ f. array_too a f) (λ f. polynomial_too i f) d)
        (λ d. polynomial_too v d) e

  list_too : (l : ListSyntax) → list_passes t l ≡ true → list_passes u l ≡ true
  list_too EmptyList e = refl
  list_too (BareList s x) e = h.name sort.List s x e
  list_too (Pushed l p) e = two (list_passes t l) (polynomial_passes t p) (list_passes u l) (polynomial_passes u p) (λ d. list_too l d)
      (λ d. polynomial_too p d) e

  integer_too : (i : Integer) → integer_passes t i ≡ true → integer_passes u i ≡ true
  integer_too ZeroInteger e = refl
  integer_too (conditions.Positive ds) e = h.number ds e
  integer_too (conditions.Negative ds) e = h.number ds e

  condition_too : (c : Condition) → written_condition_passes t c ≡ true → written_condition_passes u c ≡ true
  condition_too conditions.False e = refl
  condition_too (Compared p k i) e = two (polynomial_passes t p) (integer_passes t i) (polynomial_passes u p) (integer_passes u i) (λ d. polynomial_too p d)
      (λ d. integer_too i d) e

  written_too : (w : WrittenTerm) → written_passes t w ≡ true → written_passes u w ≡ true
  written_too (written.Polynomial p) e = polynomial_too (written_polynomial_in p.now) e
  written_too (written.Array a) e = array_too (written_array_in a.now) e
  written_too (written.List l) e = list_too (written_list_in l.now) e
  written_too (written.Condition c) e = condition_too (condition_in c.now) e

pub is_known : (wanted : Sort) (o : Option (Pos × Sort)) → name_has_sort wanted o ≡ true → is_some o ≡ true
is_known wanted None e = e
is_known wanted (Some p) e = refl

pub no_fault : (find : Find) (w : WrittenTerm) → written_passes (faultless find) w ≡ true → fault_by (λ test. written_passes test w) find ≡ None
no_fault find w e =
    let numbers : written_passes numbers_fit w ≡ true = written_too (faultless find) numbers_fit
    (record { number = λ ds d. d; factor = λ ds d. refl; name = λ wanted s x d. refl }) w e in
    let names : written_passes (names_known find) w ≡ true = written_too (faultless find) (names_known find)
    (record { number = λ ds d. refl; factor = λ ds d. refl; name = λ wanted s x d. is_known wanted (find s x) d }) w e in
    let sorts : written_passes (sorts_fit find) w ≡ true = written_too (faultless find) (sorts_fit find)
    (record { number = λ ds d. refl; factor = λ ds d. refl; name = λ wanted s x d. d }) w e in
    let ones : written_passes ones_left_out w ≡ true = written_too (faultless find) ones_left_out
    (record { number = λ ds d. refl; factor = λ ds d. d; name = λ wanted s x d. refl }) w e in
    λ k. option_or (unless (numbers k) NumberTooBig)
    (option_or (unless (names k) UnknownName) (option_or (unless (sorts k) SortOf) (unless (ones k) NotNormal)))

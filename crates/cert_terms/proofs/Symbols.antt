-- What a faultless text stands for has symbols that its names stand for.
use Rattle.std.proofs.Common.{◌≡◌, ℕ, Bool, true, false, ◌&&◌, refl, sym, subst, List, [], ◌∷◌, ◌++◌, Option, Some, None}
use Rattle.std.specs.List.{list_all}
use Rattle.std.specs.Option.{option_or}
use Rattle.std.proofs.lemmas.Bool.{and_from}
use Rattle.fs_model.proofs.Booleans.{and_first, and_second}
use Rattle.fs_model.specs.declared.sides.Side.{Side}
use Rattle.fs_model.specs.declared.sides.Pos.{Pos}
use Rattle.nf_terms.specs.declared.symbols.Sort.{Sort}
use Rattle.nf_terms.specs.declared.symbols.Sort.TheVariants as sort
use Rattle.nf_terms.specs.declared.form.Nf.TheVariants as form
use Rattle.nf_terms.specs.NormalTerms as terms
use Rattle.nf_terms.specs.Lists.{ListTerm}
use Rattle.nf_terms.specs.Symbols.{symbols_of_atom, symbols_of_monomial, symbols_of, symbols_of_writes, symbols_of_array, symbols_of_items, symbols_of_list}
use Rattle.nf_terms.specs.TermSorts.{same_term_sort}
use Rattle.sym_facts.proofs.Passing.{together}
use Rattle.nf_rel.specs.NormalLiterals.{is_normal_literal}
use Rattle.nf_rel.specs.Literals.{NormalLiteral}
use Rattle.sym_facts.specs.Facts.{may_be_kept}
use Rattle.sym_facts.specs.Pairings.{literal_within}
use Rattle.term_text.specs.TermTexts as text
use Rattle.term_text.specs.TermTexts.{Symbol, Read, Quotient, Remainder, Number, One, Times, Positive, Negative, Plus, Minus, Zero, Of, ZeroArray, Bare}
use Rattle.term_text.specs.TermTexts.{Written, EmptyList, BareList, Pushed, polynomial, array, list}
use Rattle.term_values.specs.ConditionTexts.{Condition, False, Compared}
use Rattle.term_values.specs.declared.faults.TermError.{TermError}
use Rattle.term_values.specs.declared.faults.TermError.TheVariants.{NumberTooBig, UnknownName, SortOf, NotNormal}
use Rattle.term_values.specs.NameMeanings.{Find, position_meant, position, name_has_sort}
use Rattle.term_values.specs.TermValues.{exact, atom_value, atoms_of, sum_value, polynomial_value, array_value, list_items, list_value}
use Rattle.term_values.specs.Checks.{Test, numbers_fit, names_known, sorts_fit, ones_left_out, atom_passes, monomial_passes, factor_passes, sum_passes}
use Rattle.term_values.specs.Checks.{polynomial_passes, array_passes, list_passes}
use Rattle.term_values.specs.Conditions.{condition_value, written_condition_passes, integer_passes}
use Rattle.term_values.specs.TermFaults.{unless, fault_by, term_passes, stands_normal, IsPolynomialOf, ReadsAsArray, ReadsAsList, IsLiteralOf}
use Rattle.cert_terms.specs.Within.{AllFoundPass, FormWithin, LiteralWithin}

-- ---- tests that a faultless text passes

none_left : (a b : Option TermError) → option_or a b ≡ None → a ≡ None
none_left None b e = refl
none_left (Some x) b e = absurd (cc e)

none_right : (a b : Option TermError) → option_or a b ≡ None → b ≡ None
none_right None b e = e
none_right (Some x) b e = absurd (cc e)

passed : (t : Bool) (e : TermError) → unless t e ≡ None → t ≡ true
passed true e h = refl
passed false e h = absurd (cc h)

sorted : (passes : Test → Bool) (find : Find) → fault_by passes find ≡ None → passes (sorts_fit find) ≡ true
sorted passes find e =
    let a : Option TermError = unless (passes numbers_fit) NumberTooBig in
    let b : Option TermError = unless (passes (names_known find)) UnknownName in
    let c : Option TermError = unless (passes (sorts_fit find)) SortOf in
    let d : Option TermError = unless (passes ones_left_out) NotNormal in
    passed (passes (sorts_fit find)) SortOf (none_left c d (none_right b (option_or c d) (none_right a (option_or b (option_or c d)) e)))

pub sorts_same : (s t : Sort) → same_term_sort s t ≡ true → t ≡ s
sorts_same sort.Scalar sort.Scalar e = refl
sorts_same sort.Scalar sort.Array e = absurd (cc e)
sorts_same sort.Scalar sort.List e = absurd (cc e)
sorts_same sort.Array sort.Scalar e = absurd (cc e)
sorts_same sort.Array sort.Array e = refl
sorts_same sort.Array sort.List e = absurd (cc e)
sorts_same sort.List sort.Scalar e = absurd (cc e)
sorts_same sort.List sort.Array e = absurd (cc e)
sorts_same sort.List sort.List e = refl

module _ (find : Find) (test : Pos × Sort → Bool) (all : AllFoundPass find test) where
  named : (s : Sort) (side : Side) (x : List ℕ) → name_has_sort s (find side x) ≡ true → test (position find side x, s) ≡ true
  named s side x h = by_value (find side x) refl h
    where
      by_value : (o : Option (Pos × Sort)) → find side x ≡ o → name_has_sort s o ≡ true → test (position_meant o, s) ≡ true
      by_value None e i = absurd (cc i)
      by_value (Some p) e i = subst (λ t. test (p.0, t) ≡ true) (sorts_same s p.1 i) (all side x p e)

  own : (s : Sort) (p : Pos) → test (p, s) ≡ true → list_all test ((p, s) ∷ []) ≡ true
  own s p h = and_from (test (p, s)) true h refl

  mutual
    atom_in : (a : text.Atom) → atom_passes (sorts_fit find) a ≡ true → list_all test (symbols_of_atom (atom_value (exact find) a)) ≡ true
    atom_in (Symbol s x) h = own sort.Scalar (position find s x) (named sort.Scalar s x h)
    atom_in (Read a i) h = together test (symbols_of_array (array_value (exact find) a terms.NoWrites)) (symbols_of (polynomial_value (exact find) i))
        (array_in a terms.NoWrites (and_first (array_passes (sorts_fit find) a) (polynomial_passes (sorts_fit find) i) h) refl)
        (polynomial_in i (and_second (array_passes (sorts_fit find) a) (polynomial_passes (sorts_fit find) i) h))
    atom_in (Quotient a b) h = together test (symbols_of (polynomial_value (exact find) a)) (symbols_of (polynomial_value (exact find) b))
        (polynomial_in a (and_first (polynomial_passes (sorts_fit find) a) (polynomial_passes (sorts_fit find) b) h))
        (polynomial_in b (and_second (polynomial_passes (sorts_fit find) a) (polynomial_passes (sorts_fit find) b) h))
    atom_in (Remainder a b) h = together test (symbols_of (polynomial_value (exact find) a)) (symbols_of (polynomial_value (exact find) b))
        (polynomial_in a (and_first (polynomial_passes (sorts_fit find) a) (polynomial_passes (sorts_fit find) b) h))
        (polynomial_in b (and_second (polynomial_passes (sorts_fit find) a) (polynomial_passes (sorts_fit find) b) h))

    -- atoms before others
    monomial_in : (m : text.Monomial) (rest : terms.Monomial) → monomial_passes (sorts_fit find) m ≡ true → list_all test (symbols_of_monomial rest) ≡ true
        → list_all test (symbols_of_monomial (atoms_of (exact find) m rest)) ≡ true
    monomial_in (Number ds) rest h r = r
    monomial_in (One a) rest h r = together test (symbols_of_atom (atom_value (exact find) a)) (symbols_of_monomial rest) (atom_in a h) r
    monomial_in (Times m a) rest h r =
        let t : Test = sorts_fit find in
        let front : (monomial_passes t m && factor_passes t m) ≡ true = and_first (monomial_passes t m && factor_passes t m) (atom_passes t a) h in
        monomial_in m (terms.Times (atom_value (exact find) a) rest) (and_first (monomial_passes t m) (factor_passes t m) front)
        (together test (symbols_of_atom (atom_value (exact find) a)) (symbols_of_monomial rest)
        (atom_in a (and_second (monomial_passes t m && factor_passes t m) (atom_passes t a) h)) r)

    sum_in : (s : text.Sum) (rest : terms.Polynomial) → sum_passes (sorts_fit find) s ≡ true → list_all test (symbols_of rest) ≡ true
        → list_all test (symbols_of (sum_value (exact find) s rest)) ≡ true
    sum_in (Positive m) rest h r = together test (symbols_of_monomial (atoms_of (exact find) m terms.One)) (symbols_of rest) (monomial_in m terms.One h refl) r
    sum_in (Negative m) rest h r = together test (symbols_of_monomial (atoms_of (exact find) m terms.One)) (symbols_of rest) (monomial_in m terms.One h refl) r
    sum_in (Plus s m) rest h r =
        sum_in s _ (and_first (sum_passes (sorts_fit find) s) (monomial_passes (sorts_fit find) m) h)
        (together test (symbols_of_monomial (atoms_of (exact find) m terms.One)) (symbols_of rest)
        (monomial_in m terms.One (and_second (sum_passes (sorts_fit find) s) (monomial_passes (sorts_fit find) m) h) refl) r)
    sum_in (Minus s m) rest h r =
        sum_in s _ (and_first (sum_passes (sorts_fit find) s) (monomial_passes (sorts_fit find) m) h)
        (together test (symbols_of_monomial (atoms_of (exact find) m terms.One)) (symbols_of rest)
        (monomial_in m terms.One (and_second (sum_passes (sorts_fit find) s) (monomial_passes (sorts_fit find) m) h) refl) r)

    polynomial_in : (p : text.Polynomial) → polynomial_passes (sorts_fit find) p ≡ true → list_all test (symbols_of (polynomial_value (exact find) p)) ≡ true
    polynomial_in Zero h = refl
    polynomial_in (Of s) h = sum_in s terms.Zero h refl

    array_in : (a : text.ArrayTerm) (ws : terms.Writes) → array_passes (sorts_fit find) a ≡ true → list_all test (symbols_of_writes ws) ≡ true
        → list_all test (symbols_of_array (array_value (exact find) a ws)) ≡ true
    array_in ZeroArray ws h r = r
    array_in (Bare s x) ws h r = and_from (test (position find s x, sort.Array)) (list_all test (symbols_of_writes ws)) (named sort.Array s x h) r
    array_in (Written a i v) ws h r =
        let t : Test = sorts_fit find in
        let front : (array_passes t a && polynomial_passes t i) ≡ true = and_first (array_passes t a && polynomial_passes t i) (polynomial_passes t v) h in
        array_in a (terms.Write (polynomial_value (exact find) i) (polynomial_value (exact find) v) ws)
        (and_first (array_passes t a) (polynomial_passes t i) front)
        (together test (symbols_of (polynomial_value (exact find) i)) (symbols_of (polynomial_value (exact find) v) ++ symbols_of_writes ws)
        (polynomial_in i (and_second (array_passes t a) (polynomial_passes t i) front))
        (together test (symbols_of (polynomial_value (exact find) v)) (symbols_of_writes ws)
        (polynomial_in v (and_second (array_passes t a && polynomial_passes t i) (polynomial_passes t v) h)) r))

  items_in : (l : text.ListSyntax) (rest : List terms.Polynomial) → list_passes (sorts_fit find) l ≡ true → list_all test (symbols_of_items rest) ≡ true
      → list_all test (symbols_of_list (record { base = (list_value (exact find) l).base; items = list_items (exact find) l rest })) ≡ true
  items_in EmptyList rest h r = r
  items_in (BareList s x) rest h r = and_from (test (position find s x, sort.List)) (list_all test (symbols_of_items rest)) (named sort.List s x h) r
  items_in (Pushed l p) rest h r = items_in l (polynomial_value (exact find) p ∷ rest)
      (and_first (list_passes (sorts_fit find) l) (polynomial_passes (sorts_fit find) p) h)
      (together test (symbols_of (polynomial_value (exact find) p)) (symbols_of_items rest)
      (polynomial_in p (and_second (list_passes (sorts_fit find) l) (polynomial_passes (sorts_fit find) p) h)) r)

  condition_in : (c : Condition) → written_condition_passes (sorts_fit find) c ≡ true → literal_within test (condition_value (exact find) c) ≡ true
  condition_in False h = refl
  condition_in (Compared p k i) h = polynomial_in p (and_first (polynomial_passes (sorts_fit find) p) (integer_passes (sorts_fit find) i) h)

-- ---- forms and literals

pub polynomial_within : (find : Find) (bytes : List ℕ) (p : terms.Polynomial) → IsPolynomialOf find bytes p → FormWithin find (form.Num p)
polynomial_within find bytes p h = record {
  within = λ test all. subst (λ q. list_all test (symbols_of q) ≡ true) (sym h.value)
      (polynomial_in find test all h.written
      (sorted (λ t. term_passes t (polynomial h.written)) find
      (none_left (fault_by (λ t. term_passes t (polynomial h.written)) find)
      (unless (stands_normal (exact find) (polynomial h.written)) NotNormal) h.stands.faultless)));
}

pub array_within : (find : Find) (bytes : List ℕ) (a : terms.ArrayTerm) → ReadsAsArray find bytes a → FormWithin find (form.Arr a)
array_within find bytes a h = record {
  within = λ test all. subst (λ q. list_all test (symbols_of_array q) ≡ true) (sym h.value)
      (array_in find test all h.written terms.NoWrites
      (sorted (λ t. term_passes t (array h.written)) find
      (none_left (fault_by (λ t. term_passes t (array h.written)) find) (unless (stands_normal (exact find) (array h.written)) NotNormal) h.stands.faultless))
      refl);
}

pub list_within : (find : Find) (bytes : List ℕ) (l : ListTerm) → ReadsAsList find bytes l → FormWithin find (form.Seq l)
list_within find bytes l h = record {
  within = λ test all. subst (λ q. list_all test (symbols_of_list q) ≡ true) (sym h.value)
      (items_in find test all h.written []
      (sorted (λ t. term_passes t (list h.written)) find
      (none_left (fault_by (λ t. term_passes t (list h.written)) find) (unless (stands_normal (exact find) (list h.written)) NotNormal) h.stands.faultless))
      refl);
}

pub literal_is_within : (find : Find) (bytes : List ℕ) (l : NormalLiteral) → IsLiteralOf find bytes l → LiteralWithin find l
literal_is_within find bytes l h = record {
  within = λ test all. subst (λ q. literal_within test q ≡ true) (sym h.value)
      (condition_in find test all h.written
      (sorted (λ t. written_condition_passes t h.written) find
      (none_left (fault_by (λ t. written_condition_passes t h.written) find)
      (unless (is_normal_literal (condition_value (exact find) h.written)) NotNormal) h.faultless)));
}

-- a literal that is read is in normal form, and not True
pub literal_kept : (find : Find) (bytes : List ℕ) (l : NormalLiteral) → IsLiteralOf find bytes l → may_be_kept l ≡ true
literal_kept find bytes l h =
    subst (λ q. may_be_kept q ≡ true) (sym h.value)
    (kept h.written
    (passed (is_normal_literal (condition_value (exact find) h.written)) NotNormal
    (none_right (fault_by (λ t. written_condition_passes t h.written) find)
    (unless (is_normal_literal (condition_value (exact find) h.written)) NotNormal) h.faultless)))
  where
    kept : (c : Condition) → is_normal_literal (condition_value (exact find) c) ≡ true → may_be_kept (condition_value (exact find) c) ≡ true
    kept False e = e
    kept (Compared p k i) e = e

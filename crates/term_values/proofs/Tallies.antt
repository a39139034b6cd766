-- A sum whose monomials are read one by one, and why one that is too long is refused.
use Rattle.std.proofs.Common.{◌≡◌, ℕ, suc, ◌≤◌, ◌<◌, nat_le, Bool, true, false, cond, ◌&&◌, List, [], ◌∷◌}
use Rattle.std.proofs.Common.{Some, None, Bor, Result, Ok, Err, length, refl, sym, ap, subst, ◌∙◌, arith}
use Rattle.std.specs.Result.{IfOk, IfErr, IsErrAnd}
use Rattle.std.specs.Option.{option_or}
use Rattle.std.proofs.lemmas.Option.{none-some}
use Rattle.nf_terms.specs.TermLimits.{size_limit, depth_limit}
use Rattle.nf_terms.specs.declared.symbols.Sort.TheVariants as sort
use Rattle.nf_rel.specs.NormalLiterals.{is_normal}
use Rattle.term_text.specs.declared.fault.ReadError.{ReadError}
use Rattle.term_text.specs.declared.fault.ReadError.TheVariants as unread
use Rattle.term_text.specs.AtomStarts.{MadeFrom}
use Rattle.term_text.specs.Machine.{ForPolynomial, Goes, rest_after, term_reading, at_polynomial, whole_polynomial, after_sum, at_sign}
use Rattle.term_text.specs.TermTexts.{Monomial, Sum, Of, polynomial, array, list}
use Rattle.term_text.specs.declared.tree.WrittenMonomial.{WrittenMonomial}
use Rattle.term_text.specs.View.{written_monomial_in, first_sum, more_sum}
use Rattle.term_text.specs.Brackets.{most_open}
use Rattle.term_text.proofs.Sound.{polynomial_is_spelled}
use Rattle.term_text.proofs.Steps.{sum_goes_on, sum_ended, not_ended}
use Rattle.term_text.proofs.Walks.{read_again}
use Rattle.term_values.specs.declared.sums.Tally.{Tally}
use Rattle.term_values.specs.declared.faults.TermError.{TermError}
use Rattle.term_values.specs.declared.faults.TermError.TheVariants.{NumberTooBig, UnknownName, SortOf, NotNormal, BadTerm}
use Rattle.term_values.specs.NameMeanings.{Find}
use Rattle.term_values.specs.Checks.{numbers_fit, names_known, sorts_fit, ones_left_out, faultless, monomial_passes, sum_passes}
use Rattle.term_values.specs.TermValues.{exact, polynomial_value}
use Rattle.term_values.specs.TermFaults.{unless, term_fault, of_reading, HasFault, IsRefusedAsTerm}
use Rattle.term_values.specs.SumTallies.{monomial_count, tally_fault, CountsMonomial, HasTally, IsTallied}
use Rattle.term_values.proofs.Faultless.{monomial_too, is_known}
use Rattle.term_values.proofs.Lists.{first_passes, more_passes}
use Rattle.term_values.proofs.Sizes.{too_long}

-- ---- a monomial without fault leaves the tests as they are

stays : (a b : Bool) → b ≡ true → a ≡ (a && b)
stays true b e = sym e
stays false b e = refl

pub numbers_stay : (find : Find) (m : Monomial) (a : Bool) → monomial_passes (faultless find) m ≡ true → a ≡ (a && monomial_passes numbers_fit m)
numbers_stay find m a e = stays a (monomial_passes numbers_fit m)
    (monomial_too (faultless find) numbers_fit (record { number = λ ds d. d; factor = λ ds d. refl; name = λ wanted s x d. refl }) m e)

pub names_stay : (find : Find) (m : Monomial) (a : Bool) → monomial_passes (faultless find) m ≡ true → a ≡ (a && monomial_passes (names_known find) m)
names_stay find m a e = stays a (monomial_passes (names_known find) m)
    (monomial_too (faultless find) (names_known find)
    (record { number = λ ds d. refl; factor = λ ds d. refl; name = λ wanted s x d. is_known wanted (find s x) d }) m e)

pub sorts_stay : (find : Find) (m : Monomial) (a : Bool) → monomial_passes (faultless find) m ≡ true → a ≡ (a && monomial_passes (sorts_fit find) m)
sorts_stay find m a e = stays a (monomial_passes (sorts_fit find) m)
    (monomial_too (faultless find) (sorts_fit find) (record { number = λ ds d. refl; factor = λ ds d. refl; name = λ wanted s x d. d }) m e)

-- ---- the tally of a sum

first_count : (m : Bool × Monomial) → monomial_count (first_sum m) ≡ 1
first_count (true, m) = refl
first_count (false, m) = refl

more_count : (s : Sum) (m : Bool × Monomial) → monomial_count (more_sum s m) ≡ suc (monomial_count s)
more_count s (true, m) = refl
more_count s (false, m) = refl

most_one : (a b n : ℕ) → a ≤ suc b → b ≡ 0 → n ≡ 1 → a ≤ n
most_one a b n h e f = omega (arith, h, e, f)

within_next : (a b n k : ℕ) → a ≤ suc b → b ≤ k → n ≡ suc k → a ≤ n
within_next a b n k h e f = omega (arith, h, e, f)

pub first_tally : (find : Find) (bytes rest : List ℕ) (t : Tally) (m : Bool × Monomial)
    → ((k : ForPolynomial) → term_reading bytes (at_polynomial k) ≡ term_reading rest (after_sum (first_sum m) k))
    → CountsMonomial find (record { count = 0; numbers = true; names = true; sorts = true }) t m.1 → HasTally find bytes rest t
first_tally find bytes rest t m goes c = record {
  sum = first_sum m;
  goes = goes whole_polynomial;
  count = most_one t.count 0 (monomial_count (first_sum m)) c.count refl (first_count m);
  numbers = c.numbers ∙ sym (first_passes numbers_fit m);
  names = c.names ∙ sym (first_passes (names_known find) m);
  sorts = c.sorts ∙ sym (first_passes (sorts_fit find) m);
}

pub more_tally : (find : Find) (bytes rest signed_at left : List ℕ) (old new : Tally) (m : Bool × Monomial)
    → HasTally find bytes rest old → rest ≡ 32 ∷ signed_at
    → ((s : Sum) (k : ForPolynomial) → term_reading signed_at (at_sign s k) ≡ term_reading left (after_sum (more_sum s m) k))
    → CountsMonomial find old new m.1 → HasTally find bytes left new
more_tally find bytes rest signed_at left old new m h e goes c = record {
  sum = more_sum h.sum m;
  goes = h.goes ∙ ap (λ (bs : List ℕ). term_reading bs (after_sum h.sum whole_polynomial)) e ∙ goes h.sum whole_polynomial;
  count = within_next new.count old.count (monomial_count (more_sum h.sum m)) (monomial_count h.sum) c.count h.count (more_count h.sum m);
  numbers = c.numbers ∙ ap (λ b. b && monomial_passes numbers_fit m.1) h.numbers ∙ sym (more_passes numbers_fit h.sum m);
  names = c.names ∙ ap (λ b. b && monomial_passes (names_known find) m.1) h.names ∙ sym (more_passes (names_known find) h.sum m);
  sorts = c.sorts ∙ ap (λ b. b && monomial_passes (sorts_fit find) m.1) h.sorts ∙ sym (more_passes (sorts_fit find) h.sum m);
}

-- where the first monomial was read, or refused
pub first_tallied : (find : Find) (bytes : List ℕ) (r : Result (Bool × WrittenMonomial × Bor (List ℕ)) ReadError) (s : Result (Tally × Bor (List ℕ)) ReadError)
    → ((k : ForPolynomial) → Goes r (term_reading bytes (at_polynomial k)) (λ x. term_reading x.2.now (after_sum (first_sum (x.0, written_monomial_in x.1)) k)))
    → MadeFrom r s (λ m x. CountsMonomial find (record { count = 0; numbers = true; names = true; sorts = true }) x.0 (written_monomial_in m.1)
    × (x.1.now ≡ m.2.now))
    → IsTallied bytes s (λ x. HasTally find bytes x.1.now x.0)
first_tallied find bytes (Ok m) (Ok x) goes made =
    subst (λ rest. HasTally find bytes rest x.0) (sym made.1) (first_tally find bytes m.2.now x.0 (m.0, written_monomial_in m.1) goes made.0)
first_tallied find bytes (Ok m) (Err unread.BadTerm) goes made = absurd made
first_tallied find bytes (Ok m) (Err unread.NoMemory) goes made = tt
first_tallied find bytes (Err d) (Ok x) goes made = absurd made
first_tallied find bytes (Err unread.BadTerm) (Err unread.BadTerm) goes made = goes whole_polynomial
first_tallied find bytes (Err unread.NoMemory) (Err unread.BadTerm) goes made = absurd cc
first_tallied find bytes (Err d) (Err unread.NoMemory) goes made = tt

-- where the next monomial was read, or refused
pub next_tallied : (find : Find) (whole bytes : List ℕ) (t : Tally) (r : Result (Bool × WrittenMonomial × Bor (List ℕ)) ReadError)
    (s : Result (Tally × Bor (List ℕ)) ReadError) → HasTally find whole (32 ∷ bytes) t
    → ((s : Sum) (k : ForPolynomial) → Goes r (term_reading bytes (at_sign s k))
    (λ x. term_reading x.2.now (after_sum (more_sum s (x.0, written_monomial_in x.1)) k)))
    → MadeFrom r s (λ m x. CountsMonomial find t x.0 (written_monomial_in m.1) × (x.1.now ≡ m.2.now)) → IsTallied whole s (λ x. HasTally find whole x.1.now x.0)
next_tallied find whole bytes t (Ok m) (Ok x) h goes made =
    subst (λ rest. HasTally find whole rest x.0) (sym made.1)
    (more_tally find whole (32 ∷ bytes) bytes m.2.now t x.0 (m.0, written_monomial_in m.1) h refl goes made.0)
next_tallied find whole bytes t (Ok m) (Err unread.BadTerm) h goes made = absurd made
next_tallied find whole bytes t (Ok m) (Err unread.NoMemory) h goes made = tt
next_tallied find whole bytes t (Err d) (Ok x) h goes made = absurd made
next_tallied find whole bytes t (Err unread.BadTerm) (Err unread.BadTerm) h goes made = h.goes ∙ goes h.sum whole_polynomial
next_tallied find whole bytes t (Err unread.NoMemory) (Err unread.BadTerm) h goes made = absurd cc
next_tallied find whole bytes t (Err d) (Err unread.NoMemory) h goes made = tt

pub tallied_shorter : (n : ℕ) (find : Find) (t : Tally) (r : Result (Bool × WrittenMonomial × Bor (List ℕ)) ReadError)
    (s : Result (Tally × Bor (List ℕ)) ReadError) → IfOk r (λ x. length x.2.now < n)
    → MadeFrom r s (λ m x. CountsMonomial find t x.0 (written_monomial_in m.1) × (x.1.now ≡ m.2.now)) → IfOk s (λ x. length x.1.now < n)
tallied_shorter n find t (Ok m) (Ok x) h made = omega (arith, h, ap length made.1)
tallied_shorter n find t (Ok m) (Err e) h made = tt
tallied_shorter n find t (Err d) (Ok x) h made = absurd made
tallied_shorter n find t (Err d) (Err e) h made = tt

refused_too : {X Y : Type 0} (bytes : List ℕ) (before : X → Type 0) (holds : Y → Type 0) (d : ReadError)
    → IsTallied bytes (Err d) before → IsTallied bytes (Err d) holds
refused_too bytes before holds unread.BadTerm h = h
refused_too bytes before holds unread.NoMemory h = tt

-- a refusal that is passed on
pub refusal_passes : {X Y : Type 0} (bytes : List ℕ) (before : X → Type 0) (holds : Y → Type 0) (r : Result Y ReadError) (d : ReadError)
    → IsErrAnd r (λ e. e ≡ d) → IsTallied bytes (Err d) before → IsTallied bytes r holds
refusal_passes bytes before holds (Ok y) d h t = absurd h
refusal_passes bytes before holds (Err e) d h t = subst (λ f. IsTallied bytes (Err f) holds) (sym h) (refused_too bytes before holds d t)

-- where a space follows
pub at_space : (find : Find) (bytes rest after : List ℕ) (t : Tally) → HasTally find bytes rest t → rest_after 32 rest ≡ Some after
    → HasTally find bytes (32 ∷ after) t
at_space find bytes rest after t h e = record {
  sum = h.sum;
  goes = h.goes ∙ sum_goes_on rest after h.sum whole_polynomial e;
  count = h.count;
  numbers = h.numbers;
  names = h.names;
  sorts = h.sorts;
}

-- where none follows, the sum is whole or there is none
pub ends : (find : Find) (bytes rest : List ℕ) (t : Tally) (r : Result Tally ReadError) → HasTally find bytes rest t → rest_after 32 rest ≡ None
    → IfOk r (λ u. (u ≡ t) × (rest ≡ [])) → IfErr r (λ e. (e ≡ unread.BadTerm) × (0 < length rest)) → IsTallied bytes r (HasTally find bytes [])
ends find bytes rest t (Ok u) h e whole more = subst (λ v. HasTally find bytes [] v) (sym whole.0) (subst (λ bs. HasTally find bytes bs t) whole.1 h)
ends find bytes rest t (Err unread.BadTerm) h e whole more =
    h.goes ∙ sum_ended rest h.sum whole_polynomial e ∙ not_ended rest (Of h.sum) more.1
ends find bytes rest t (Err unread.NoMemory) h e whole more = tt

-- ---- why a text is refused

pub fault_by_tests : (a b c d n : Bool) → n ≡ false
    → option_or (option_or (unless a NumberTooBig) (option_or (unless b UnknownName) (option_or (unless c SortOf) (unless d NotNormal)))) (unless n NotNormal)
    ≡ Some (tally_fault (record { count = 0; numbers = a; names = b; sorts = c }))
fault_by_tests false b c d n e = refl
fault_by_tests true false c d n e = refl
fault_by_tests true true false d n e = refl
fault_by_tests true true true false n e = refl
fault_by_tests true true true true n e = rw e refl

pub same_fault : (t : Tally) (a b c : Bool) → t.numbers ≡ a → t.names ≡ b → t.sorts ≡ c
    → tally_fault (record { count = 0; numbers = a; names = b; sorts = c }) ≡ tally_fault t
same_fault t a b c e f g = λ k. cond (sym e k) (cond (sym f k) (cond (sym g k) NotNormal SortOf) UnknownName) NumberTooBig

-- the first fault of a sum that is too long is what its tally says
long_fault : (find : Find) (bytes : List ℕ) (t : Tally) → (h : HasTally find bytes [] t) → size_limit < t.count
    → term_fault find (polynomial (Of h.sum)) ≡ Some (tally_fault t)
long_fault find bytes t h l =
    fault_by_tests (sum_passes numbers_fit h.sum) (sum_passes (names_known find) h.sum) (sum_passes (sorts_fit find) h.sum) (sum_passes ones_left_out h.sum)
    (is_normal (polynomial_value (exact find) (Of h.sum))) (too_long (exact find) h.sum (omega (arith, l, h.count)))
    ∙ ap (λ (e : TermError). Some e)
    (same_fault t (sum_passes numbers_fit h.sum) (sum_passes (names_known find) h.sum) (sum_passes (sorts_fit find) h.sum)
    h.numbers h.names h.sorts)

refused_by : (find : Find) (bytes : List ℕ) (a b c : Bool)
    → HasFault find sort.Scalar bytes (tally_fault (record { count = 0; numbers = a; names = b; sorts = c }))
    → IsRefusedAsTerm find sort.Scalar bytes (tally_fault (record { count = 0; numbers = a; names = b; sorts = c }))
refused_by find bytes false b c h = h
refused_by find bytes true false c h = h
refused_by find bytes true true false h = h
refused_by find bytes true true true h = h

pub long_refused : (find : Find) (bytes : List ℕ) (t : Tally) → nat_le (most_open 0 bytes) depth_limit ≡ true → HasTally find bytes [] t → size_limit < t.count
    → IsRefusedAsTerm find sort.Scalar bytes (tally_fault t)
long_refused find bytes t shallow h l =
    let s = polynomial_is_spelled bytes (polynomial (Of h.sum)) h.goes in
    refused_by find bytes t.numbers t.names t.sorts (record {
      term = polynomial (Of h.sum);
      sort_is = refl;
      spells = record { spelled = s.fine; text = s.text; shallow = shallow };
      first = long_fault find bytes t h l;
    })

pub unread_refused : (find : Find) (bytes : List ℕ) → term_reading bytes (at_polynomial whole_polynomial) ≡ None
    → IsRefusedAsTerm find sort.Scalar bytes BadTerm
unread_refused find bytes e (polynomial p) f s =
    none-some (polynomial p) (sym e ∙ ap (λ (bs : List ℕ). term_reading bs (at_polynomial whole_polynomial)) s.text ∙ read_again (polynomial p) s.spelled)
unread_refused find bytes e (array a) f s = absurd cc
unread_refused find bytes e (list l) f s = absurd cc

pub refusal_refused : (find : Find) (bytes : List ℕ) (holds : Tally → Type 0) (d : ReadError) → IsTallied bytes (Err d) holds
    → IsRefusedAsTerm find sort.Scalar bytes (of_reading d)
refusal_refused find bytes holds unread.BadTerm h = unread_refused find bytes h
refusal_refused find bytes holds unread.NoMemory h = tt

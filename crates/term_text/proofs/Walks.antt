-- A text is read as the term that it was written for.
use Rattle.std.proofs.Common.{◌≡◌, ℕ, Bool, true, false, not, ◌==◌, ◌||◌, ◌&&◌, List, [], ◌∷◌, ◌++◌, Some, refl, sym, ap, ◌∙◌, append_assoc, arith}
use Rattle.std.specs.List.{list_all}
use Rattle.std.proofs.lemmas.List.{append-nil}
use Rattle.std.proofs.lemmas.Bool.Decides.{nat_tests}
use Rattle.std.proofs.lemmas.Bool.{and_parts, or_parts, not-true}
use Rattle.term_text.proofs.Steps.{monomial_starts, polynomial_starts, array_base, list_base, number_more}
use Rattle.fs_model.specs.Words.{is_letter, is_digit, is_word_byte, is_word, is_reserved}
use Rattle.fs_model.specs.declared.sides.Side.{Side}
use Rattle.fs_model.specs.declared.sides.Side.TheVariants.{Left, Right}
use Rattle.term_text.specs.TermTexts.{ListSyntax, TermSyntax, EmptyList, BareList, Pushed, polynomial, array, list, list_text, term_text, Atom, Monomial, Sum}
use Rattle.term_text.specs.TermTexts.{Polynomial, ArrayTerm, Symbol, Read, Quotient, Remainder, Number, One, Times, Positive, Negative, Plus, Minus, Zero, Of}
use Rattle.term_text.specs.TermTexts.{ZeroArray, Bare, Written, symbol_text, atom_text, monomial_text, sum_text, polynomial_text, array_text}
use Rattle.term_text.specs.SpellableTerms.{is_number_text, is_symbol_name, atom_spelled, monomial_spelled, sum_spelled, polynomial_spelled, array_spelled}
use Rattle.term_text.specs.SpellableTerms.{list_spelled, term_spelled}
use Rattle.term_text.specs.Machine.{begins, ForPolynomial, ForMonomial, ForAtom, ForSymbol, in_atom, in_array, in_list, item, at_array, at_list, after_list}
use Rattle.term_text.specs.Machine.{whole_polynomial, whole_array, read_of, dividend, divisor, modulend, modulus, index, place, value, positive, negative, plus}
use Rattle.term_text.specs.Machine.{minus, first, times, Owed, at_polynomial, at_monomial, at_atom, at_symbol, in_number, in_symbol, after_symbol, after_array}
use Rattle.term_text.specs.Machine.{after_monomial, after_sum, after_polynomial, atom_done, monomial_done, term_reading}

-- what ends a word or a number: no word byte, and no bracket of an array
abbrev pub goes_on : ℕ → Bool
goes_on b = is_word_byte b || (b == 123 || b == 91)

-- ---- numbers and names

number_ends : (rest ds : List ℕ) (k : ForMonomial) → begins is_digit rest ≡ false
    → term_reading rest (in_number ds k) ≡ term_reading rest (after_monomial (Number ds) k)
number_ends [] ds k e = refl
number_ends (b ∷ bs) ds k e = rw e refl

digits_walk : (ds acc rest : List ℕ) (k : ForMonomial) → list_all is_digit ds ≡ true → begins is_digit rest ≡ false
    → term_reading (ds ++ rest) (in_number acc k) ≡ term_reading rest (after_monomial (Number (acc ++ ds)) k)
digits_walk [] acc rest k e f = rw (append-nil acc) (number_ends rest acc k f)
digits_walk (d ∷ ds) acc rest k e f =
    let p = and_parts (is_digit d) (list_all is_digit ds) e in
    number_more d (ds ++ rest) acc k p.0 ∙ digits_walk ds (acc ++ d ∷ []) rest k p.1 f
    ∙ ap (λ (xs : List ℕ). term_reading rest (after_monomial (Number xs) k)) (append_assoc acc (d ∷ []) ds)

first_digit : (d : ℕ) (bs : List ℕ) (k : ForMonomial) → is_digit d ≡ true → (d == 48) ≡ false
    → term_reading (d ∷ bs) (at_monomial k) ≡ term_reading bs (in_number (d ∷ []) k)
first_digit d bs k e f = rw (e, f) refl

number_walks : (ds rest : List ℕ) (k : ForMonomial) → is_number_text ds ≡ true → begins is_digit rest ≡ false
    → term_reading (ds ++ rest) (at_monomial k) ≡ term_reading rest (after_monomial (Number ds) k)
number_walks [] rest k e f = absurd cc
number_walks (d ∷ ds) rest k e f =
    let p = and_parts (is_digit d && not (d == 48)) (list_all is_digit ds) e in
    let q = and_parts (is_digit d) (not (d == 48)) p.0 in
    first_digit d (ds ++ rest) k q.0 (not-true (d == 48) q.1) ∙ digits_walk ds (d ∷ []) rest k p.1 f

word_taken : (b : ℕ) (bs acc : List ℕ) (s : Side) (q : ForSymbol) → is_word_byte b ≡ true
    → term_reading (b ∷ bs) (in_symbol s acc q) ≡ term_reading bs (in_symbol s (acc ++ b ∷ []) q)
word_taken b bs acc s q e = rw e refl

word_ends : (rest x : List ℕ) (s : Side) (q : ForSymbol) → begins is_word_byte rest ≡ false → is_reserved x ≡ false
    → term_reading rest (in_symbol s x q) ≡ term_reading rest (after_symbol s x q)
word_ends [] x s q e f = rw f refl
word_ends (b ∷ bs) x s q e f = rw (e, f) refl

word_walks : (w acc rest : List ℕ) (s : Side) (q : ForSymbol) → list_all is_word_byte w ≡ true → begins is_word_byte rest ≡ false
    → is_reserved (acc ++ w) ≡ false → term_reading (w ++ rest) (in_symbol s acc q) ≡ term_reading rest (after_symbol s (acc ++ w) q)
word_walks [] acc rest s q e f g = rw (append-nil acc) (word_ends rest acc s q f (rw (append-nil acc) at g))
word_walks (b ∷ w) acc rest s q e f g =
    let p = and_parts (is_word_byte b) (list_all is_word_byte w) e in
    let a = append_assoc acc (b ∷ []) w in
    word_taken b (w ++ rest) acc s q p.0 ∙ word_walks w (acc ++ b ∷ []) rest s q p.1 f (ap is_reserved a ∙ g)
    ∙ ap (λ (xs : List ℕ). term_reading rest (after_symbol s xs q)) a

first_letter : (b : ℕ) (bs : List ℕ) (s : Side) (q : ForSymbol) → is_letter b ≡ true
    → term_reading (b ∷ bs) (at_symbol s q) ≡ term_reading bs (in_symbol s (b ∷ []) q)
first_letter b bs s q e = rw e refl

name_walks : (x rest : List ℕ) (s : Side) (k : ForSymbol) → is_symbol_name x ≡ true → begins is_word_byte rest ≡ false
    → term_reading (x ++ rest) (at_symbol s k) ≡ term_reading rest (after_symbol s x k)
name_walks [] rest s k e f = absurd cc
name_walks (b ∷ x) rest s k e f =
    let p = and_parts (is_word (b ∷ x)) (not (is_reserved (b ∷ x))) e in
    let q = and_parts (is_letter b) (list_all is_word_byte x) p.0 in
    first_letter b (x ++ rest) s k q.0 ∙ word_walks x (b ∷ []) rest s k q.1 f (not-true (is_reserved (b ∷ x)) p.1)

symbol_walks : (s : Side) (x rest : List ℕ) (k : ForAtom) → is_symbol_name x ≡ true → begins is_word_byte rest ≡ false
    → term_reading (symbol_text s x ++ rest) (at_atom k) ≡ term_reading rest (after_symbol s x (in_atom k))
symbol_walks Left x rest k e f = name_walks x rest Left (in_atom k) e f
symbol_walks Right x rest k e f = name_walks x rest Right (in_atom k) e f

array_base_walks : (s : Side) (x rest : List ℕ) → is_symbol_name x ≡ true → begins is_word_byte rest ≡ false
    → term_reading (symbol_text s x ++ rest) at_array ≡ term_reading rest (after_symbol s x in_array)
array_base_walks Left x rest e f = name_walks x rest Left in_array e f
array_base_walks Right x rest e f = name_walks x rest Right in_array e f

list_base_walks : (s : Side) (x rest : List ℕ) → is_symbol_name x ≡ true → begins is_word_byte rest ≡ false
    → term_reading (symbol_text s x ++ rest) at_list ≡ term_reading rest (after_symbol s x in_list)
list_base_walks Left x rest e f = name_walks x rest Left in_list e f
list_base_walks Right x rest e f = name_walks x rest Right in_list e f

-- ---- what follows

no_bracket : (rest : List ℕ) (s : Side) (x : List ℕ) (k : ForAtom) → begins goes_on rest ≡ false
    → (begins is_word_byte rest ≡ false) × (term_reading rest (after_symbol s x (in_atom k)) ≡ term_reading rest (atom_done (Symbol s x) k))
no_bracket [] s x k e = (refl, refl)
no_bracket (b ∷ bs) s x k e = let p = or_parts (is_word_byte b) (b == 123 || b == 91) e in (p.0, rw p.1 refl)

no_digit : (rest : List ℕ) → begins goes_on rest ≡ false → begins is_digit rest ≡ false
no_digit [] e = refl
no_digit (b ∷ bs) e = (or_parts (is_letter b) (is_digit b) (or_parts (is_word_byte b) (b == 123 || b == 91) e).0).1

bracket : (b : ℕ) (bs : List ℕ) (s : Side) (x : List ℕ) (k : ForAtom) → (b == 123 || b == 91) ≡ true
    → term_reading (b ∷ bs) (after_symbol s x (in_atom k)) ≡ term_reading (b ∷ bs) (after_array (Bare s x) (read_of k))
bracket b bs s x k e = rw e refl

-- the state after a polynomial whose end has not been seen
abbrev pub polynomial_read : Polynomial → ForPolynomial → Owed
polynomial_read Zero k = after_polynomial Zero k
polynomial_read (Of s) k = after_sum s k

polynomial_closes : (b : ℕ) (bs : List ℕ) (p : Polynomial) (k : ForPolynomial) → (b == 32) ≡ false
    → term_reading (b ∷ bs) (polynomial_read p k) ≡ term_reading (b ∷ bs) (after_polynomial p k)
polynomial_closes b bs Zero k e = refl
polynomial_closes b bs (Of s) k e = rw e refl

-- ---- what begins a monomial

abbrev pub is_sign : ℕ → Bool
is_sign b = b == 48 || b == 45

abbrev Opens : List ℕ → Type 0
Opens bs = (begins is_digit bs ≡ false) × (begins is_sign bs ≡ false)

symbol_opens : (s : Side) (x rest : List ℕ) → Opens (symbol_text s x ++ rest)
symbol_opens Left x rest = (refl, refl)
symbol_opens Right x rest = (refl, refl)

array_opens : (a : ArrayTerm) (rest : List ℕ) → Opens (array_text a ++ rest)
array_opens ZeroArray rest = (refl, refl)
array_opens (Bare s x) rest = symbol_opens s x rest
array_opens (Written a i v) rest = rw (append_assoc (array_text a) _ rest) (array_opens a _)

atom_opens : (a : Atom) (rest : List ℕ) → Opens (atom_text a ++ rest)
atom_opens (Symbol s x) rest = symbol_opens s x rest
atom_opens (Read a i) rest = rw (append_assoc (array_text a) _ rest) (array_opens a _)
atom_opens (Quotient a b) rest = (refl, refl)
atom_opens (Remainder a b) rest = (refl, refl)

digit_no_sign : (d : ℕ) → is_digit d ≡ true → (d == 48) ≡ false → is_sign d ≡ false
digit_no_sign d e f = grind (arith, nat_tests)

monomial_opens : (m : Monomial) (rest : List ℕ) → monomial_spelled m ≡ true → begins is_sign (monomial_text m ++ rest) ≡ false
monomial_opens (Number []) rest e = absurd cc
monomial_opens (Number (d ∷ ds)) rest e =
    let q = and_parts (is_digit d) (not (d == 48)) (and_parts (is_digit d && not (d == 48)) (list_all is_digit ds) e).0 in
    digit_no_sign d q.0 (not-true (d == 48) q.1)
monomial_opens (One a) rest e = (atom_opens a rest).1
monomial_opens (Times m a) rest e = rw (append_assoc (monomial_text m) _ rest) (monomial_opens m _ (and_parts (monomial_spelled m) (atom_spelled a) e).0)

-- what ends a monomial
abbrev pub goes_on_monomial : ℕ → Bool
goes_on_monomial b = goes_on b || b == 42

no_star : (rest : List ℕ) (m : Monomial) (k : ForMonomial) → begins goes_on_monomial rest ≡ false
    → (begins goes_on rest ≡ false) × (term_reading rest (after_monomial m k) ≡ term_reading rest (monomial_done m k))
no_star [] m k e = (refl, refl)
no_star (b ∷ bs) m k e = let p = or_parts (goes_on b) (b == 42) e in (p.0, rw p.1 refl)

-- ---- the walks

mutual
  pub atom_walks : (a : Atom) (rest : List ℕ) (k : ForAtom) → atom_spelled a ≡ true → begins goes_on rest ≡ false
      → term_reading (atom_text a ++ rest) (at_atom k) ≡ term_reading rest (atom_done a k)
  atom_walks (Symbol s x) rest k e f = let b = no_bracket rest s x k f in symbol_walks s x rest k e b.0 ∙ b.1
  atom_walks (Read a i) rest k e f =
      let p = and_parts (array_spelled a) (polynomial_spelled i) e in
      let regroup : atom_text (Read a i) ++ rest ≡ array_text a ++ (91 ∷ (polynomial_text i ++ (93 ∷ rest))) = simp append_assoc in
      ap (λ (bs : List ℕ). term_reading bs (at_atom k)) regroup ∙ array_walks a (91 ∷ (polynomial_text i ++ (93 ∷ rest))) k p.0 refl refl
      ∙ polynomial_walks i (93 ∷ rest) (index a k) p.1 refl ∙ polynomial_closes 93 rest i (index a k) refl
  atom_walks (Quotient a b) rest k e f =
      let p = and_parts (polynomial_spelled a) (polynomial_spelled b) e in
      let regroup : atom_text (Quotient a b) ++ rest ≡ 100 ∷ 105 ∷ 118 ∷ 40 ∷ (polynomial_text a ++ (44 ∷ 32 ∷ (polynomial_text b ++ (41 ∷ rest)))) =
      simp append_assoc in
      ap (λ (bs : List ℕ). term_reading bs (at_atom k)) regroup ∙ polynomial_walks a (44 ∷ 32 ∷ (polynomial_text b ++ (41 ∷ rest))) (dividend k) p.0 refl
      ∙ polynomial_closes 44 (32 ∷ (polynomial_text b ++ (41 ∷ rest))) a (dividend k) refl
      ∙ polynomial_walks b (41 ∷ rest) (divisor a k) p.1 refl ∙ polynomial_closes 41 rest b (divisor a k) refl
  atom_walks (Remainder a b) rest k e f =
      let p = and_parts (polynomial_spelled a) (polynomial_spelled b) e in
      let regroup : atom_text (Remainder a b) ++ rest ≡ 114 ∷ 101 ∷ 109 ∷ 40 ∷ (polynomial_text a ++ (44 ∷ 32 ∷ (polynomial_text b ++ (41 ∷ rest)))) =
      simp append_assoc in
      ap (λ (bs : List ℕ). term_reading bs (at_atom k)) regroup ∙ polynomial_walks a (44 ∷ 32 ∷ (polynomial_text b ++ (41 ∷ rest))) (modulend k) p.0 refl
      ∙ polynomial_closes 44 (32 ∷ (polynomial_text b ++ (41 ∷ rest))) a (modulend k) refl
      ∙ polynomial_walks b (41 ∷ rest) (modulus a k) p.1 refl ∙ polynomial_closes 41 rest b (modulus a k) refl

  pub array_walks : (a : ArrayTerm) (rest : List ℕ) (k : ForAtom) → array_spelled a ≡ true → begins is_word_byte rest ≡ false
      → begins (λ b. b == 123 || b == 91) rest ≡ true → term_reading (array_text a ++ rest) (at_atom k) ≡ term_reading rest (after_array a (read_of k))
  array_walks ZeroArray rest k e f g = refl
  array_walks (Bare s x) [] k e f g = absurd cc
  array_walks (Bare s x) (b ∷ bs) k e f g = symbol_walks s x (b ∷ bs) k e f ∙ bracket b bs s x k g
  array_walks (Written a i v) rest k e f g =
      let p = and_parts (array_spelled a && polynomial_spelled i) (polynomial_spelled v) e in
      let q = and_parts (array_spelled a) (polynomial_spelled i) p.0 in
      let last : List ℕ = 58 ∷ 32 ∷ (polynomial_text v ++ (125 ∷ rest)) in
      let regroup : array_text (Written a i v) ++ rest ≡ array_text a ++ (123 ∷ (polynomial_text i ++ (58 ∷ 32 ∷ (polynomial_text v ++ (125 ∷ rest))))) =
      simp append_assoc in
      ap (λ (bs : List ℕ). term_reading bs (at_atom k)) regroup
      ∙ array_walks a (123 ∷ (polynomial_text i ++ (58 ∷ 32 ∷ (polynomial_text v ++ (125 ∷ rest))))) k q.0 refl refl
      ∙ polynomial_walks i (58 ∷ 32 ∷ (polynomial_text v ++ (125 ∷ rest))) (place a (read_of k)) q.1 refl
      ∙ polynomial_closes 58 (32 ∷ (polynomial_text v ++ (125 ∷ rest))) i (place a (read_of k)) refl
      ∙ polynomial_walks v (125 ∷ rest) (value a i (read_of k)) p.1 refl ∙ polynomial_closes 125 rest v (value a i (read_of k)) refl

  pub monomial_walks : (m : Monomial) (rest : List ℕ) (k : ForMonomial) → monomial_spelled m ≡ true → begins goes_on rest ≡ false
      → term_reading (monomial_text m ++ rest) (at_monomial k) ≡ term_reading rest (after_monomial m k)
  monomial_walks (Number ds) rest k e f = number_walks ds rest k e (no_digit rest f)
  monomial_walks (One a) rest k e f = monomial_starts (atom_text a ++ rest) k (atom_opens a rest).0 ∙ atom_walks a rest (first k) e f
  monomial_walks (Times m a) rest k e f =
      let p = and_parts (monomial_spelled m) (atom_spelled a) e in
      let regroup : monomial_text (Times m a) ++ rest ≡ monomial_text m ++ (42 ∷ (atom_text a ++ rest)) = simp append_assoc in
      ap (λ (bs : List ℕ). term_reading bs (at_monomial k)) regroup ∙ monomial_walks m (42 ∷ (atom_text a ++ rest)) k p.0 refl
      ∙ atom_walks a rest (times m k) p.1 f

  pub sum_walks : (s : Sum) (rest : List ℕ) (k : ForPolynomial) → sum_spelled s ≡ true → begins goes_on_monomial rest ≡ false
      → term_reading (sum_text s ++ rest) (at_polynomial k) ≡ term_reading rest (after_sum s k)
  sum_walks (Positive m) rest k e f =
      let b = no_star rest m (positive k) f in
      polynomial_starts (monomial_text m ++ rest) k (monomial_opens m rest e) ∙ monomial_walks m rest (positive k) e b.0 ∙ b.1
  sum_walks (Negative m) rest k e f =
      let b = no_star rest m (negative k) f in
      monomial_walks m rest (negative k) e b.0 ∙ b.1
  sum_walks (Plus s m) rest k e f =
      let p = and_parts (sum_spelled s) (monomial_spelled m) e in
      let b = no_star rest m (plus s k) f in
      let regroup : sum_text (Plus s m) ++ rest ≡ sum_text s ++ (32 ∷ 43 ∷ 32 ∷ (monomial_text m ++ rest)) = simp append_assoc in
      ap (λ (bs : List ℕ). term_reading bs (at_polynomial k)) regroup ∙ sum_walks s (32 ∷ 43 ∷ 32 ∷ (monomial_text m ++ rest)) k p.0 refl
      ∙ monomial_walks m rest (plus s k) p.1 b.0 ∙ b.1
  sum_walks (Minus s m) rest k e f =
      let p = and_parts (sum_spelled s) (monomial_spelled m) e in
      let b = no_star rest m (minus s k) f in
      let regroup : sum_text (Minus s m) ++ rest ≡ sum_text s ++ (32 ∷ 45 ∷ 32 ∷ (monomial_text m ++ rest)) = simp append_assoc in
      ap (λ (bs : List ℕ). term_reading bs (at_polynomial k)) regroup ∙ sum_walks s (32 ∷ 45 ∷ 32 ∷ (monomial_text m ++ rest)) k p.0 refl
      ∙ monomial_walks m rest (minus s k) p.1 b.0 ∙ b.1

  pub polynomial_walks : (p : Polynomial) (rest : List ℕ) (k : ForPolynomial) → polynomial_spelled p ≡ true → begins goes_on_monomial rest ≡ false
      → term_reading (polynomial_text p ++ rest) (at_polynomial k) ≡ term_reading rest (polynomial_read p k)
  polynomial_walks Zero rest k e f = refl
  polynomial_walks (Of s) rest k e f = sum_walks s rest k e f

-- ---- whole arrays and lists

whole_array_walks : (a : ArrayTerm) (rest : List ℕ) → array_spelled a ≡ true → begins is_word_byte rest ≡ false
    → term_reading (array_text a ++ rest) at_array ≡ term_reading rest (after_array a whole_array)
whole_array_walks ZeroArray rest e f = refl
whole_array_walks (Bare s x) rest e f = array_base_walks s x rest e f ∙ array_base rest s x
whole_array_walks (Written a i v) rest e f =
    let p = and_parts (array_spelled a && polynomial_spelled i) (polynomial_spelled v) e in
    let q = and_parts (array_spelled a) (polynomial_spelled i) p.0 in
    let regroup : array_text (Written a i v) ++ rest ≡ array_text a ++ (123 ∷ (polynomial_text i ++ (58 ∷ 32 ∷ (polynomial_text v ++ (125 ∷ rest))))) =
    simp append_assoc in
    ap (λ (bs : List ℕ). term_reading bs at_array) regroup
    ∙ whole_array_walks a (123 ∷ (polynomial_text i ++ (58 ∷ 32 ∷ (polynomial_text v ++ (125 ∷ rest))))) q.0 refl
    ∙ polynomial_walks i (58 ∷ 32 ∷ (polynomial_text v ++ (125 ∷ rest))) (place a whole_array) q.1 refl
    ∙ polynomial_closes 58 (32 ∷ (polynomial_text v ++ (125 ∷ rest))) i (place a whole_array) refl
    ∙ polynomial_walks v (125 ∷ rest) (value a i whole_array) p.1 refl ∙ polynomial_closes 125 rest v (value a i whole_array) refl

list_walks : (l : ListSyntax) (rest : List ℕ) → list_spelled l ≡ true → begins is_word_byte rest ≡ false
    → term_reading (list_text l ++ rest) at_list ≡ term_reading rest (after_list l)
list_walks EmptyList rest e f = refl
list_walks (BareList s x) rest e f = list_base_walks s x rest e f ∙ list_base rest s x
list_walks (Pushed l p) rest e f =
    let q = and_parts (list_spelled l) (polynomial_spelled p) e in
    let regroup : list_text (Pushed l p) ++ rest ≡ list_text l ++ (123 ∷ (polynomial_text p ++ (125 ∷ rest))) = simp append_assoc in
    ap (λ (bs : List ℕ). term_reading bs at_list) regroup ∙ list_walks l (123 ∷ (polynomial_text p ++ (125 ∷ rest))) q.0 refl
    ∙ polynomial_walks p (125 ∷ rest) (item l) q.1 refl ∙ polynomial_closes 125 rest p (item l) refl

end_of : (p : Polynomial) → term_reading [] (polynomial_read p whole_polynomial) ≡ Some (polynomial p)
end_of Zero = refl
end_of (Of s) = refl

-- the state that a whole term begins in
abbrev pub beginning : TermSyntax → Owed
beginning (polynomial p) = at_polynomial whole_polynomial
beginning (array a) = at_array
beginning (list l) = at_list

-- what is written for a term is read as it
pub read_again : (t : TermSyntax) → term_spelled t ≡ true → term_reading (term_text t) (beginning t) ≡ Some t
read_again (polynomial p) e = ap (λ (bs : List ℕ). term_reading bs (at_polynomial whole_polynomial)) (sym (append-nil (polynomial_text p)))
    ∙ polynomial_walks p [] whole_polynomial e refl ∙ end_of p
read_again (array a) e = ap (λ (bs : List ℕ). term_reading bs at_array) (sym (append-nil (array_text a))) ∙ whole_array_walks a [] e refl
read_again (list l) e = ap (λ (bs : List ℕ). term_reading bs at_list) (sym (append-nil (list_text l))) ∙ list_walks l [] e refl

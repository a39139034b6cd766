-- What is read is spelled by the bytes.
use Rattle.std.proofs.Common.{◌≡◌, ℕ, Bool, true, false, not, cond, ◌==◌, ◌||◌, ◌&&◌, List, [], ◌∷◌, ◌++◌, Option, Some, None, refl, sym, ap, ap₂, subst, ◌∙◌}
use Rattle.std.proofs.Common.{append_assoc}
use Rattle.std.specs.Prelude.{IfSome}
use Rattle.std.specs.List.{list_all}
use Rattle.std.proofs.lemmas.Bool.{eqb-true, and_parts, and_from}
use Rattle.std.proofs.lemmas.List.{append-nil}
use Rattle.fs_model.proofs.Quantifiers.{list_all_push}
use Rattle.fs_model.specs.Words.{is_letter, is_digit, is_word_byte, is_word, is_reserved}
use Rattle.fs_model.specs.declared.sides.Side.{Side}
use Rattle.fs_model.specs.declared.sides.Side.TheVariants.{Left, Right}
use Rattle.term_text.specs.TermTexts.{ListSyntax, TermSyntax, EmptyList, BareList, Pushed, Atom, Monomial, Sum, Polynomial, ArrayTerm, Symbol, Read, Quotient}
use Rattle.term_text.specs.TermTexts.{Remainder, Number, Zero, Of, ZeroArray, Bare, Written, symbol_text, atom_text}
use Rattle.term_text.specs.SpellableTerms.{is_number_text, is_symbol_name, atom_spelled, monomial_spelled, sum_spelled, polynomial_spelled, array_spelled}
use Rattle.term_text.specs.Machine.{ForPolynomial, ForArray, ForMonomial, ForAtom, ForSymbol, in_atom, in_array, in_list, item, whole_polynomial, whole_array}
use Rattle.term_text.specs.Machine.{read_of, dividend, divisor, modulend, modulus, index, place, value, positive, negative, plus, minus, first, times, Owed}
use Rattle.term_text.specs.Machine.{expect, at_polynomial, at_monomial, at_atom, at_array, at_list, at_symbol, at_sign, in_number, in_symbol, after_symbol}
use Rattle.term_text.specs.Machine.{after_array, after_list, after_monomial, after_sum, after_polynomial, atom_done, monomial_done, monomial_with, monomial_for}
use Rattle.term_text.specs.Machine.{sum_with, polynomial_for, on_byte, step_polynomial, step_term_sum, step_sign, step_monomial, step_number, step_array}
use Rattle.term_text.specs.Machine.{step_list, step_after_symbol, step_symbol, step_atom, step_whole_array, step_whole_list, step_first, step_start}
use Rattle.term_text.specs.Machine.{term_byte_step, finish_polynomial, finish_array, finish_monomial, finish_symbol, finish_term, take_term_byte, term_reading}
use Rattle.term_text.specs.Reached.{before_monomial, before_atom, before_symbol, fine_polynomial, fine_array, fine_monomial, fine_atom, fine_symbol, ReadSoFar}
use Rattle.term_text.specs.Reached.{Reached, SpellsTerm}

-- ---- tests

abbrev After : List ℕ → ℕ → Owed → Type 0
After bs b n = Reached n (bs ++ b ∷ [])

cond_then : (c : Bool) (x y : Option Owed) (P : Owed → Type 0) → (c ≡ true → IfSome x P) → (c ≡ false → IfSome y P) → IfSome (cond c x y) P
cond_then true x y P f g = f refl
cond_then false x y P f g = g refl

on_then : (b c : ℕ) (s : Owed) (P : Owed → Type 0) → (b ≡ c → P s) → IfSome (on_byte b c s) P
on_then b c s P f = cond_then (b == c) (Some s) None P (λ e. f (eqb-true b c e)) (λ e. tt)

is_then : (b c : ℕ) (s : Owed) (y : Option Owed) (P : Owed → Type 0) → (b ≡ c → P s) → IfSome y P → IfSome (cond (b == c) (Some s) y) P
is_then b c s y P f g = cond_then (b == c) (Some s) y P (λ e. f (eqb-true b c e)) (λ e. g)

and_right : (a b c : Bool) → (b ≡ true → c ≡ true) → (a && b) ≡ true → (a && c) ≡ true
and_right a b c f e = let p = and_parts a b e in and_from a c p.0 (f p.1)

and3 : (a b c : Bool) → ((a && b) && c) ≡ true → (a && (b && c)) ≡ true
and3 true b c e = e
and3 false b c e = absurd cc

with_true : (a : Bool) → a ≡ true → (a && true) ≡ true
with_true a e = rw e refl

-- ---- the text with one byte more, and with the bytes after it

more : (good good' : Bool) (before after bs : List ℕ) (b c : ℕ) → (good ≡ true → good' ≡ true) → before ++ c ∷ [] ≡ after → ReadSoFar good before bs → b ≡ c
    → ReadSoFar good' after (bs ++ b ∷ [])
more good good' before after bs b c f g h e = record { fine = f h.fine; text = ap₂ (λ (xs : List ℕ) (y : ℕ). xs ++ y ∷ []) h.text e ∙ g }

more2 : (good : Bool) (before after bs : List ℕ) (b c d : ℕ) → before ++ c ∷ d ∷ [] ≡ after → ReadSoFar good before bs → b ≡ c
    → ReadSoFar good after ((bs ++ b ∷ []) ++ d ∷ [])
more2 good before after bs b c d g h e = record {
  fine = h.fine;
  text = append_assoc bs (b ∷ []) (d ∷ []) ∙ (ap₂ (λ (xs : List ℕ) (y : ℕ). xs ++ y ∷ d ∷ []) h.text e ∙ g);
}

more4 : (good good' : Bool) (before after bs : List ℕ) (b c d u v : ℕ) → (good ≡ true → good' ≡ true) → before ++ c ∷ d ∷ u ∷ v ∷ [] ≡ after
    → ReadSoFar good before bs → b ≡ c → ReadSoFar good' after ((((bs ++ b ∷ []) ++ d ∷ []) ++ u ∷ []) ++ v ∷ [])
more4 good good' before after bs b c d u v f g h e =
    let one : (((before ++ c ∷ []) ++ d ∷ []) ++ u ∷ []) ++ v ∷ [] ≡ before ++ c ∷ d ∷ u ∷ v ∷ [] = simp append_assoc in
    record { fine = f h.fine; text = ap₂ (λ (xs : List ℕ) (y : ℕ). (((xs ++ y ∷ []) ++ d ∷ []) ++ u ∷ []) ++ v ∷ []) h.text e ∙ (one ∙ g) }

same : (a : Bool) → a ≡ true → a ≡ true
same a e = e

with_fine : (good good' : Bool) (before bs : List ℕ) → (good ≡ true → good' ≡ true) → ReadSoFar good before bs → ReadSoFar good' before bs
with_fine good good' before bs f h = record { fine = f h.fine; text = h.text }

-- ---- a part that is done

abbrev AfterAtom : Atom → ForAtom → List ℕ → Type 0
AfterAtom a k bs = ReadSoFar (fine_atom k && atom_spelled a) (before_atom k ++ atom_text a) bs

atom_done_reached : (a : Atom) (k : ForAtom) (bs : List ℕ) → AfterAtom a k bs → Reached (atom_done a k) bs
atom_done_reached a (first k) bs h = h
atom_done_reached a (times m k) bs h = record { fine = and3 (fine_monomial k) (monomial_spelled m) (atom_spelled a) h.fine; text = h.text ∙ simp append_assoc }

monomial_done_reached : (m : Monomial) (k : ForMonomial) (bs : List ℕ) → Reached (after_monomial m k) bs → Reached (monomial_done m k) bs
monomial_done_reached m (positive k) bs h = h
monomial_done_reached m (negative k) bs h = record { fine = h.fine; text = h.text ∙ simp append_assoc }
monomial_done_reached m (plus s k) bs h = record {
  fine = and3 (fine_polynomial k) (sum_spelled s) (monomial_spelled m) h.fine;
  text = h.text ∙ simp append_assoc;
}
monomial_done_reached m (minus s k) bs h = record {
  fine = and3 (fine_polynomial k) (sum_spelled s) (monomial_spelled m) h.fine;
  text = h.text ∙ simp append_assoc;
}

-- ---- the steps

polynomial_keeps : (b : ℕ) (p : Polynomial) (k : ForPolynomial) (bs : List ℕ) → Reached (after_polynomial p k) bs → IfSome (step_polynomial b p k) (After bs b)
polynomial_keeps b p whole_polynomial bs h = tt
polynomial_keeps b p (dividend k) bs h = on_then b 44 (expect 32 (at_polynomial (divisor p k))) (After bs b) (more2 _ _ _ bs b 44 32 (simp append_assoc) h)
polynomial_keeps b p (divisor l k) bs h = on_then b 41 (atom_done (Quotient l p) k) (After bs b)
    (λ e. atom_done_reached (Quotient l p) k (bs ++ b ∷ [])
    (more _ _ _ _ bs b 41 (and3 (fine_atom k) (polynomial_spelled l) (polynomial_spelled p)) (simp append_assoc) h e))
polynomial_keeps b p (modulend k) bs h = on_then b 44 (expect 32 (at_polynomial (modulus p k))) (After bs b) (more2 _ _ _ bs b 44 32 (simp append_assoc) h)
polynomial_keeps b p (modulus l k) bs h = on_then b 41 (atom_done (Remainder l p) k) (After bs b)
    (λ e. atom_done_reached (Remainder l p) k (bs ++ b ∷ [])
    (more _ _ _ _ bs b 41 (and3 (fine_atom k) (polynomial_spelled l) (polynomial_spelled p)) (simp append_assoc) h e))
polynomial_keeps b p (index a k) bs h = on_then b 93 (atom_done (Read a p) k) (After bs b)
    (λ e. atom_done_reached (Read a p) k (bs ++ b ∷ [])
    (more _ _ _ _ bs b 93 (and3 (fine_atom k) (array_spelled a) (polynomial_spelled p)) (simp append_assoc) h e))
polynomial_keeps b p (place a k) bs h = on_then b 58 (expect 32 (at_polynomial (value a p k))) (After bs b)
    (λ e. with_fine _ _ _ _ (and3 (fine_array k) (array_spelled a) (polynomial_spelled p)) (more2 _ _ _ bs b 58 32 (simp append_assoc) h e))
polynomial_keeps b p (value a i k) bs h = on_then b 125 (after_array (Written a i p) k) (After bs b)
    (more _ _ _ _ bs b 125 (and3 (fine_array k) (array_spelled a && polynomial_spelled i) (polynomial_spelled p)) (simp append_assoc) h)
polynomial_keeps b p (item l) bs h = on_then b 125 (after_list (Pushed l p)) (After bs b) (more _ _ _ _ bs b 125 (same _) (simp append_assoc) h)

sum_keeps : (b : ℕ) (s : Sum) (k : ForPolynomial) (bs : List ℕ) → Reached (after_sum s k) bs → IfSome (step_term_sum b s k) (After bs b)
sum_keeps b s k bs h = is_then b 32 (at_sign s k) _ (After bs b) (more _ _ _ _ bs b 32 (same _) (simp append_assoc) h) (polynomial_keeps b (Of s) k bs h)

sign_keeps : (b : ℕ) (s : Sum) (k : ForPolynomial) (bs : List ℕ) → Reached (at_sign s k) bs → IfSome (step_sign b s k) (After bs b)
sign_keeps b s k bs h =
    is_then b 43 (expect 32 (at_monomial (plus s k))) _ (After bs b) (more2 _ _ _ bs b 43 32 (simp append_assoc) h)
    (is_then b 45 (expect 32 (at_monomial (minus s k))) None (After bs b) (more2 _ _ _ bs b 45 32 (simp append_assoc) h) tt)

monomial_keeps : (b : ℕ) (m : Monomial) (k : ForMonomial) (bs : List ℕ) → Reached (after_monomial m k) bs → IfSome (step_monomial b m k) (After bs b)
monomial_keeps b m k bs h = is_then b 42 (at_atom (times m k)) _ (After bs b) (more _ _ _ _ bs b 42 (same _) (simp append_assoc) h)
    (sum_keeps b (sum_with m k) (polynomial_for k) bs (monomial_done_reached m k bs h))

pub number_more : (ds : List ℕ) (b : ℕ) → is_digit b ≡ true → is_number_text ds ≡ true → is_number_text (ds ++ b ∷ []) ≡ true
number_more [] b f e = absurd cc
number_more (d ∷ ds) b f e = let p = and_parts (is_digit d && not (d == 48)) (list_all is_digit ds) e in
    and_from (is_digit d && not (d == 48)) (list_all is_digit (ds ++ b ∷ [])) p.0 (list_all_push is_digit ds b p.1 f)

word_more : (x : List ℕ) (b : ℕ) → is_word_byte b ≡ true → is_word x ≡ true → is_word (x ++ b ∷ []) ≡ true
word_more [] b f e = absurd cc
word_more (c ∷ x) b f e = let p = and_parts (is_letter c) (list_all is_word_byte x) e in
    and_from (is_letter c) (list_all is_word_byte (x ++ b ∷ [])) p.0 (list_all_push is_word_byte x b p.1 f)

-- one byte more, whichever it is
more_any : (good good' : Bool) (before after bs : List ℕ) (b : ℕ) → (good ≡ true → good' ≡ true) → before ++ b ∷ [] ≡ after → ReadSoFar good before bs
    → ReadSoFar good' after (bs ++ b ∷ [])
more_any good good' before after bs b f g h = more good good' before after bs b b f g h refl

number_keeps : (b : ℕ) (ds : List ℕ) (k : ForMonomial) (bs : List ℕ) → Reached (in_number ds k) bs → IfSome (step_number b ds k) (After bs b)
number_keeps b ds k bs h =
    cond_then (is_digit b) (Some (in_number (ds ++ b ∷ []) k)) (step_monomial b (Number ds) k) (After bs b)
    (λ e. more_any _ _ _ _ bs b (and_right (fine_monomial k) (is_number_text ds) (is_number_text (ds ++ b ∷ [])) (number_more ds b e))
    (append_assoc (before_monomial k) ds (b ∷ [])) h)
    (λ e. monomial_keeps b (Number ds) k bs h)

array_keeps : (b : ℕ) (a : ArrayTerm) (k : ForArray) (bs : List ℕ) → Reached (after_array a k) bs → IfSome (step_array b a k) (After bs b)
array_keeps b a whole_array bs h = on_then b 123 (at_polynomial (place a whole_array)) (After bs b) (more _ _ _ _ bs b 123 (same _) (simp append_assoc) h)
array_keeps b a (read_of k) bs h =
    is_then b 123 (at_polynomial (place a (read_of k))) _ (After bs b) (more _ _ _ _ bs b 123 (same _) (simp append_assoc) h)
    (on_then b 91 (at_polynomial (index a k)) (After bs b) (more _ _ _ _ bs b 91 (same _) (simp append_assoc) h))

list_keeps : (b : ℕ) (l : ListSyntax) (bs : List ℕ) → Reached (after_list l) bs → IfSome (step_list b l) (After bs b)
list_keeps b l bs h = on_then b 123 (at_polynomial (item l)) (After bs b) (more _ _ _ _ bs b 123 (same _) refl h)

after_symbol_keeps : (b : ℕ) (s : Side) (x : List ℕ) (q : ForSymbol) (bs : List ℕ) → Reached (after_symbol s x q) bs
    → IfSome (step_after_symbol b s x q) (After bs b)
after_symbol_keeps b s x in_array bs h = array_keeps b (Bare s x) whole_array bs h
after_symbol_keeps b s x in_list bs h = list_keeps b (BareList s x) bs h
after_symbol_keeps b s x (in_atom k) bs h =
    cond_then (b == 123 || b == 91) (step_array b (Bare s x) (read_of k)) (step_monomial b (monomial_with (Symbol s x) k) (monomial_for k)) (After bs b)
    (λ e. array_keeps b (Bare s x) (read_of k) bs h)
    (λ e. monomial_keeps b (monomial_with (Symbol s x) k) (monomial_for k) bs (atom_done_reached (Symbol s x) k bs h))

symbol_grows : (before : List ℕ) (s : Side) (x : List ℕ) (b : ℕ) → (before ++ symbol_text s x) ++ b ∷ [] ≡ before ++ symbol_text s (x ++ b ∷ [])
symbol_grows before Left x b = simp append_assoc
symbol_grows before Right x b = simp append_assoc

-- a word that is not reserved is a name
named : (a : Bool) (x : List ℕ) → is_reserved x ≡ false → (a && is_word x) ≡ true → (a && is_symbol_name x) ≡ true
named a x e f = let p = and_parts a (is_word x) f in and_from a (is_symbol_name x) p.0 (and_from (is_word x) (not (is_reserved x)) p.1 (ap not e))

symbol_keeps : (b : ℕ) (s : Side) (x : List ℕ) (q : ForSymbol) (bs : List ℕ) → Reached (in_symbol s x q) bs → IfSome (step_symbol b s x q) (After bs b)
symbol_keeps b s x q bs h =
    cond_then (is_word_byte b) (Some (in_symbol s (x ++ b ∷ []) q)) (cond (is_reserved x) None (step_after_symbol b s x q)) (After bs b)
    (λ e. more_any _ _ _ _ bs b (and_right (fine_symbol q) (is_word x) (is_word (x ++ b ∷ [])) (word_more x b e)) (symbol_grows (before_symbol q) s x b) h)
    (λ e. cond_then (is_reserved x) None (step_after_symbol b s x q) (After bs b) (λ f. tt)
    (λ f. after_symbol_keeps b s x q bs (with_fine _ _ _ _ (named (fine_symbol q) x f) h)))

atom_keeps : (b : ℕ) (k : ForAtom) (bs : List ℕ) → Reached (at_atom k) bs → IfSome (step_atom b k) (After bs b)
atom_keeps b k bs h =
    is_then b 76 (expect 46 (at_symbol Left (in_atom k))) _ (After bs b) (more2 _ _ _ bs b 76 46 refl h)
    (is_then b 82 (expect 46 (at_symbol Right (in_atom k))) _ (After bs b) (more2 _ _ _ bs b 82 46 refl h)
    (is_then b 100 (expect 105 (expect 118 (expect 40 (at_polynomial (dividend k))))) _ (After bs b) (more4 _ _ _ _ bs b 100 105 118 40 (same _) refl h)
    (is_then b 114 (expect 101 (expect 109 (expect 40 (at_polynomial (modulend k))))) _ (After bs b) (more4 _ _ _ _ bs b 114 101 109 40 (same _) refl h)
    (is_then b 122 (expect 101 (expect 114 (expect 111 (after_array ZeroArray (read_of k))))) None (After bs b)
    (more4 _ _ _ _ bs b 122 101 114 111 (with_true (fine_atom k)) refl h) tt))))

whole_array_keeps : (b : ℕ) (bs : List ℕ) → Reached at_array bs → IfSome (step_whole_array b) (After bs b)
whole_array_keeps b bs h =
    is_then b 76 (expect 46 (at_symbol Left in_array)) _ (After bs b) (more2 _ _ _ bs b 76 46 refl h)
    (is_then b 82 (expect 46 (at_symbol Right in_array)) _ (After bs b) (more2 _ _ _ bs b 82 46 refl h)
    (is_then b 122 (expect 101 (expect 114 (expect 111 (after_array ZeroArray whole_array)))) None (After bs b)
    (more4 _ _ _ _ bs b 122 101 114 111 (same _) refl h) tt))

whole_list_keeps : (b : ℕ) (bs : List ℕ) → Reached at_list bs → IfSome (step_whole_list b) (After bs b)
whole_list_keeps b bs h =
    is_then b 76 (expect 46 (at_symbol Left in_list)) _ (After bs b) (more2 _ _ _ bs b 76 46 refl h)
    (is_then b 82 (expect 46 (at_symbol Right in_list)) _ (After bs b) (more2 _ _ _ bs b 82 46 refl h)
    (is_then b 110 (expect 111 (expect 110 (expect 101 (after_list EmptyList)))) None (After bs b) (more4 _ _ _ _ bs b 110 111 110 101 (same _) refl h) tt))

one_digit : (a : Bool) (b : ℕ) → is_digit b ≡ true → (b == 48) ≡ false → a ≡ true → (a && is_number_text (b ∷ [])) ≡ true
one_digit a b e f g = and_from a (is_number_text (b ∷ [])) g
    (and_from (is_digit b && not (b == 48)) true (and_from (is_digit b) (not (b == 48)) e (ap not f)) refl)

first_keeps : (b : ℕ) (k : ForMonomial) (bs : List ℕ) → Reached (at_monomial k) bs → IfSome (step_first b k) (After bs b)
first_keeps b k bs h =
    cond_then (is_digit b) (cond (b == 48) None (Some (in_number (b ∷ []) k))) (step_atom b (first k)) (After bs b)
    (λ e. cond_then (b == 48) None (Some (in_number (b ∷ []) k)) (After bs b) (λ f. tt) (λ f. more_any _ _ _ _ bs b (one_digit (fine_monomial k) b e f) refl h))
    (λ e. atom_keeps b (first k) bs h)

start_keeps : (b : ℕ) (k : ForPolynomial) (bs : List ℕ) → Reached (at_polynomial k) bs → IfSome (step_start b k) (After bs b)
start_keeps b k bs h =
    is_then b 48 (after_polynomial Zero k) _ (After bs b) (more _ _ _ _ bs b 48 (with_true (fine_polynomial k)) refl h)
    (is_then b 45 (at_monomial (negative k)) _ (After bs b) (more _ _ _ _ bs b 45 (same _) refl h) (first_keeps b (positive k) bs h))

one_letter : (a : Bool) (b : ℕ) → is_letter b ≡ true → a ≡ true → (a && is_word (b ∷ [])) ≡ true
one_letter a b e g = and_from a (is_word (b ∷ [])) g (and_from (is_letter b) true e refl)

keeps : (s : Owed) (b : ℕ) (bs : List ℕ) → Reached s bs → IfSome (term_byte_step s b) (After bs b)
keeps (expect c s) b bs h = on_then b c s (After bs b) (λ e. subst (λ d. Reached s (bs ++ d ∷ [])) (sym e) h)
keeps (at_polynomial k) b bs h = start_keeps b k bs h
keeps (at_monomial k) b bs h = first_keeps b k bs h
keeps (at_atom k) b bs h = atom_keeps b k bs h
keeps at_array b bs h = whole_array_keeps b bs h
keeps at_list b bs h = whole_list_keeps b bs h
keeps (at_symbol s q) b bs h = cond_then (is_letter b) (Some (in_symbol s (b ∷ []) q)) None (After bs b)
    (λ e. more_any _ _ _ _ bs b (one_letter (fine_symbol q) b e) (symbol_grows (before_symbol q) s [] b) h) (λ e. tt)
keeps (in_symbol s x k) b bs h = symbol_keeps b s x k bs h
keeps (after_symbol s x k) b bs h = after_symbol_keeps b s x k bs h
keeps (in_number ds k) b bs h = number_keeps b ds k bs h
keeps (after_array a k) b bs h = array_keeps b a k bs h
keeps (after_list l) b bs h = list_keeps b l bs h
keeps (after_monomial m k) b bs h = monomial_keeps b m k bs h
keeps (after_sum s k) b bs h = sum_keeps b s k bs h
keeps (at_sign s k) b bs h = sign_keeps b s k bs h
keeps (after_polynomial p k) b bs h = polynomial_keeps b p k bs h

-- ---- the end

polynomial_ends : (p : Polynomial) (k : ForPolynomial) (bs : List ℕ) → Reached (after_polynomial p k) bs → IfSome (finish_polynomial p k) (SpellsTerm bs)
polynomial_ends p whole_polynomial bs h = h
polynomial_ends p (dividend k) bs h = tt
polynomial_ends p (divisor l k) bs h = tt
polynomial_ends p (modulend k) bs h = tt
polynomial_ends p (modulus l k) bs h = tt
polynomial_ends p (index a k) bs h = tt
polynomial_ends p (place a k) bs h = tt
polynomial_ends p (value a i k) bs h = tt
polynomial_ends p (item l) bs h = tt

array_ends : (a : ArrayTerm) (k : ForArray) (bs : List ℕ) → Reached (after_array a k) bs → IfSome (finish_array a k) (SpellsTerm bs)
array_ends a whole_array bs h = h
array_ends a (read_of k) bs h = tt

monomial_ended : (m : Monomial) (k : ForMonomial) (bs : List ℕ) → Reached (after_monomial m k) bs → IfSome (finish_monomial m k) (SpellsTerm bs)
monomial_ended m k bs h = polynomial_ends (Of (sum_with m k)) (polynomial_for k) bs (monomial_done_reached m k bs h)

symbol_ends : (s : Side) (x : List ℕ) (q : ForSymbol) (bs : List ℕ) → Reached (after_symbol s x q) bs → IfSome (finish_symbol s x q) (SpellsTerm bs)
symbol_ends s x (in_atom k) bs h = monomial_ended (monomial_with (Symbol s x) k) (monomial_for k) bs (atom_done_reached (Symbol s x) k bs h)
symbol_ends s x in_array bs h = h
symbol_ends s x in_list bs h = h

term_then : (c : Bool) (y : Option TermSyntax) (P : TermSyntax → Type 0) → (c ≡ false → IfSome y P) → IfSome (cond c None y) P
term_then true y P g = tt
term_then false y P g = g refl

ends : (s : Owed) (bs : List ℕ) → Reached s bs → IfSome (finish_term s) (SpellsTerm bs)
ends (expect c s) bs h = tt
ends (at_polynomial k) bs h = tt
ends (at_monomial k) bs h = tt
ends (at_atom k) bs h = tt
ends at_array bs h = tt
ends at_list bs h = tt
ends (at_symbol s k) bs h = tt
ends (in_symbol s x q) bs h = term_then (is_reserved x) _ (SpellsTerm bs) (λ f. symbol_ends s x q bs (with_fine _ _ _ _ (named (fine_symbol q) x f) h))
ends (after_symbol s x q) bs h = symbol_ends s x q bs h
ends (in_number ds k) bs h = monomial_ended (Number ds) k bs h
ends (after_array a k) bs h = array_ends a k bs h
ends (after_list l) bs h = h
ends (after_monomial m k) bs h = monomial_ended m k bs h
ends (after_sum s k) bs h = polynomial_ends (Of s) k bs h
ends (at_sign s k) bs h = tt
ends (after_polynomial p k) bs h = polynomial_ends p k bs h

goes_on : (o : Option Owed) (read : Owed → Option TermSyntax) (Q : Owed → Type 0) (P : TermSyntax → Type 0) → IfSome o Q
    → ((n : Owed) → Q n → IfSome (read n) P) → IfSome (take_term_byte o read) P
goes_on None read Q P h f = tt
goes_on (Some n) read Q P h f = f n h

sound : (bs done : List ℕ) (s : Owed) → Reached s done → IfSome (term_reading bs s) (SpellsTerm (done ++ bs))
sound [] done s h = rw (append-nil done) (ends s done h)
sound (b ∷ bs) done s h =
    subst (λ all. IfSome (term_reading (b ∷ bs) s) (SpellsTerm all)) (append_assoc done (b ∷ []) bs)
    (goes_on (term_byte_step s b) (term_reading bs) (After done b) (SpellsTerm ((done ++ b ∷ []) ++ bs)) (keeps s b done h)
    (λ n q. sound bs (done ++ b ∷ []) n q))

begun : ReadSoFar true [] []
begun = record { fine = refl; text = refl }

-- what is read of bytes is what they spell
pub polynomial_is_spelled : (bs : List ℕ) (t : TermSyntax) → term_reading bs (at_polynomial whole_polynomial) ≡ Some t → SpellsTerm bs t
polynomial_is_spelled bs t e = subst (λ o. IfSome o (SpellsTerm bs)) e (sound bs [] (at_polynomial whole_polynomial) begun)

pub array_is_spelled : (bs : List ℕ) (t : TermSyntax) → term_reading bs at_array ≡ Some t → SpellsTerm bs t
array_is_spelled bs t e = subst (λ o. IfSome o (SpellsTerm bs)) e (sound bs [] at_array begun)

pub list_is_spelled : (bs : List ℕ) (t : TermSyntax) → term_reading bs at_list ≡ Some t → SpellsTerm bs t
list_is_spelled bs t e = subst (λ o. IfSome o (SpellsTerm bs)) e (sound bs [] at_list begun)

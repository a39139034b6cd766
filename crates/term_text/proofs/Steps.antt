-- What runs of digits and of word bytes lead to, and where parts end.
use Rattle.std.proofs.Common.{◌≡◌, ℕ, Bool, true, false, cond, ◌==◌, ◌||◌, List, [], ◌∷◌, ◌++◌, ◌<◌, map, length, take, drop, Option, Some, None, option_map}
use Rattle.std.proofs.Common.{Bor, refl, sym, ap, ap₂, subst}
use Rattle.std.proofs.Common.{◌∙◌, append_assoc, arith}
use Rattle.std.specs.List.{prefix_len}
use Rattle.std.proofs.lemmas.List.{append-nil, map_push}
use Rattle.std.proofs.lemmas.Bool.{or_parts}
use Rattle.fs_model.proofs.Lists.{prefix_len_more}
use Rattle.fs_model.specs.Words.{is_letter, is_digit, is_word_byte, is_reserved}
use Rattle.fs_model.specs.declared.sides.Side.{Side}
use Rattle.term_text.specs.TermTexts.{Atom, Monomial, Sum, Polynomial, ArrayTerm, ListSyntax, Symbol, Read, Number, Times, Of, Bare, Written, BareList, Pushed}
use Rattle.term_text.specs.declared.starts.DivisionKind.{DivisionKind}
use Rattle.term_text.specs.declared.starts.DivisionKind.TheVariants as kinds
use Rattle.term_text.specs.AtomStarts.{left_side, right_side, division_of}
use Rattle.term_text.specs.declared.tree.WrittenAtom.{WrittenAtom}
use Rattle.term_text.specs.declared.tree.WrittenMonomial.{WrittenMonomial}
use Rattle.term_text.specs.declared.tree.WrittenPolynomial.{WrittenPolynomial}
use Rattle.term_text.specs.View.{times_all, written_all, sum_all, sum_of, first_sum, more_sum, polynomial_all, pushed_all, written_atom_in}
use Rattle.term_text.specs.View.{written_polynomial_in, written_term_in, written_write_in}
use Rattle.term_text.specs.Machine.{begins, rest_after, at_sign, first_monomial_for, monomial_of_sum, ForPolynomial, ForMonomial, ForAtom, ForSymbol, in_atom}
use Rattle.term_text.specs.Machine.{in_array, in_list, after_list, ForArray, whole_polynomial, whole_array, read_of, place, item, times, positive, first}
use Rattle.term_text.specs.Machine.{expect, index, value, at_polynomial, at_monomial, at_atom}
use Rattle.term_text.specs.Machine.{at_symbol, in_number, in_symbol, after_symbol, after_array, after_monomial, after_sum, after_polynomial, atom_done}
use Rattle.term_text.specs.Machine.{monomial_done, term_reading, EndsTermSum, EndsMonomial, EndsWrites, IsNoArray}

run_ends : (p : ℕ → Bool) (b : ℕ) (bs : List ℕ) → p b ≡ false → prefix_len p (b ∷ bs) ≡ 0
run_ends p b bs e = rw e refl

-- the first n bytes belong to the number
abbrev NumberGoes : ℕ → List ℕ → List ℕ → ForMonomial → Type 0
NumberGoes n bs ds k = term_reading bs (in_number ds k) ≡ term_reading (drop n bs) (after_monomial (Number (ds ++ take n bs)) k)

pub number_more : (b : ℕ) (bs ds : List ℕ) (k : ForMonomial) → is_digit b ≡ true
    → term_reading (b ∷ bs) (in_number ds k) ≡ term_reading bs (in_number (ds ++ b ∷ []) k)
number_more b bs ds k e = rw e refl

number_last : (b : ℕ) (bs ds : List ℕ) (k : ForMonomial) → is_digit b ≡ false
    → term_reading (b ∷ bs) (in_number ds k) ≡ term_reading (b ∷ bs) (after_monomial (Number ds) k)
number_last b bs ds k e = rw e refl

number_step : (c : Bool) (b : ℕ) (bs ds : List ℕ) (k : ForMonomial) → is_digit b ≡ c → NumberGoes (prefix_len is_digit bs) bs (ds ++ b ∷ []) k
    → NumberGoes (prefix_len is_digit (b ∷ bs)) (b ∷ bs) ds k
number_step true b bs ds k e ih =
    let n = prefix_len is_digit bs in
    subst (λ (m : ℕ). NumberGoes m (b ∷ bs) ds k) (sym (prefix_len_more is_digit b bs e))
    (number_more b bs ds k e ∙ ih ∙ ap (λ (xs : List ℕ). term_reading (drop n bs) (after_monomial (Number xs) k)) (append_assoc ds (b ∷ []) (take n bs)))
number_step false b bs ds k e ih =
    subst (λ (m : ℕ). NumberGoes m (b ∷ bs) ds k) (sym (run_ends is_digit b bs e))
    (number_last b bs ds k e ∙ ap (λ (xs : List ℕ). term_reading (b ∷ bs) (after_monomial (Number xs) k)) (sym (append-nil ds)))

-- the digits in front belong to the number
pub number_goes : (bs ds : List ℕ) (k : ForMonomial) → NumberGoes (prefix_len is_digit bs) bs ds k
number_goes [] ds k = rw (append-nil ds) refl
number_goes (b ∷ bs) ds k = number_step (is_digit b) b bs ds k refl (number_goes bs (ds ++ b ∷ []) k)

-- the first n bytes belong to the name
abbrev SymbolGoes : ℕ → Side → List ℕ → List ℕ → ForSymbol → Type 0
SymbolGoes n s bs x q = term_reading bs (in_symbol s x q) ≡ cond (is_reserved (x ++ take n bs)) None
    (term_reading (drop n bs) (after_symbol s (x ++ take n bs) q))

symbol_more : (s : Side) (b : ℕ) (bs x : List ℕ) (q : ForSymbol) → is_word_byte b ≡ true
    → term_reading (b ∷ bs) (in_symbol s x q) ≡ term_reading bs (in_symbol s (x ++ b ∷ []) q)
symbol_more s b bs x q e = rw e refl

symbol_last : (d : Bool) (s : Side) (b : ℕ) (bs x : List ℕ) (q : ForSymbol) → is_word_byte b ≡ false → is_reserved x ≡ d
    → term_reading (b ∷ bs) (in_symbol s x q) ≡ cond d None (term_reading (b ∷ bs) (after_symbol s x q))
symbol_last true s b bs x q e f = rw (e, f) refl
symbol_last false s b bs x q e f = rw (e, f) refl

symbol_step : (c : Bool) (s : Side) (b : ℕ) (bs x : List ℕ) (q : ForSymbol) → is_word_byte b ≡ c → SymbolGoes (prefix_len is_word_byte bs) s bs (x ++ b ∷ []) q
    → SymbolGoes (prefix_len is_word_byte (b ∷ bs)) s (b ∷ bs) x q
symbol_step true s b bs x q e ih =
    let n = prefix_len is_word_byte bs in
    subst (λ (m : ℕ). SymbolGoes m s (b ∷ bs) x q) (sym (prefix_len_more is_word_byte b bs e))
    (symbol_more s b bs x q e ∙ ih ∙ ap (λ (w : List ℕ). cond (is_reserved w) None (term_reading (drop n bs) (after_symbol s w q)))
    (append_assoc x (b ∷ []) (take n bs)))
symbol_step false s b bs x q e ih =
    subst (λ (m : ℕ). SymbolGoes m s (b ∷ bs) x q) (sym (run_ends is_word_byte b bs e))
    (symbol_last (is_reserved x) s b bs x q e refl ∙ ap (λ (w : List ℕ). cond (is_reserved w) None (term_reading (b ∷ bs) (after_symbol s w q)))
    (sym (append-nil x)))

symbol_end : (d : Bool) (s : Side) (x : List ℕ) (q : ForSymbol) → is_reserved x ≡ d
    → term_reading [] (in_symbol s x q) ≡ cond d None (term_reading [] (after_symbol s x q))
symbol_end true s x q e = rw e refl
symbol_end false s x q e = rw e refl

-- the word bytes in front belong to the name
pub symbol_goes : (s : Side) (bs x : List ℕ) (q : ForSymbol) → SymbolGoes (prefix_len is_word_byte bs) s bs x q
symbol_goes s [] x q = symbol_end (is_reserved x) s x q refl
    ∙ ap (λ (w : List ℕ). cond (is_reserved w) None (term_reading [] (after_symbol s w q))) (sym (append-nil x))
symbol_goes s (b ∷ bs) x q = symbol_step (is_word_byte b) s b bs x q refl (symbol_goes s bs (x ++ b ∷ []) q)

-- a number from its first digit on
pub number_starts :
    (b : ℕ) (bs : List ℕ) (k : ForMonomial) → is_digit b ≡ true → (b == 48) ≡ false
    → term_reading (b ∷ bs) (at_monomial k) ≡ term_reading (drop (prefix_len is_digit (b ∷ bs)) (b ∷ bs))
    (after_monomial (Number (take (prefix_len is_digit (b ∷ bs)) (b ∷ bs))) k)
number_starts b bs k e f =
    let enters : term_reading (b ∷ bs) (at_monomial k) ≡ term_reading bs (in_number (b ∷ []) k) = rw (e, f) refl in
    subst (λ (m : ℕ). term_reading (b ∷ bs) (at_monomial k) ≡ term_reading (drop m (b ∷ bs)) (after_monomial (Number (take m (b ∷ bs))) k))
    (sym (prefix_len_more is_digit b bs e)) (enters ∙ number_goes bs (b ∷ []) k)

-- a name from its first letter on
pub symbol_starts : (s : Side) (b : ℕ) (bs : List ℕ) (q : ForSymbol) → is_letter b ≡ true
    → term_reading (b ∷ bs) (at_symbol s q) ≡ cond (is_reserved (take (prefix_len is_word_byte (b ∷ bs)) (b ∷ bs))) None
    (term_reading (drop (prefix_len is_word_byte (b ∷ bs)) (b ∷ bs)) (after_symbol s (take (prefix_len is_word_byte (b ∷ bs)) (b ∷ bs)) q))
symbol_starts s b bs q e =
    let enters : term_reading (b ∷ bs) (at_symbol s q) ≡ term_reading bs (in_symbol s (b ∷ []) q) = rw e refl in
    let word : is_word_byte b ≡ true = rw e refl in
    subst
    (λ (m : ℕ). term_reading (b ∷ bs) (at_symbol s q) ≡ cond (is_reserved (take m (b ∷ bs))) None
    (term_reading (drop m (b ∷ bs)) (after_symbol s (take m (b ∷ bs)) q))) (sym (prefix_len_more is_word_byte b bs word)) (enters ∙ symbol_goes s bs (b ∷ []) q)

-- a name that is taken
pub symbol_taken : (bs w rest : List ℕ) (s : Side) (q : ForSymbol) → begins is_letter bs ≡ true → w ≡ take (prefix_len is_word_byte bs) bs
    → rest ≡ drop (prefix_len is_word_byte bs) bs → is_reserved w ≡ false
    → term_reading bs (at_symbol s q) ≡ term_reading rest (after_symbol s w q)
symbol_taken [] w rest s q e t d f = absurd cc
symbol_taken (b ∷ bs) w rest s q e t d f =
    let n = prefix_len is_word_byte (b ∷ bs) in
    symbol_starts s b bs q e ∙ ap₂ (λ (v r : List ℕ). cond (is_reserved v) None (term_reading r (after_symbol s v q))) (sym t) (sym d)
    ∙ ap (λ (c : Bool). cond c None (term_reading rest (after_symbol s w q))) f

-- a reserved word is no name
pub symbol_reserved : (bs w : List ℕ) (s : Side) (q : ForSymbol) → begins is_letter bs ≡ true → w ≡ take (prefix_len is_word_byte bs) bs → is_reserved w ≡ true
    → term_reading bs (at_symbol s q) ≡ None
symbol_reserved [] w s q e t f = absurd cc
symbol_reserved (b ∷ bs) w s q e t f =
    let rest = drop (prefix_len is_word_byte (b ∷ bs)) (b ∷ bs) in
    symbol_starts s b bs q e ∙ ap (λ (v : List ℕ). cond (is_reserved v) None (term_reading rest (after_symbol s v q))) (sym t)
    ∙ ap (λ (c : Bool). cond c None (term_reading rest (after_symbol s w q))) f

pub no_symbol : (bs : List ℕ) (s : Side) (q : ForSymbol) → begins is_letter bs ≡ false → term_reading bs (at_symbol s q) ≡ None
no_symbol [] s q e = refl
no_symbol (b ∷ bs) s q e = rw e refl

-- a polynomial that begins with neither 0 nor a sign begins as its first monomial does
pub polynomial_starts : (bs : List ℕ) (k : ForPolynomial) → begins (λ b. b == 48 || b == 45) bs ≡ false
    → term_reading bs (at_polynomial k) ≡ term_reading bs (at_monomial (positive k))
polynomial_starts [] k e = refl
polynomial_starts (b ∷ bs) k e = let p = or_parts (b == 48) (b == 45) e in rw (p.0, p.1) refl

-- a monomial that begins with no digit begins as its first atom does
pub monomial_starts : (bs : List ℕ) (k : ForMonomial) → begins is_digit bs ≡ false → term_reading bs (at_monomial k) ≡ term_reading bs (at_atom (first k))
monomial_starts [] k e = refl
monomial_starts (b ∷ bs) k e = rw e refl

-- ---- where parts end

pub monomial_ends : (bs : List ℕ) (m : Monomial) (k : ForMonomial) → EndsMonomial bs
    → term_reading bs (after_monomial m k) ≡ term_reading bs (monomial_done m k)
monomial_ends [] m k h = refl
monomial_ends (b ∷ bs) m k h = rw h refl

pub sum_ends : (bs : List ℕ) (s : Sum) (k : ForPolynomial) → EndsTermSum bs → term_reading bs (after_sum s k) ≡ term_reading bs (after_polynomial (Of s) k)
sum_ends [] s k h = refl
sum_ends (b ∷ bs) s k h = rw h refl

-- a symbol that goes on as no array does is an atom
pub atom_ends : (bs : List ℕ) (s : Side) (x : List ℕ) (k : ForAtom) → IsNoArray bs false
    → term_reading bs (after_symbol s x (in_atom k)) ≡ term_reading bs (atom_done (Symbol s x) k)
atom_ends [] s x k h = refl
atom_ends (b ∷ bs) s x k h = rw (sym h) refl

-- and one that does is the base of one
pub array_goes : (bs : List ℕ) (s : Side) (x : List ℕ) (k : ForAtom) → IsNoArray bs true
    → term_reading bs (after_symbol s x (in_atom k)) ≡ term_reading bs (after_array (Bare s x) (read_of k))
array_goes [] s x k h = absurd cc
array_goes (b ∷ bs) s x k h = rw (sym h) refl

-- ---- the byte that ends a polynomial

pub closes_index : (a : ArrayTerm) (k : ForAtom) (bs : List ℕ) (p : Polynomial)
    → term_reading bs (after_polynomial p (index a k)) ≡ term_reading bs (expect 93 (atom_done (Read a p) k))
closes_index a k [] p = refl
closes_index a k (b ∷ bs) p = refl

pub closes_value : (a : ArrayTerm) (i : Polynomial) (k : ForArray) (bs : List ℕ) (p : Polynomial)
    → term_reading bs (after_polynomial p (value a i k)) ≡ term_reading bs (expect 125 (after_array (Written a i p) k))
closes_value a i k [] p = refl
closes_value a i k (b ∷ bs) p = refl

pub closes_item : (l : ListSyntax) (bs : List ℕ) (p : Polynomial)
    → term_reading bs (after_polynomial p (item l)) ≡ term_reading bs (expect 125 (after_list (Pushed l p)))
closes_item l [] p = refl
closes_item l (b ∷ bs) p = refl

pub closes_right : (d : DivisionKind) (l : Polynomial) (k : ForAtom) (bs : List ℕ) (p : Polynomial)
    → term_reading bs (after_polynomial p (right_side d l k)) ≡ term_reading bs (expect 41 (atom_done (division_of d l p) k))
closes_right kinds.Quotient l k [] p = refl
closes_right kinds.Quotient l k (b ∷ bs) p = refl
closes_right kinds.Remainder l k [] p = refl
closes_right kinds.Remainder l k (b ∷ bs) p = refl

-- ---- the bytes that open the place of a polynomial

pub opens_index : (a : ArrayTerm) (k : ForAtom) (bs : List ℕ) → EndsWrites bs
    → term_reading bs (after_array a (read_of k)) ≡ term_reading bs (expect 91 (at_polynomial (index a k)))
opens_index a k [] h = refl
opens_index a k (b ∷ bs) h = rw h refl

pub opens_value : (i : Polynomial) (a : ArrayTerm) (k : ForArray) (bs : List ℕ)
    → term_reading bs (after_polynomial i (place a k)) ≡ term_reading bs (expect 58 (expect 32 (at_polynomial (value a i k))))
opens_value i a k [] = refl
opens_value i a k (b ∷ bs) = refl

pub opens_right : (d : DivisionKind) (l : Polynomial) (k : ForAtom) (bs : List ℕ)
    → term_reading bs (after_polynomial l (left_side d k)) ≡ term_reading bs (expect 44 (expect 32 (at_polynomial (right_side d l k))))
opens_right kinds.Quotient l k [] = refl
opens_right kinds.Quotient l k (b ∷ bs) = refl
opens_right kinds.Remainder l k [] = refl
opens_right kinds.Remainder l k (b ∷ bs) = refl

-- ---- what stands behind a byte

first_byte : (t : Bool) (c b : ℕ) (bs rest : List ℕ) → (b == c) ≡ t → cond t (Some bs) None ≡ Some rest → ((b == c) ≡ true) × (bs ≡ rest)
first_byte true c b bs rest h e = (h, cc)
first_byte false c b bs rest h e = absurd cc

no_first_byte : (t : Bool) (c b : ℕ) (bs : List ℕ) → (b == c) ≡ t → cond t (Some bs) None ≡ None → (b == c) ≡ false
no_first_byte true c b bs h e = absurd cc
no_first_byte false c b bs h e = h

pub found : (r : Option (Bor (List ℕ))) (x : Bor (List ℕ)) (c : ℕ) (bs : List ℕ) → option_map (λ y. y.now) r ≡ rest_after c bs → r ≡ Some x
    → rest_after c bs ≡ Some x.now
found r x c bs e is = sym e ∙ ap (option_map (λ y. y.now)) is

pub missing : (r : Option (Bor (List ℕ))) (c : ℕ) (bs : List ℕ) → option_map (λ y. y.now) r ≡ rest_after c bs → r ≡ None → rest_after c bs ≡ None
missing r c bs e is = sym e ∙ ap (option_map (λ y. y.now)) is

pub rest_after_shorter : (c : ℕ) (bs rest : List ℕ) → rest_after c bs ≡ Some rest → length rest < length bs
rest_after_shorter c [] rest e = absurd cc
rest_after_shorter c (b ∷ bs) rest e = let p = first_byte (b == c) c b bs rest refl e in omega (arith, ap length p.1)

-- a monomial, a sum, an array and a list go on
pub atoms_go_on : (bs rest : List ℕ) (m : Monomial) (k : ForMonomial) → rest_after 42 bs ≡ Some rest
    → term_reading bs (after_monomial m k) ≡ term_reading rest (at_atom (times m k))
atoms_go_on [] rest m k e = absurd cc
atoms_go_on (b ∷ bs) rest m k e = let p = first_byte (b == 42) 42 b bs rest refl e in rw (p.0, p.1) refl

pub sum_goes_on : (bs rest : List ℕ) (s : Sum) (k : ForPolynomial) → rest_after 32 bs ≡ Some rest
    → term_reading bs (after_sum s k) ≡ term_reading rest (at_sign s k)
sum_goes_on [] rest s k e = absurd cc
sum_goes_on (b ∷ bs) rest s k e = let p = first_byte (b == 32) 32 b bs rest refl e in rw (p.0, p.1) refl

pub array_goes_on : (bs rest : List ℕ) (a : ArrayTerm) (k : ForArray) → rest_after 123 bs ≡ Some rest
    → term_reading bs (after_array a k) ≡ term_reading rest (at_polynomial (place a k))
array_goes_on [] rest a k e = absurd cc
array_goes_on (b ∷ bs) rest a whole_array e = let p = first_byte (b == 123) 123 b bs rest refl e in rw (p.0, p.1) refl
array_goes_on (b ∷ bs) rest a (read_of k) e = let p = first_byte (b == 123) 123 b bs rest refl e in rw (p.0, p.1) refl

pub list_goes_on : (bs rest : List ℕ) (l : ListSyntax) → rest_after 123 bs ≡ Some rest
    → term_reading bs (after_list l) ≡ term_reading rest (at_polynomial (item l))
list_goes_on [] rest l e = absurd cc
list_goes_on (b ∷ bs) rest l e = let p = first_byte (b == 123) 123 b bs rest refl e in rw (p.0, p.1) refl

-- and end
pub monomial_ended : (bs : List ℕ) (m : Monomial) (k : ForMonomial) → rest_after 42 bs ≡ None
    → term_reading bs (after_monomial m k) ≡ term_reading bs (monomial_done m k)
monomial_ended [] m k e = refl
monomial_ended (b ∷ bs) m k e = monomial_ends (b ∷ bs) m k (no_first_byte (b == 42) 42 b bs refl e)

pub sum_ended : (bs : List ℕ) (s : Sum) (k : ForPolynomial) → rest_after 32 bs ≡ None
    → term_reading bs (after_sum s k) ≡ term_reading bs (after_polynomial (Of s) k)
sum_ended [] s k e = refl
sum_ended (b ∷ bs) s k e = sum_ends (b ∷ bs) s k (no_first_byte (b == 32) 32 b bs refl e)

pub writes_ended : (bs : List ℕ) → rest_after 123 bs ≡ None → EndsWrites bs
writes_ended [] e = tt
writes_ended (b ∷ bs) e = no_first_byte (b == 123) 123 b bs refl e

-- ---- what the loops add

times_more : (m : Monomial) (xs : List Atom) (a : Atom) → times_all m (xs ++ a ∷ []) ≡ Times (times_all m xs) a
times_more m [] a = refl
times_more m (x ∷ xs) a = times_more (Times m x) xs a

pub atom_more : (m : Monomial) (xs : List WrittenAtom) (a : WrittenAtom)
    → times_all m (map written_atom_in (xs ++ a ∷ [])) ≡ Times (times_all m (map written_atom_in xs)) (written_atom_in a)
atom_more m xs a = ap (times_all m) (map_push written_atom_in xs a) ∙ times_more m (map written_atom_in xs) (written_atom_in a)

writes_more : (a : ArrayTerm) (ws : List (Polynomial × Polynomial)) (w : Polynomial × Polynomial)
    → written_all a (ws ++ w ∷ []) ≡ Written (written_all a ws) w.0 w.1
writes_more a [] w = refl
writes_more a (x ∷ ws) w = writes_more (Written a x.0 x.1) ws w

pub write_more : (a : ArrayTerm) (ws : List (WrittenPolynomial × WrittenPolynomial)) (w : WrittenPolynomial × WrittenPolynomial)
    → written_all a (map written_write_in (ws ++ w ∷ [])) ≡ Written (written_all a (map written_write_in ws)) (written_polynomial_in w.0)
    (written_polynomial_in w.1)
write_more a ws w = ap (written_all a) (map_push written_write_in ws w) ∙ writes_more a (map written_write_in ws) (written_write_in w)

sum_more : (s : Sum) (ts : List (Bool × Monomial)) (t : Bool × Monomial) → sum_all s (ts ++ t ∷ []) ≡ more_sum (sum_all s ts) t
sum_more s [] t = refl
sum_more s (x ∷ ts) t = sum_more (more_sum s x) ts t

pub monomial_more : (ts : List (Bool × WrittenMonomial)) (t : Bool × WrittenMonomial) → 0 < length ts
    → sum_of (map written_term_in (ts ++ t ∷ [])) ≡ more_sum (sum_of (map written_term_in ts)) (written_term_in t)
monomial_more [] t h = absurd (omega (arith, h))
monomial_more (x ∷ ts) t h = ap (sum_all (first_sum (written_term_in x))) (map_push written_term_in ts t)
    ∙ sum_more (first_sum (written_term_in x)) (map written_term_in ts) (written_term_in t)

pub some_there : {X : Type 0} (old new : List X) (x : X) → new ≡ old ++ x ∷ [] → 0 < length new
some_there [] new x e = omega (arith, ap length e)
some_there (y ∷ old) new x e = omega (arith, ap length e)

pub sum_whole : (ts : List (Bool × WrittenMonomial)) → 0 < length ts → polynomial_all (map written_term_in ts) ≡ Of (sum_of (map written_term_in ts))
sum_whole [] h = absurd (omega (arith, h))
sum_whole (x ∷ ts) h = refl

-- the state of a first and of a later monomial
pub first_monomial : (b : Bool) (m : Monomial) (k : ForPolynomial) → monomial_done m (first_monomial_for b k) ≡ after_sum (first_sum (b, m)) k
first_monomial true m k = refl
first_monomial false m k = refl

pub next_monomial : (b : Bool) (m : Monomial) (s : Sum) (k : ForPolynomial) → monomial_done m (monomial_of_sum b s k) ≡ after_sum (more_sum s (b, m)) k
next_monomial true m s k = refl
next_monomial false m s k = refl

-- nothing follows a whole polynomial
pub not_ended : (bs : List ℕ) (p : Polynomial) → 0 < length bs → term_reading bs (after_polynomial p whole_polynomial) ≡ None
not_ended [] p h = absurd (omega (arith, h))
not_ended (b ∷ bs) p h = refl

-- nothing but a write follows a whole array
pub array_not_ended : (bs : List ℕ) (a : ArrayTerm) → 0 < length bs → EndsWrites bs → term_reading bs (after_array a whole_array) ≡ None
array_not_ended [] a h e = absurd (omega (arith, h))
array_not_ended (b ∷ bs) a h e = rw e refl

-- a whole array or list goes on after its symbol as after its base
pub array_base : (bs : List ℕ) (s : Side) (x : List ℕ) → term_reading bs (after_symbol s x in_array) ≡ term_reading bs (after_array (Bare s x) whole_array)
array_base [] s x = refl
array_base (b ∷ bs) s x = refl

-- nothing but an item follows a whole list
pub list_not_ended : (bs : List ℕ) (l : ListSyntax) → 0 < length bs → EndsWrites bs → term_reading bs (after_list l) ≡ None
list_not_ended [] l h e = absurd (omega (arith, h))
list_not_ended (b ∷ bs) l h e = rw e refl

pub list_base : (bs : List ℕ) (s : Side) (x : List ℕ) → term_reading bs (after_symbol s x in_list) ≡ term_reading bs (after_list (BareList s x))
list_base [] s x = refl
list_base (b ∷ bs) s x = refl

items_more : (l : ListSyntax) (ps : List Polynomial) (p : Polynomial) → pushed_all l (ps ++ p ∷ []) ≡ Pushed (pushed_all l ps) p
items_more l [] p = refl
items_more l (q ∷ ps) p = items_more (Pushed l q) ps p

pub item_more : (l : ListSyntax) (ps : List WrittenPolynomial) (p : WrittenPolynomial)
    → pushed_all l (map written_polynomial_in (ps ++ p ∷ [])) ≡ Pushed (pushed_all l (map written_polynomial_in ps)) (written_polynomial_in p)
item_more l ps p = ap (pushed_all l) (map_push written_polynomial_in ps p) ∙ items_more l (map written_polynomial_in ps) (written_polynomial_in p)

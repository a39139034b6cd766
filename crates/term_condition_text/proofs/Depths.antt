-- The brackets of a text are those of its term.
use Rattle.std.proofs.Common.{◌≡◌, ℕ, suc, ◌+◌, ◌-◌, ◌≤◌, ◌<◌, max, length, drop, get_or, drop-cons, Bool, true, false, not, cond, ◌==◌, ◌&&◌, List, [], ◌∷◌}
use Rattle.std.proofs.Common.{◌++◌, refl, ap, subst, ◌∙◌, append_assoc, arith}
use Rattle.std.specs.List.{list_all}
use Rattle.std.proofs.lemmas.Bool.{eqb-true, and_parts, or_left, and_from, both_ways}
use Rattle.fs_model.specs.Words.{is_letter, is_digit, is_word_byte, is_word, is_reserved}
use Rattle.fs_model.specs.declared.sides.Side.{Side}
use Rattle.fs_model.specs.declared.sides.Side.TheVariants.{Left, Right}
use Rattle.fs_model.proofs.Words.{digits_are_word_bytes}
use Rattle.term_text.specs.TermTexts.{ListSyntax, TermSyntax, EmptyList, BareList, Pushed, polynomial, array, list, list_text, term_text, Atom, Monomial, Sum}
use Rattle.term_text.specs.TermTexts.{Polynomial, ArrayTerm, Symbol, Read, Quotient, Remainder, Number, One, Times, Positive, Negative, Plus, Minus, Zero, Of}
use Rattle.term_text.specs.TermTexts.{ZeroArray, Bare, Written, symbol_text, atom_text, monomial_text, sum_text, polynomial_text, array_text}
use Rattle.term_text.specs.SpellableTerms.{is_number_text, is_symbol_name, atom_spelled, monomial_spelled, sum_spelled, polynomial_spelled, array_spelled}
use Rattle.term_text.specs.SpellableTerms.{list_spelled, term_spelled}
use Rattle.term_text.specs.Brackets.{opens, closes, open_after, most_open, openings, atom_depth, monomial_depth, sum_depth, polynomial_depth, array_depth}
use Rattle.term_text.specs.Brackets.{list_depth, term_depth}

-- a word byte is none of these
pub differs : (c : ℕ) (t : Bool) (b : ℕ) → (b == c) ≡ t → is_word_byte c ≡ false → is_word_byte b ≡ true → (b == c) ≡ false
differs c false b e f g = e
differs c true b e f g = absurd (both_ways (is_word_byte c) f (subst (λ d. is_word_byte d ≡ true) (eqb-true b c e) g))

at_least : (n : ℕ) (bs : List ℕ) → n ≤ most_open n bs
at_least n [] = omega arith
at_least n (b ∷ bs) = omega arith

plain_byte : (b n : ℕ) (bs : List ℕ) → is_word_byte b ≡ true → most_open n (b ∷ bs) ≡ most_open n bs
plain_byte b n bs e =
    let l = at_least n bs in
    let o1 = differs 40 (b == 40) b refl refl e in
    let o2 = differs 91 (b == 91) b refl refl e in
    let o3 = differs 123 (b == 123) b refl refl e in
    let c1 = differs 41 (b == 41) b refl refl e in
    let c2 = differs 93 (b == 93) b refl refl e in
    let c3 = differs 125 (b == 125) b refl refl e in
    let same : open_after n b ≡ n = rw (o1, o2, o3, c1, c2, c3) refl in
    ap (λ k. max n (most_open k bs)) same ∙ omega (arith, l)

plain_word : (x : List ℕ) (n : ℕ) (rest : List ℕ) → list_all is_word_byte x ≡ true → most_open n (x ++ rest) ≡ most_open n rest
plain_word [] n rest e = refl
plain_word (b ∷ x) n rest e = let p = and_parts (is_word_byte b) (list_all is_word_byte x) e in plain_byte b n (x ++ rest) p.0 ∙ plain_word x n rest p.1

-- numbers and names are made of word bytes
pub number_bytes : (ds : List ℕ) → is_number_text ds ≡ true → list_all is_word_byte ds ≡ true
number_bytes [] e = absurd cc
number_bytes (d ∷ ds) e =
    let p = and_parts (is_digit d && not (d == 48)) (list_all is_digit ds) e in
    digits_are_word_bytes (d ∷ ds) (and_from (is_digit d) (list_all is_digit ds) (and_parts (is_digit d) (not (d == 48)) p.0).0 p.1)

pub name_bytes : (x : List ℕ) → is_symbol_name x ≡ true → list_all is_word_byte x ≡ true
name_bytes [] e = absurd cc
name_bytes (b ∷ x) e =
    let p = and_parts (is_letter b) (list_all is_word_byte x) (and_parts (is_word (b ∷ x)) (not (is_reserved (b ∷ x))) e).0 in
    and_from (is_word_byte b) (list_all is_word_byte x) (or_left (is_letter b) (is_digit b) p.0) p.1

number_plain : (ds : List ℕ) (n : ℕ) (rest : List ℕ) → is_number_text ds ≡ true → most_open n (ds ++ rest) ≡ most_open n rest
number_plain ds n rest e = plain_word ds n rest (number_bytes ds e)

name_plain : (x : List ℕ) (n : ℕ) (rest : List ℕ) → is_symbol_name x ≡ true → most_open n (x ++ rest) ≡ most_open n rest
name_plain x n rest e = plain_word x n rest (name_bytes x e)

symbol_plain : (s : Side) (x : List ℕ) (n : ℕ) (rest : List ℕ) → is_symbol_name x ≡ true → most_open n (symbol_text s x ++ rest) ≡ most_open n rest
symbol_plain Left x n rest e = omega (arith, name_plain x n rest e, at_least n rest)
symbol_plain Right x n rest e = omega (arith, name_plain x n rest e, at_least n rest)

back : (n : ℕ) (rest : List ℕ) → most_open (n + 1 - 1) rest ≡ most_open n rest
back n rest = let e : n + 1 - 1 ≡ n = omega arith in ap (λ k. most_open k rest) e

mutual
  atom_open : (a : Atom) (n : ℕ) (rest : List ℕ) → atom_spelled a ≡ true → most_open n (atom_text a ++ rest) ≡ max (n + atom_depth a) (most_open n rest)
  atom_open (Symbol s x) n rest e = omega (arith, symbol_plain s x n rest e, at_least n rest)
  atom_open (Read a i) n rest e =
      let p = and_parts (array_spelled a) (polynomial_spelled i) e in
      let regroup : atom_text (Read a i) ++ rest ≡ array_text a ++ (91 ∷ (polynomial_text i ++ (93 ∷ rest))) = simp append_assoc in
      let q = ap (most_open n) regroup ∙ array_open a n (91 ∷ (polynomial_text i ++ (93 ∷ rest))) p.0 in
      omega (arith, q, polynomial_open i (n + 1) (93 ∷ rest) p.1, at_least n rest, back n rest)
  atom_open (Quotient a b) n rest e =
      let p = and_parts (polynomial_spelled a) (polynomial_spelled b) e in
      let regroup : atom_text (Quotient a b) ++ rest ≡ 100 ∷ 105 ∷ 118 ∷ 40 ∷ (polynomial_text a ++ (44 ∷ 32 ∷ (polynomial_text b ++ (41 ∷ rest)))) =
      simp append_assoc in
      omega (
        arith,
        ap (most_open n) regroup,
        polynomial_open a (n + 1) (44 ∷ 32 ∷ (polynomial_text b ++ (41 ∷ rest))) p.0,
        polynomial_open b (n + 1) (41 ∷ rest) p.1,
        at_least n rest,
        back n rest,
      )
  atom_open (Remainder a b) n rest e =
      let p = and_parts (polynomial_spelled a) (polynomial_spelled b) e in
      let regroup : atom_text (Remainder a b) ++ rest ≡ 114 ∷ 101 ∷ 109 ∷ 40 ∷ (polynomial_text a ++ (44 ∷ 32 ∷ (polynomial_text b ++ (41 ∷ rest)))) =
      simp append_assoc in
      omega (
        arith,
        ap (most_open n) regroup,
        polynomial_open a (n + 1) (44 ∷ 32 ∷ (polynomial_text b ++ (41 ∷ rest))) p.0,
        polynomial_open b (n + 1) (41 ∷ rest) p.1,
        at_least n rest,
        back n rest,
      )

  monomial_open : (m : Monomial) (n : ℕ) (rest : List ℕ) → monomial_spelled m ≡ true
      → most_open n (monomial_text m ++ rest) ≡ max (n + monomial_depth m) (most_open n rest)
  monomial_open (Number ds) n rest e = omega (arith, number_plain ds n rest e, at_least n rest)
  monomial_open (One a) n rest e = atom_open a n rest e
  monomial_open (Times m a) n rest e =
      let p = and_parts (monomial_spelled m) (atom_spelled a) e in
      let regroup : monomial_text (Times m a) ++ rest ≡ monomial_text m ++ (42 ∷ (atom_text a ++ rest)) = simp append_assoc in
      omega (arith, ap (most_open n) regroup, monomial_open m n (42 ∷ (atom_text a ++ rest)) p.0, atom_open a n rest p.1)

  sum_open : (s : Sum) (n : ℕ) (rest : List ℕ) → sum_spelled s ≡ true → most_open n (sum_text s ++ rest) ≡ max (n + sum_depth s) (most_open n rest)
  sum_open (Positive m) n rest e = monomial_open m n rest e
  sum_open (Negative m) n rest e = omega (arith, monomial_open m n rest e, at_least n rest)
  sum_open (Plus s m) n rest e =
      let p = and_parts (sum_spelled s) (monomial_spelled m) e in
      let regroup : sum_text (Plus s m) ++ rest ≡ sum_text s ++ (32 ∷ 43 ∷ 32 ∷ (monomial_text m ++ rest)) = simp append_assoc in
      omega (arith, ap (most_open n) regroup, sum_open s n (32 ∷ 43 ∷ 32 ∷ (monomial_text m ++ rest)) p.0, monomial_open m n rest p.1)
  sum_open (Minus s m) n rest e =
      let p = and_parts (sum_spelled s) (monomial_spelled m) e in
      let regroup : sum_text (Minus s m) ++ rest ≡ sum_text s ++ (32 ∷ 45 ∷ 32 ∷ (monomial_text m ++ rest)) = simp append_assoc in
      omega (arith, ap (most_open n) regroup, sum_open s n (32 ∷ 45 ∷ 32 ∷ (monomial_text m ++ rest)) p.0, monomial_open m n rest p.1)

  pub polynomial_open : (p : Polynomial) (n : ℕ) (rest : List ℕ) → polynomial_spelled p ≡ true
      → most_open n (polynomial_text p ++ rest) ≡ max (n + polynomial_depth p) (most_open n rest)
  polynomial_open Zero n rest e = omega (arith, at_least n rest)
  polynomial_open (Of s) n rest e = sum_open s n rest e

  array_open : (a : ArrayTerm) (n : ℕ) (rest : List ℕ) → array_spelled a ≡ true
      → most_open n (array_text a ++ rest) ≡ max (n + array_depth a) (most_open n rest)
  array_open ZeroArray n rest e = omega (arith, at_least n rest)
  array_open (Bare s x) n rest e = omega (arith, symbol_plain s x n rest e, at_least n rest)
  array_open (Written a i v) n rest e =
      let p = and_parts (array_spelled a && polynomial_spelled i) (polynomial_spelled v) e in
      let q = and_parts (array_spelled a) (polynomial_spelled i) p.0 in
      let regroup : array_text (Written a i v) ++ rest ≡ array_text a ++ (123 ∷ (polynomial_text i ++ (58 ∷ 32 ∷ (polynomial_text v ++ (125 ∷ rest))))) =
      simp append_assoc in
      omega (
        arith,
        ap (most_open n) regroup,
        array_open a n (123 ∷ (polynomial_text i ++ (58 ∷ 32 ∷ (polynomial_text v ++ (125 ∷ rest))))) q.0,
        polynomial_open i (n + 1) (58 ∷ 32 ∷ (polynomial_text v ++ (125 ∷ rest))) q.1,
        polynomial_open v (n + 1) (125 ∷ rest) p.1,
        at_least n rest,
        back n rest,
      )

list_open : (l : ListSyntax) (n : ℕ) (rest : List ℕ) → list_spelled l ≡ true → most_open n (list_text l ++ rest) ≡ max (n + list_depth l) (most_open n rest)
list_open EmptyList n rest e = omega (arith, at_least n rest)
list_open (BareList s x) n rest e = omega (arith, symbol_plain s x n rest e, at_least n rest)
list_open (Pushed l p) n rest e =
    let q = and_parts (list_spelled l) (polynomial_spelled p) e in
    let regroup : list_text (Pushed l p) ++ rest ≡ list_text l ++ (123 ∷ (polynomial_text p ++ (125 ∷ rest))) = simp append_assoc in
    omega (
      arith,
      ap (most_open n) regroup,
      list_open l n (123 ∷ (polynomial_text p ++ (125 ∷ rest))) q.0,
      polynomial_open p (n + 1) (125 ∷ rest) q.1,
      at_least n rest,
      back n rest,
    )

-- the most brackets that are open at once in a text are the term's depth
pub term_open : (t : TermSyntax) (n : ℕ) (rest : List ℕ) → term_spelled t ≡ true → most_open n (term_text t ++ rest) ≡ max (n + term_depth t) (most_open n rest)
term_open (polynomial p) n rest e = polynomial_open p n rest e
term_open (array a) n rest e = array_open a n rest e
term_open (list l) n rest e = list_open l n rest e

-- ---- the loop that counts

pub counted : (bytes : List ℕ) (i d n m : ℕ) → i < length bytes → n ≤ m
    → max (max m (open_after n (get_or bytes i d))) (most_open (open_after n (get_or bytes i d)) (drop (i + 1) bytes)) ≡ max m (most_open n (drop i bytes))
counted bytes i d n m h k =
    let s : suc i ≡ i + 1 = omega arith in
    let b = get_or bytes i d in
    let one : most_open n (drop i bytes) ≡ max n (most_open (open_after n b) (drop (i + 1) bytes)) =
    rw (drop-cons bytes i d h) (ap (λ j. max n (most_open (open_after n b) (drop j bytes))) s) in
    omega (arith, one, at_least (open_after n b) (drop (i + 1) bytes), k)

one_by : (o c : Bool) (n : ℕ) → cond o (n + 1) (cond c (n - 1) n) ≤ n + 1
one_by true c n = omega arith
one_by false true n = omega arith
one_by false false n = omega arith

pub one_at_most : (n b : ℕ) → open_after n b ≤ n + 1
one_at_most n b = one_by (opens b) (closes b) n

-- ---- brackets in all

pub opened : (bytes : List ℕ) (i d : ℕ) → i < length bytes → openings (drop i bytes) ≡ cond (opens (get_or bytes i d)) 1 0 + openings (drop (i + 1) bytes)
opened bytes i d h =
    let s : suc i ≡ i + 1 = omega arith in
    ap openings (drop-cons bytes i d h) ∙ ap (λ j. cond (opens (get_or bytes i d)) 1 0 + openings (drop j bytes)) s

step_by : (o c : Bool) (n m k : ℕ) → m ≤ cond o (n + 1) (cond c (n - 1) n) + k → m ≤ n + (cond o 1 0 + k)
step_by true c n m k h = omega (arith, h)
step_by false true n m k h = omega (arith, h)
step_by false false n m k h = omega (arith, h)

open_by : (n : ℕ) (bs : List ℕ) → most_open n bs ≤ n + openings bs
open_by n [] = omega arith
open_by n (b ∷ bs) =
    let l = step_by (opens b) (closes b) n (most_open (open_after n b) bs) (openings bs) (open_by (open_after n b) bs) in
    omega (arith, l)

pub no_more_than_openings : (bs : List ℕ) → most_open 0 bs ≤ openings bs
no_more_than_openings bs = omega (arith, open_by 0 bs)

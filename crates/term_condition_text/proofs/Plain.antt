-- No sign of a relation stands in the text of a polynomial.
use Rattle.std.proofs.Common.{◌≡◌, ℕ, Bool, true, false, not, ◌==◌, ◌||◌, ◌&&◌, List, [], ◌∷◌, ◌++◌, codes, refl, ◌∙◌}
use Rattle.std.specs.List.{list_all}
use Rattle.std.proofs.lemmas.List.Folds.{list_all-append}
use Rattle.std.proofs.lemmas.Bool.{and_parts, and_from}
use Rattle.fs_model.specs.Words.{is_word_byte}
use Rattle.fs_model.specs.declared.sides.Side.{Side}
use Rattle.fs_model.specs.declared.sides.Side.TheVariants.{Left, Right}
use Rattle.term_text.specs.TermTexts.{Atom, Monomial, Sum, Polynomial, ArrayTerm, Symbol, Read, Quotient, Remainder, Number, One, Times, Positive, Negative}
use Rattle.term_text.specs.TermTexts.{Plus, Minus, Zero, Of, ZeroArray, Bare, Written, symbol_text, atom_text, monomial_text, sum_text, polynomial_text}
use Rattle.term_text.specs.TermTexts.{array_text}
use Rattle.term_text.specs.SpellableTerms.{is_symbol_name, atom_spelled, monomial_spelled, sum_spelled, polynomial_spelled, array_spelled}
use Rattle.term_condition_text.proofs.Depths.{differs, number_bytes, name_bytes}
use Rattle.term_condition_text.specs.ConditionParts.{is_plain}

abbrev pub Plain : List ℕ → Type 0
Plain bs = list_all is_plain bs ≡ true

plain_by : (a b c d : Bool) → a ≡ false → b ≡ false → c ≡ false → d ≡ false → not (a || b || c || d) ≡ true
plain_by a b c d e f g h = rw (e, f, g, h) refl

word_byte : (b : ℕ) → is_word_byte b ≡ true → is_plain b ≡ true
word_byte b e = plain_by (b == 60) (b == 61) (b == 62) (b == 33) (differs 60 (b == 60) b refl refl e) (differs 61 (b == 61) b refl refl e)
    (differs 62 (b == 62) b refl refl e) (differs 33 (b == 33) b refl refl e)

words : (bs : List ℕ) → list_all is_word_byte bs ≡ true → Plain bs
words [] e = refl
words (b ∷ bs) e = let p = and_parts (is_word_byte b) (list_all is_word_byte bs) e in
    and_from (is_plain b) (list_all is_plain bs) (word_byte b p.0) (words bs p.1)

joined : (xs ys : List ℕ) → Plain xs → Plain ys → Plain (xs ++ ys)
joined xs ys p q = list_all-append is_plain xs ys ∙ and_from (list_all is_plain xs) (list_all is_plain ys) p q

symbol_plain : (s : Side) (x : List ℕ) → is_symbol_name x ≡ true → Plain (symbol_text s x)
symbol_plain Left x e = words x (name_bytes x e)
symbol_plain Right x e = words x (name_bytes x e)

mutual
  atom_plain : (a : Atom) → atom_spelled a ≡ true → Plain (atom_text a)
  atom_plain (Symbol s x) e = symbol_plain s x e
  atom_plain (Read a i) e =
      let p = and_parts (array_spelled a) (polynomial_spelled i) e in
      joined (array_text a) (codes "[" ++ (polynomial_text i ++ codes "]")) (array_plain a p.0)
      (joined (polynomial_text i) (codes "]") (polynomial_plain i p.1) refl)
  atom_plain (Quotient a b) e =
      let p = and_parts (polynomial_spelled a) (polynomial_spelled b) e in
      joined (polynomial_text a) (codes ", " ++ (polynomial_text b ++ codes ")")) (polynomial_plain a p.0)
      (joined (polynomial_text b) (codes ")") (polynomial_plain b p.1) refl)
  atom_plain (Remainder a b) e =
      let p = and_parts (polynomial_spelled a) (polynomial_spelled b) e in
      joined (polynomial_text a) (codes ", " ++ (polynomial_text b ++ codes ")")) (polynomial_plain a p.0)
      (joined (polynomial_text b) (codes ")") (polynomial_plain b p.1) refl)

  monomial_plain : (m : Monomial) → monomial_spelled m ≡ true → Plain (monomial_text m)
  monomial_plain (Number ds) e = words ds (number_bytes ds e)
  monomial_plain (One a) e = atom_plain a e
  monomial_plain (Times m a) e =
      let p = and_parts (monomial_spelled m) (atom_spelled a) e in
      joined (monomial_text m) (codes "*" ++ atom_text a) (monomial_plain m p.0) (atom_plain a p.1)

  sum_plain : (s : Sum) → sum_spelled s ≡ true → Plain (sum_text s)
  sum_plain (Positive m) e = monomial_plain m e
  sum_plain (Negative m) e = monomial_plain m e
  sum_plain (Plus s m) e =
      let p = and_parts (sum_spelled s) (monomial_spelled m) e in
      joined (sum_text s) (codes " + " ++ monomial_text m) (sum_plain s p.0) (monomial_plain m p.1)
  sum_plain (Minus s m) e =
      let p = and_parts (sum_spelled s) (monomial_spelled m) e in
      joined (sum_text s) (codes " - " ++ monomial_text m) (sum_plain s p.0) (monomial_plain m p.1)

  pub polynomial_plain : (p : Polynomial) → polynomial_spelled p ≡ true → Plain (polynomial_text p)
  polynomial_plain Zero e = refl
  polynomial_plain (Of s) e = sum_plain s e

  array_plain : (a : ArrayTerm) → array_spelled a ≡ true → Plain (array_text a)
  array_plain ZeroArray e = refl
  array_plain (Bare s x) e = symbol_plain s x e
  array_plain (Written a i v) e =
      let p = and_parts (array_spelled a && polynomial_spelled i) (polynomial_spelled v) e in
      let q = and_parts (array_spelled a) (polynomial_spelled i) p.0 in
      joined (array_text a) (codes "{" ++ (polynomial_text i ++ (codes ": " ++ (polynomial_text v ++ codes "}")))) (array_plain a q.0)
      (joined (polynomial_text i) (codes ": " ++ (polynomial_text v ++ codes "}")) (polynomial_plain i q.1)
      (joined (polynomial_text v) (codes "}") (polynomial_plain v p.1) refl))

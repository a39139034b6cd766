-- Where each number is within the limit, a written term stands for what its exact numbers say.
use Rattle.std.proofs.Common.{◌≡◌, ℕ, ◌≤◌, min, nat_le, ℤ, pos, neg_ℤ, true, ◌&&◌, List, [], ◌∷◌, refl, ap, ap₂, ◌∙◌, arith}
use Rattle.std.proofs.lemmas.Bool.{and_parts, leb-true}
use Rattle.fs_model.specs.Digits.{value_of_digits}
use Rattle.nf_terms.specs.TermLimits.{weight_limit}
use Rattle.nf_trees.specs.NormalTerms as terms
use Rattle.term_text.specs.TermTexts.{Atom, Monomial, Sum, Polynomial, ArrayTerm, ListSyntax, Symbol, Read, Quotient, Remainder, Number, One, Times, Positive}
use Rattle.term_text.specs.TermTexts.{Negative, Plus, Minus, Zero, Of, ZeroArray, Bare, Written, EmptyList, BareList, Pushed}
use Rattle.term_condition_text.specs.DigitNumbers.{clipped_number}
use Rattle.term_values.specs.NameMeanings.{Find}
use Rattle.term_values.specs.Checks.{numbers_fit, factor_passes, atom_passes, monomial_passes, sum_passes, polynomial_passes, array_passes, list_passes}
use Rattle.term_values.specs.TermValues.{within_limit, exact, coefficient, atom_value, atoms_of, sum_value, polynomial_value, array_value, list_base}
use Rattle.term_values.specs.TermValues.{list_items, list_value}

unclipped : (n : ℕ) → n ≤ weight_limit → min n weight_limit ≡ n
unclipped n h = omega (arith, h)

pub number_exact : (ds : List ℕ) → nat_le (value_of_digits ds) weight_limit ≡ true → clipped_number ds ≡ value_of_digits ds
number_exact ds e = unclipped (value_of_digits ds) (leb-true (value_of_digits ds) weight_limit e)

coefficient_exact : (m : Monomial) → monomial_passes numbers_fit m ≡ true → coefficient clipped_number m ≡ coefficient value_of_digits m
coefficient_exact (Number ds) e = number_exact ds e
coefficient_exact (One a) e = refl
coefficient_exact (Times m a) e =
    coefficient_exact m
    (and_parts (monomial_passes numbers_fit m) (factor_passes numbers_fit m)
    (and_parts (monomial_passes numbers_fit m && factor_passes numbers_fit m) (atom_passes numbers_fit a) e).0).0

-- a monomial with its coefficient, before others
plus : (a b : terms.Monomial) (m n : ℕ) (sign : ℕ → ℤ) (rest : terms.Polynomial) → a ≡ b → m ≡ n → terms.Plus a (sign m) rest ≡ terms.Plus b (sign n) rest
plus a b m n sign rest e f = ap₂ (λ x k. terms.Plus x (sign k) rest) e f

mutual
  atom_exact : (find : Find) (a : Atom) → atom_passes numbers_fit a ≡ true → atom_value (within_limit find) a ≡ atom_value (exact find) a
  atom_exact find (Symbol s x) e = refl
  atom_exact find (Read a i) e = let p = and_parts (array_passes numbers_fit a) (polynomial_passes numbers_fit i) e in
      ap₂ terms.Read (array_exact find a terms.NoWrites p.0) (polynomial_exact find i p.1)
  atom_exact find (Quotient a b) e = let p = and_parts (polynomial_passes numbers_fit a) (polynomial_passes numbers_fit b) e in
      ap₂ terms.Quotient (polynomial_exact find a p.0) (polynomial_exact find b p.1)
  atom_exact find (Remainder a b) e = let p = and_parts (polynomial_passes numbers_fit a) (polynomial_passes numbers_fit b) e in
      ap₂ terms.Remainder (polynomial_exact find a p.0) (polynomial_exact find b p.1)

  atoms_exact : (find : Find) (m : Monomial) (rest : terms.Monomial) → monomial_passes numbers_fit m ≡ true
      → atoms_of (within_limit find) m rest ≡ atoms_of (exact find) m rest
  atoms_exact find (Number ds) rest e = refl
  atoms_exact find (One a) rest e = ap (λ x. terms.Times x rest) (atom_exact find a e)
  atoms_exact find (Times m a) rest e =
      let p = and_parts (monomial_passes numbers_fit m && factor_passes numbers_fit m) (atom_passes numbers_fit a) e in
      let q = and_parts (monomial_passes numbers_fit m) (factor_passes numbers_fit m) p.0 in
      ap (λ x. atoms_of (within_limit find) m (terms.Times x rest)) (atom_exact find a p.1)
      ∙ atoms_exact find m (terms.Times (atom_value (exact find) a) rest) q.0

  sum_exact : (find : Find) (s : Sum) (rest : terms.Polynomial) → sum_passes numbers_fit s ≡ true
      → sum_value (within_limit find) s rest ≡ sum_value (exact find) s rest
  sum_exact find (Positive m) rest e = plus (atoms_of (within_limit find) m terms.One) (atoms_of (exact find) m terms.One) (coefficient clipped_number m)
      (coefficient value_of_digits m) pos rest (atoms_exact find m terms.One e) (coefficient_exact m e)
  sum_exact find (Negative m) rest e = plus (atoms_of (within_limit find) m terms.One) (atoms_of (exact find) m terms.One) (coefficient clipped_number m)
      (coefficient value_of_digits m) (λ n. neg_ℤ (pos n)) rest (atoms_exact find m terms.One e) (coefficient_exact m e)
  sum_exact find (Plus s m) rest e =
      let p = and_parts (sum_passes numbers_fit s) (monomial_passes numbers_fit m) e in
      ap (sum_value (within_limit find) s)
      (plus (atoms_of (within_limit find) m terms.One) (atoms_of (exact find) m terms.One) (coefficient clipped_number m)
      (coefficient value_of_digits m) pos rest (atoms_exact find m terms.One p.1) (coefficient_exact m p.1)) ∙ sum_exact find s _ p.0
  sum_exact find (Minus s m) rest e =
      let p = and_parts (sum_passes numbers_fit s) (monomial_passes numbers_fit m) e in
      ap (sum_value (within_limit find) s)
      (plus (atoms_of (within_limit find) m terms.One) (atoms_of (exact find) m terms.One) (coefficient clipped_number m) (coefficient value_of_digits m)
      (λ n. neg_ℤ (pos n)) rest (atoms_exact find m terms.One p.1) (coefficient_exact m p.1)) ∙ sum_exact find s _ p.0

  pub polynomial_exact : (find : Find) (p : Polynomial) → polynomial_passes numbers_fit p ≡ true
      → polynomial_value (within_limit find) p ≡ polynomial_value (exact find) p
  polynomial_exact find Zero e = refl
  polynomial_exact find (Of s) e = sum_exact find s terms.Zero e

  pub array_exact : (find : Find) (a : ArrayTerm) (ws : terms.Writes) → array_passes numbers_fit a ≡ true
      → array_value (within_limit find) a ws ≡ array_value (exact find) a ws
  array_exact find ZeroArray ws e = refl
  array_exact find (Bare s x) ws e = refl
  array_exact find (Written a i v) ws e =
      let p = and_parts (array_passes numbers_fit a && polynomial_passes numbers_fit i) (polynomial_passes numbers_fit v) e in
      let q = and_parts (array_passes numbers_fit a) (polynomial_passes numbers_fit i) p.0 in
      ap₂ (λ x y. array_value (within_limit find) a (terms.Write x y ws)) (polynomial_exact find i q.1) (polynomial_exact find v p.1) ∙ array_exact find a _ q.0

base_exact : (find : Find) (l : ListSyntax) → list_base (within_limit find) l ≡ list_base (exact find) l
base_exact find EmptyList = refl
base_exact find (BareList s x) = refl
base_exact find (Pushed l p) = base_exact find l

items_exact : (find : Find) (l : ListSyntax) (rest : List terms.Polynomial) → list_passes numbers_fit l ≡ true
    → list_items (within_limit find) l rest ≡ list_items (exact find) l rest
items_exact find EmptyList rest e = refl
items_exact find (BareList s x) rest e = refl
items_exact find (Pushed l p) rest e =
    let q = and_parts (list_passes numbers_fit l) (polynomial_passes numbers_fit p) e in
    ap (λ x. list_items (within_limit find) l (x ∷ rest)) (polynomial_exact find p q.1) ∙ items_exact find l _ q.0

pub list_exact : (find : Find) (l : ListSyntax) → list_passes numbers_fit l ≡ true → list_value (within_limit find) l ≡ list_value (exact find) l
list_exact find l e = λ k. record { base = base_exact find l k; items = items_exact find l [] e k }

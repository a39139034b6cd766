-- A term is what its written form means, and its written form can be spelled.
use Rattle.std.proofs.Common.{◌≡◌, ℕ, ◌+◌, ◌/◌, ◌%◌, ◌^◌, ◌<◌, ◌≤◌, ◌==◌, ℤ, pos, negsuc, neg_ℤ, Bool, true, false, not, cond, ◌&&◌, List, [], ◌∷◌, ◌++◌}
use Rattle.std.proofs.Common.{decimal, refl, sym, ap, ap₂, ◌∙◌, arith, lit<, lt_trans}
use Rattle.std.specs.Prelude.{unsigned_abs}
use Rattle.std.specs.List.{list_all}
use Rattle.std.proofs.lemmas.Bool.{eqb-true, and_parts, and_from}
use Rattle.std.proofs.lemmas.Bool.Decides.{nat_tests}
use Rattle.std.proofs.lemmas.Fmt.{decimal_by_steps_wide}
use Rattle.std.proofs.lemmas.List.Sums.{fold-append}
use Rattle.fs_model.proofs.Quantifiers.{list_all_push}
use Rattle.fs_model.specs.Digits.{with_digit, value_of_digits}
use Rattle.fs_model.specs.Words.{is_digit}
use Rattle.fs_model.specs.declared.sides.Pos.{Pos}
use Rattle.nf_trees.specs.declared.tree.Base.TheVariants as bases
use Rattle.nf_trees.specs.NormalTerms as terms
use Rattle.term_text.specs.TermTexts.{Atom, Monomial, Sum, ArrayTerm, Number, One, Times, ZeroArray, Bare, Written}
use Rattle.term_text.specs.SpellableTerms.{is_number_text}
use Rattle.term_text.proofs.Sound.{number_more}
use Rattle.nf_trees.specs.Measures.{weight_of}
use Rattle.nf_terms.specs.Normal.{narrow_atom, narrow_monomial, narrow_inside, narrow_writes, narrow_array, is_light}
use Rattle.term_values.specs.NameMeanings.{Find, position_meant}
use Rattle.term_writer.specs.NamedSymbols.{IsNamed, OfAtom, OfMonomial, OfPolynomial, OfWrites, OfArray}
use Rattle.term_writer.specs.WrittenTerms.{sum_of_term, sum_with_term, atom_written, times_written, monomial_written, sum_written, polynomial_written}
use Rattle.term_writer.specs.WrittenTerms.{writes_written}
use Rattle.term_writer.specs.WrittenTerms.{array_written}
use Rattle.term_values.specs.TermValues.{exact, coefficient, atom_value, atoms_of, sum_value, polynomial_value, array_value}
use Rattle.term_writer.proofs.Bound.{light_is}

-- ---- numbers

pub record NumberOf (n : ℕ) (ds : List ℕ) : Type 0 where
  pub digits : list_all is_digit ds ≡ true
  pub value : value_of_digits ds ≡ n
  pub positive : 0 < n → is_number_text ds ≡ true

digit_is : (n : ℕ) → n < 10 → is_digit (48 + n) ≡ true
digit_is n h = grind (arith, nat_tests)

not_zero : (n : ℕ) → 0 < n → not ((48 + n) == 48) ≡ true
not_zero n h = grind (arith, nat_tests)

one_digit : (n : ℕ) → n < 10 → NumberOf n ((48 + n) ∷ [])
one_digit n h = record {
  digits = and_from (is_digit (48 + n)) true (digit_is n h) refl;
  value = omega arith;
  positive = λ some. and_from (is_digit (48 + n) && not ((48 + n) == 48)) true
      (and_from (is_digit (48 + n)) (not ((48 + n) == 48)) (digit_is n h) (not_zero n some)) refl;
}

more_digits : (n : ℕ) (ds : List ℕ) → 10 ≤ n → NumberOf (n / 10) ds → NumberOf n (ds ++ ((48 + n % 10) ∷ []))
more_digits n ds h e = record {
  digits = list_all_push is_digit ds (48 + n % 10) e.digits (digit_is (n % 10) (omega arith));
  value = fold-append with_digit 0 ds ((48 + n % 10) ∷ []) ∙ rw e.value (omega arith);
  positive = λ some. number_more ds (48 + n % 10) (digit_is (n % 10) (omega arith)) (e.positive (omega (arith, h)));
}

pub digits_of : (n : ℕ) → n < 2 ^ 127 → NumberOf n (decimal n)
digits_of n h = decimal_by_steps_wide NumberOf one_digit more_digits n (lt_trans h (lit< tt))

-- ---- back to the term

coefficient_times : (name : Pos → List ℕ) (w : Monomial) (m : terms.Monomial)
    → coefficient value_of_digits (times_written name w m) ≡ coefficient value_of_digits w
coefficient_times name w terms.One = refl
coefficient_times name w (terms.Times a m) = coefficient_times name (Times w (atom_written name a)) m

coefficient_head : (b : Bool) (n : ℕ) (a : Atom) → n < 2 ^ 127 → (b ≡ true → n ≡ 1)
    → coefficient value_of_digits (cond b (One a) (Times (Number (decimal n)) a)) ≡ n
coefficient_head true n a h e = sym (e refl)
coefficient_head false n a h e = (digits_of n h).value

coefficient_back : (name : Pos → List ℕ) (n : ℕ) (m : terms.Monomial) → n < 2 ^ 127 → coefficient value_of_digits (monomial_written name n m) ≡ n
coefficient_back name n terms.One h = (digits_of n h).value
coefficient_back name n (terms.Times a m) h =
    coefficient_times name (cond (n == 1) (One (atom_written name a)) (Times (Number (decimal n)) (atom_written name a))) m
    ∙ coefficient_head (n == 1) n (atom_written name a) h (λ e. eqb-true n 1 e)

head_atoms : (find : Find) (b : Bool) (ds : List ℕ) (a : Atom) (m : terms.Monomial)
    → atoms_of (exact find) (cond b (One a) (Times (Number ds) a)) m ≡ terms.Times (atom_value (exact find) a) m
head_atoms find true ds a m = refl
head_atoms find false ds a m = refl

begun_back : (find : Find) (c : ℤ) (w : Monomial) (p : terms.Polynomial) → coefficient value_of_digits w ≡ unsigned_abs c
    → sum_value (exact find) (sum_of_term c w) p ≡ terms.Plus (atoms_of (exact find) w terms.One) c p
begun_back find (pos n) w p e = ap (λ k. terms.Plus (atoms_of (exact find) w terms.One) (pos k) p) e
begun_back find (negsuc n) w p e = ap (λ k. terms.Plus (atoms_of (exact find) w terms.One) (neg_ℤ (pos k)) p) e

continued_back : (find : Find) (s : Sum) (c : ℤ) (w : Monomial) (p : terms.Polynomial) → coefficient value_of_digits w ≡ unsigned_abs c
    → sum_value (exact find) (sum_with_term s c w) p ≡ sum_value (exact find) s (terms.Plus (atoms_of (exact find) w terms.One) c p)
continued_back find s (pos n) w p e = ap (λ k. sum_value (exact find) s (terms.Plus (atoms_of (exact find) w terms.One) (pos k) p)) e
continued_back find s (negsuc n) w p e = ap (λ k. sum_value (exact find) s (terms.Plus (atoms_of (exact find) w terms.One) (neg_ℤ (pos k)) p)) e

mutual
  atom_back : (name : Pos → List ℕ) (find : Find) (a : terms.Atom) → OfAtom (IsNamed name find) a → narrow_atom a ≡ true
      → atom_value (exact find) (atom_written name a) ≡ a
  atom_back name find (terms.Symbol p) f e = ap terms.Symbol (ap position_meant f.found)
  atom_back name find (terms.Read a i) f e =
      let p = and_parts (narrow_array a && is_light i) (narrow_inside i) e in
      let q = and_parts (narrow_array a) (is_light i) p.0 in
      ap₂ terms.Read (array_back name find a f.0 q.0) (polynomial_back name find i f.1 q.1 p.1)
  atom_back name find (terms.Quotient a b) f e =
      let p = and_parts (is_light a && narrow_inside a && is_light b) (narrow_inside b) e in
      let q = and_parts (is_light a && narrow_inside a) (is_light b) p.0 in
      let r = and_parts (is_light a) (narrow_inside a) q.0 in
      ap₂ terms.Quotient (polynomial_back name find a f.0 r.0 r.1) (polynomial_back name find b f.1 q.1 p.1)
  atom_back name find (terms.Remainder a b) f e =
      let p = and_parts (is_light a && narrow_inside a && is_light b) (narrow_inside b) e in
      let q = and_parts (is_light a && narrow_inside a) (is_light b) p.0 in
      let r = and_parts (is_light a) (narrow_inside a) q.0 in
      ap₂ terms.Remainder (polynomial_back name find a f.0 r.0 r.1) (polynomial_back name find b f.1 q.1 p.1)

  times_back : (name : Pos → List ℕ) (find : Find) (w : Monomial) (m : terms.Monomial) → OfMonomial (IsNamed name find) m → narrow_monomial m ≡ true
      → atoms_of (exact find) (times_written name w m) terms.One ≡ atoms_of (exact find) w m
  times_back name find w terms.One f e = refl
  times_back name find w (terms.Times a m) f e =
      let p = and_parts (narrow_atom a) (narrow_monomial m) e in
      times_back name find (Times w (atom_written name a)) m f.1 p.1 ∙ ap (λ b. atoms_of (exact find) w (terms.Times b m)) (atom_back name find a f.0 p.0)

  monomial_back : (name : Pos → List ℕ) (find : Find) (n : ℕ) (m : terms.Monomial) → OfMonomial (IsNamed name find) m → narrow_monomial m ≡ true
      → atoms_of (exact find) (monomial_written name n m) terms.One ≡ m
  monomial_back name find n terms.One f e = refl
  monomial_back name find n (terms.Times a m) f e =
      let p = and_parts (narrow_atom a) (narrow_monomial m) e in
      times_back name find (cond (n == 1) (One (atom_written name a)) (Times (Number (decimal n)) (atom_written name a))) m f.1 p.1
      ∙ head_atoms find (n == 1) (decimal n) (atom_written name a) m ∙ ap (λ b. terms.Times b m) (atom_back name find a f.0 p.0)

  sum_back : (name : Pos → List ℕ) (find : Find) (s : Sum) (p : terms.Polynomial) → OfPolynomial (IsNamed name find) p → weight_of p < 2 ^ 127
      → narrow_inside p ≡ true → sum_value (exact find) (sum_written name s p) terms.Zero ≡ sum_value (exact find) s p
  sum_back name find s terms.Zero f l e = refl
  sum_back name find s (terms.Plus m c p) f l e =
      let q = and_parts (narrow_monomial m) (narrow_inside p) e in
      let w = monomial_written name (unsigned_abs c) m in
      sum_back name find (sum_with_term s c w) p f.1 (omega (arith, l)) q.1
      ∙ continued_back find s c w p (coefficient_back name (unsigned_abs c) m (omega (arith, l)))
      ∙ ap (λ n. sum_value (exact find) s (terms.Plus n c p)) (monomial_back name find (unsigned_abs c) m f.0 q.0)

  pub polynomial_back :
      (name : Pos → List ℕ) (find : Find) (p : terms.Polynomial) → OfPolynomial (IsNamed name find) p → is_light p ≡ true
      → narrow_inside p ≡ true → polynomial_value (exact find) (polynomial_written name p) ≡ p
  polynomial_back name find terms.Zero f l e = refl
  polynomial_back name find (terms.Plus m c p) f l e =
      let q = and_parts (narrow_monomial m) (narrow_inside p) e in
      let t = light_is (terms.Plus m c p) l in
      let w = monomial_written name (unsigned_abs c) m in
      sum_back name find (sum_of_term c w) p f.1 (omega (arith, t)) q.1
      ∙ begun_back find c w p (coefficient_back name (unsigned_abs c) m (omega (arith, t)))
      ∙ ap (λ n. terms.Plus n c p) (monomial_back name find (unsigned_abs c) m f.0 q.0)

  writes_back : (name : Pos → List ℕ) (find : Find) (w : ArrayTerm) (ws : terms.Writes) → OfWrites (IsNamed name find) ws → narrow_writes ws ≡ true
      → array_value (exact find) (writes_written name w ws) terms.NoWrites ≡ array_value (exact find) w ws
  writes_back name find w terms.NoWrites f e = refl
  writes_back name find w (terms.Write i v ws) f e =
      let p = and_parts (is_light i && narrow_inside i && is_light v && narrow_inside v) (narrow_writes ws) e in
      let q = and_parts (is_light i && narrow_inside i && is_light v) (narrow_inside v) p.0 in
      let r = and_parts (is_light i && narrow_inside i) (is_light v) q.0 in
      let s = and_parts (is_light i) (narrow_inside i) r.0 in
      writes_back name find (Written w (polynomial_written name i) (polynomial_written name v)) ws f.1.1 p.1
      ∙ ap₂ (λ a b. array_value (exact find) w (terms.Write a b ws)) (polynomial_back name find i f.0 s.0 s.1) (polynomial_back name find v f.1.0 r.1 q.1)

  pub array_back : (name : Pos → List ℕ) (find : Find) (a : terms.ArrayTerm) → OfArray (IsNamed name find) a → narrow_array a ≡ true
      → array_value (exact find) (array_written name a) terms.NoWrites ≡ a
  array_back name find (terms.Over bases.Zero ws) f e = writes_back name find ZeroArray ws f.1 e
  array_back name find (terms.Over (bases.Sym p) ws) f e = writes_back name find (Bare p.side (name p)) ws f.1 e
      ∙ ap (λ q. terms.Over (bases.Sym q) ws) (ap position_meant f.0.found)

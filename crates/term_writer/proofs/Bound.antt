-- How many bytes a written term has.
use Rattle.std.proofs.Common.{◌≡◌, ℕ, ◌+◌, ◌*◌, ◌^◌, ◌<◌, ◌≤◌, ◌==◌, ℤ, pos, negsuc, Bool, true, false, cond, ◌&&◌, List, ◌++◌, length, length-append, decimal}
use Rattle.std.proofs.Common.{codes, arith, lit<, lt_trans}
use Rattle.std.specs.Prelude.{unsigned_abs}
use Rattle.std.proofs.lemmas.Bool.Decides.{nat_tests}
use Rattle.std.proofs.lemmas.Fmt.{length-decimal-le_wide}
use Rattle.std.proofs.lemmas.Bool.{and_parts}
use Rattle.fs_model.specs.declared.sides.Pos.{Pos}
use Rattle.fs_model.specs.declared.sides.Side.{Side}
use Rattle.fs_model.specs.declared.sides.Side.TheVariants as sides
use Rattle.nf_trees.specs.declared.tree.Base.TheVariants as bases
use Rattle.nf_trees.specs.NormalTerms as terms
use Rattle.nf_trees.specs.Measures.{size_of_atom, size_of_monomial, size_of, size_of_writes, size_of_array, weight_of}
use Rattle.nf_terms.specs.Normal.{narrow_atom, narrow_monomial, narrow_inside, narrow_writes, narrow_array, is_light}
use Rattle.term_text.specs.TermTexts.{Atom, Monomial, Sum, ArrayTerm, Number, One, Times, ZeroArray, Bare, Written, symbol_text, atom_text, monomial_text}
use Rattle.term_text.specs.TermTexts.{sum_text, polynomial_text, array_text}
use Rattle.term_writer.specs.NamedSymbols.{IsShort, OfAtom, OfMonomial, OfPolynomial, OfWrites, OfArray}
use Rattle.term_writer.specs.WrittenTerms.{sum_of_term, sum_with_term, atom_written, times_written, monomial_written, sum_written, polynomial_written}
use Rattle.term_writer.specs.WrittenTerms.{writes_written}
use Rattle.term_writer.specs.WrittenTerms.{array_written}

pub light_is : (p : terms.Polynomial) → is_light p ≡ true → weight_of p < 2 ^ 127
light_is p e = grind (arith, nat_tests)

pub short_number : (n : ℕ) → n < 2 ^ 127 → length (decimal n) ≤ 39
short_number n h = length-decimal-le_wide 39 n (lit< tt) (lt_trans h (lit< tt)) (lt_trans h (lit< tt))

pub symbol_short : (s : Side) (x : List ℕ) → length x ≤ 32 → length (symbol_text s x) ≤ 34
symbol_short sides.Left x h = omega (arith, h)
symbol_short sides.Right x h = omega (arith, h)

-- lengths of texts in parts
two : (a b : List ℕ) → length (a ++ b) ≡ length a + length b
two a b = length-append a b

pub three : (a b c : List ℕ) → length (a ++ (b ++ c)) ≡ length a + length b + length c
three a b c = omega (arith, length-append a (b ++ c), length-append b c)

pub four : (a b c d : List ℕ) → length (a ++ (b ++ (c ++ d))) ≡ length a + length b + length c + length d
four a b c d = omega (arith, three a b (c ++ d), length-append c d)

five : (a b c d e : List ℕ) → length (a ++ (b ++ (c ++ (d ++ e)))) ≡ length a + length b + length c + length d + length e
five a b c d e = omega (arith, four a b c (d ++ e), length-append d e)

begun_bound : (c : ℤ) (m : Monomial) → length (sum_text (sum_of_term c m)) ≤ 1 + length (monomial_text m)
begun_bound (pos n) m = omega arith
begun_bound (negsuc n) m = omega arith

continued_bound : (s : Sum) (c : ℤ) (m : Monomial) → length (sum_text (sum_with_term s c m)) ≤ length (sum_text s) + 3 + length (monomial_text m)
continued_bound s (pos n) m = omega (arith, three (sum_text s) (codes " + ") (monomial_text m))
continued_bound s (negsuc n) m = omega (arith, three (sum_text s) (codes " - ") (monomial_text m))

head_bound : (b : Bool) (n : ℕ) (a : Atom) → n < 2 ^ 127 → length (monomial_text (cond b (One a) (Times (Number (decimal n)) a))) ≤ 40 + length (atom_text a)
head_bound true n a h = omega arith
head_bound false n a h = omega (arith, three (decimal n) (codes "*") (atom_text a), short_number n h)

mutual
  atom_bound : (name : Pos → List ℕ) (a : terms.Atom) → OfAtom (IsShort name) a → narrow_atom a ≡ true
      → length (atom_text (atom_written name a)) + 1 ≤ 47 * size_of_atom a
  atom_bound name (terms.Symbol p) h e = omega (arith, symbol_short p.side (name p) h)
  atom_bound name (terms.Read a i) h e =
      let p = and_parts (narrow_array a && is_light i) (narrow_inside i) e in
      let q = and_parts (narrow_array a) (is_light i) p.0 in
      omega (
        arith,
        four (array_text (array_written name a)) (codes "[") (polynomial_text (polynomial_written name i)) (codes "]"),
        array_bound name a h.0 q.0,
        polynomial_bound name i h.1 q.1 p.1,
      )
  atom_bound name (terms.Quotient a b) h e =
      let p = and_parts (is_light a && narrow_inside a && is_light b) (narrow_inside b) e in
      let q = and_parts (is_light a && narrow_inside a) (is_light b) p.0 in
      let r = and_parts (is_light a) (narrow_inside a) q.0 in
      omega (
        arith,
        five (codes "div(") (polynomial_text (polynomial_written name a)) (codes ", ") (polynomial_text (polynomial_written name b)) (codes ")"),
        polynomial_bound name a h.0 r.0 r.1,
        polynomial_bound name b h.1 q.1 p.1,
      )
  atom_bound name (terms.Remainder a b) h e =
      let p = and_parts (is_light a && narrow_inside a && is_light b) (narrow_inside b) e in
      let q = and_parts (is_light a && narrow_inside a) (is_light b) p.0 in
      let r = and_parts (is_light a) (narrow_inside a) q.0 in
      omega (
        arith,
        five (codes "rem(") (polynomial_text (polynomial_written name a)) (codes ", ") (polynomial_text (polynomial_written name b)) (codes ")"),
        polynomial_bound name a h.0 r.0 r.1,
        polynomial_bound name b h.1 q.1 p.1,
      )

  times_bound : (name : Pos → List ℕ) (w : Monomial) (m : terms.Monomial) → OfMonomial (IsShort name) m → narrow_monomial m ≡ true
      → length (monomial_text (times_written name w m)) ≤ length (monomial_text w) + 47 * size_of_monomial m
  times_bound name w terms.One h e = omega arith
  times_bound name w (terms.Times a m) h e =
      let p = and_parts (narrow_atom a) (narrow_monomial m) e in
      omega (
        arith,
        times_bound name (Times w (atom_written name a)) m h.1 p.1,
        three (monomial_text w) (codes "*") (atom_text (atom_written name a)),
        atom_bound name a h.0 p.0,
      )

  monomial_bound : (name : Pos → List ℕ) (n : ℕ) (m : terms.Monomial) → OfMonomial (IsShort name) m → n < 2 ^ 127 → narrow_monomial m ≡ true
      → length (monomial_text (monomial_written name n m)) ≤ 40 + 47 * size_of_monomial m
  monomial_bound name n terms.One h small e = omega (arith, short_number n small)
  monomial_bound name n (terms.Times a m) h small e =
      let p = and_parts (narrow_atom a) (narrow_monomial m) e in
      let first : Monomial = cond (n == 1) (One (atom_written name a)) (Times (Number (decimal n)) (atom_written name a)) in
      omega (arith, times_bound name first m h.1 p.1, head_bound (n == 1) n (atom_written name a) small, atom_bound name a h.0 p.0)

  sum_bound : (name : Pos → List ℕ) (s : Sum) (p : terms.Polynomial) → OfPolynomial (IsShort name) p → weight_of p < 2 ^ 127 → narrow_inside p ≡ true
      → length (sum_text (sum_written name s p)) ≤ length (sum_text s) + 47 * size_of p
  sum_bound name s terms.Zero h light e = omega arith
  sum_bound name s (terms.Plus m c p) h light e =
      let q = and_parts (narrow_monomial m) (narrow_inside p) e in
      let w = monomial_written name (unsigned_abs c) m in
      omega (
        arith,
        sum_bound name (sum_with_term s c w) p h.1 (omega (arith, light)) q.1,
        continued_bound s c w,
        monomial_bound name (unsigned_abs c) m h.0 (omega (arith, light)) q.0,
      )

  pub polynomial_bound : (name : Pos → List ℕ) (p : terms.Polynomial) → OfPolynomial (IsShort name) p → is_light p ≡ true → narrow_inside p ≡ true
      → length (polynomial_text (polynomial_written name p)) ≤ 1 + 47 * size_of p
  polynomial_bound name terms.Zero h light e = omega arith
  polynomial_bound name (terms.Plus m c p) h light e =
      let q = and_parts (narrow_monomial m) (narrow_inside p) e in
      let l = light_is (terms.Plus m c p) light in
      let w = monomial_written name (unsigned_abs c) m in
      omega (
        arith,
        sum_bound name (sum_of_term c w) p h.1 (omega (arith, l)) q.1,
        begun_bound c w,
        monomial_bound name (unsigned_abs c) m h.0 (omega (arith, l)) q.0,
      )

  writes_bound : (name : Pos → List ℕ) (w : ArrayTerm) (ws : terms.Writes) → OfWrites (IsShort name) ws → narrow_writes ws ≡ true
      → length (array_text (writes_written name w ws)) ≤ length (array_text w) + 47 * size_of_writes ws
  writes_bound name w terms.NoWrites h e = omega arith
  writes_bound name w (terms.Write i v ws) h e =
      let p = and_parts (is_light i && narrow_inside i && is_light v && narrow_inside v) (narrow_writes ws) e in
      let q = and_parts (is_light i && narrow_inside i && is_light v) (narrow_inside v) p.0 in
      let r = and_parts (is_light i && narrow_inside i) (is_light v) q.0 in
      let s = and_parts (is_light i) (narrow_inside i) r.0 in
      omega (
        arith,
        writes_bound name (Written w (polynomial_written name i) (polynomial_written name v)) ws h.1.1 p.1,
        four (array_text w) (codes "{") (polynomial_text (polynomial_written name i))
            (codes ": " ++ (polynomial_text (polynomial_written name v) ++ codes "}")),
        three (codes ": ") (polynomial_text (polynomial_written name v)) (codes "}"),
        polynomial_bound name i h.0 s.0 s.1,
        polynomial_bound name v h.1.0 r.1 q.1,
      )

  pub array_bound : (name : Pos → List ℕ) (a : terms.ArrayTerm) → OfArray (IsShort name) a → narrow_array a ≡ true
      → length (array_text (array_written name a)) ≤ 47 * size_of_array a
  array_bound name (terms.Over bases.Zero ws) h e = omega (arith, writes_bound name ZeroArray ws h.1 e)
  array_bound name (terms.Over (bases.Sym p) ws) h e = omega (arith, writes_bound name (Bare p.side (name p)) ws h.1 e, symbol_short p.side (name p) h.0)

-- a polynomial that is not 0, whose first monomial has the sign of one byte at most
pub some_bound : (name : Pos → List ℕ) (m : terms.Monomial) (c : ℤ) (p : terms.Polynomial) → OfPolynomial (IsShort name) (terms.Plus m c p)
    → is_light (terms.Plus m c p) ≡ true → narrow_inside (terms.Plus m c p) ≡ true
    → length (polynomial_text (polynomial_written name (terms.Plus m c p))) + 6 ≤ 47 * size_of (terms.Plus m c p)
some_bound name m c p h light e =
    let q = and_parts (narrow_monomial m) (narrow_inside p) e in
    let l = light_is (terms.Plus m c p) light in
    let w = monomial_written name (unsigned_abs c) m in
    omega (
      arith,
      sum_bound name (sum_of_term c w) p h.1 (omega (arith, l)) q.1,
      begun_bound c w,
      monomial_bound name (unsigned_abs c) m h.0 (omega (arith, l)) q.0,
    )

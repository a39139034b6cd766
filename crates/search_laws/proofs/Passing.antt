-- What is written for a normal term passes each test that its numbers and names pass.
use Rattle.std.proofs.Common.{◌≡◌, ◌≢◌, ℕ, zero, suc, ◌^◌, ◌<◌, ◌==◌, ℤ, pos, negsuc, Bool, true, false, cond, ◌&&◌, List, [], ◌∷◌, decimal, refl, arith}
use Rattle.std.specs.Prelude.{unsigned_abs}
use Rattle.std.proofs.lemmas.Bool.{eq-eqb, and_parts, and_from}
use Rattle.fs_model.specs.declared.sides.Pos.{Pos}
use Rattle.nf_trees.specs.declared.tree.Base.TheVariants as bases
use Rattle.nf_terms.specs.declared.tree.SeqBase.{SeqBase}
use Rattle.nf_terms.specs.declared.tree.SeqBase.TheVariants as list_bases
use Rattle.nf_terms.specs.declared.symbols.Sort.{Sort}
use Rattle.nf_terms.specs.declared.symbols.Sort.TheVariants as sort
use Rattle.nf_trees.specs.NormalTerms as terms
use Rattle.nf_terms.specs.Lists as lists
use Rattle.nf_terms.specs.Lists.{AreNormalItems}
use Rattle.nf_trees.specs.Measures.{weight_of}
use Rattle.nf_terms.specs.Normal.{narrow_atom, narrow_monomial, narrow_inside, narrow_writes, narrow_array, is_light}
use Rattle.term_text.specs.TermTexts.{Atom, Monomial, Sum, ArrayTerm, ListSyntax, Number, One, Times, ZeroArray, Bare, Written, Pushed}
use Rattle.term_values.specs.Checks.{Test, factor_passes, atom_passes, monomial_passes, sum_passes, polynomial_passes, array_passes, list_passes}
use Rattle.term_values.specs.Conditions.{integer_passes}
use Rattle.term_writer.specs.NamedSymbols.{OfAtom, OfMonomial, OfPolynomial, OfWrites, OfArray, OfListBase, OfItems, OfList}
use Rattle.term_writer.specs.WrittenTerms.{sum_of_term, sum_with_term, atom_written, times_written, monomial_written, sum_written, polynomial_written}
use Rattle.term_writer.specs.WrittenTerms.{writes_written}
use Rattle.term_writer.specs.WrittenTerms.{array_written, items_written, list_base_written, list_written, integer_written}
use Rattle.term_writer.proofs.Bound.{light_is}

module _ (name : Pos → List ℕ) (t : Test) (P : Sort → Pos → Type 0) (names : (s : Sort) (p : Pos) → P s p → t.name s p.side (name p) ≡ true)
    (numbers : (n : ℕ) → n < 2 ^ 127 → t.number (decimal n) ≡ true) (factors : (n : ℕ) → n < 2 ^ 127 → n ≢ 1 → t.factor (decimal n) ≡ true) where
  head_passes : (b : Bool) (ds : List ℕ) (a : Atom) → t.number ds ≡ true → (b ≡ false → t.factor ds ≡ true) → atom_passes t a ≡ true
      → monomial_passes t (cond b (One a) (Times (Number ds) a)) ≡ true
  head_passes true ds a n f e = e
  head_passes false ds a n f e = and_from (t.number ds && t.factor ds) (atom_passes t a) (and_from (t.number ds) (t.factor ds) n (f refl)) e

  head_free : (b : Bool) (ds : List ℕ) (a : Atom) → factor_passes t (cond b (One a) (Times (Number ds) a)) ≡ true
  head_free true ds a = refl
  head_free false ds a = refl

  not_one : (n : ℕ) → (n == 1) ≡ false → n ≢ 1
  not_one n e f = let g : (n == 1) ≡ true = eq-eqb n 1 f in absurd (cc (e, g))

  begun_passes : (c : ℤ) (m : Monomial) → monomial_passes t m ≡ true → sum_passes t (sum_of_term c m) ≡ true
  begun_passes (pos n) m e = e
  begun_passes (negsuc n) m e = e

  continued_passes : (s : Sum) (c : ℤ) (m : Monomial) → sum_passes t s ≡ true → monomial_passes t m ≡ true → sum_passes t (sum_with_term s c m) ≡ true
  continued_passes s (pos n) m e f = and_from (sum_passes t s) (monomial_passes t m) e f
  continued_passes s (negsuc n) m e f = and_from (sum_passes t s) (monomial_passes t m) e f

  mutual
    atom_passed : (a : terms.Atom) → OfAtom P a → narrow_atom a ≡ true → atom_passes t (atom_written name a) ≡ true
    atom_passed (terms.Symbol p) h e = names sort.Scalar p h
    atom_passed (terms.Read a i) h e =
        let p = and_parts (narrow_array a && is_light i) (narrow_inside i) e in
        let q = and_parts (narrow_array a) (is_light i) p.0 in
        and_from (array_passes t (array_written name a)) (polynomial_passes t (polynomial_written name i)) (array_passed a h.0 q.0)
        (polynomial_passed i h.1 q.1 p.1)
    atom_passed (terms.Quotient a b) h e =
        let p = and_parts (is_light a && narrow_inside a && is_light b) (narrow_inside b) e in
        let q = and_parts (is_light a && narrow_inside a) (is_light b) p.0 in
        let r = and_parts (is_light a) (narrow_inside a) q.0 in
        and_from (polynomial_passes t (polynomial_written name a)) (polynomial_passes t (polynomial_written name b)) (polynomial_passed a h.0 r.0 r.1)
        (polynomial_passed b h.1 q.1 p.1)
    atom_passed (terms.Remainder a b) h e =
        let p = and_parts (is_light a && narrow_inside a && is_light b) (narrow_inside b) e in
        let q = and_parts (is_light a && narrow_inside a) (is_light b) p.0 in
        let r = and_parts (is_light a) (narrow_inside a) q.0 in
        and_from (polynomial_passes t (polynomial_written name a)) (polynomial_passes t (polynomial_written name b)) (polynomial_passed a h.0 r.0 r.1)
        (polynomial_passed b h.1 q.1 p.1)

    times_passed : (w : Monomial) (m : terms.Monomial) → OfMonomial P m → monomial_passes t w ≡ true → factor_passes t w ≡ true → narrow_monomial m ≡ true
        → monomial_passes t (times_written name w m) ≡ true
    times_passed w terms.One h e f n = e
    times_passed w (terms.Times a m) h e f n =
        let p = and_parts (narrow_atom a) (narrow_monomial m) n in
        let front = and_from (monomial_passes t w) (factor_passes t w) e f in
        times_passed (Times w (atom_written name a)) m h.1
        (and_from (monomial_passes t w && factor_passes t w) (atom_passes t (atom_written name a)) front (atom_passed a h.0 p.0)) refl p.1

    monomial_passed : (n : ℕ) (m : terms.Monomial) → OfMonomial P m → n < 2 ^ 127 → narrow_monomial m ≡ true
        → monomial_passes t (monomial_written name n m) ≡ true
    monomial_passed n terms.One h l e = numbers n l
    monomial_passed n (terms.Times a m) h l e =
        let p = and_parts (narrow_atom a) (narrow_monomial m) e in
        times_passed (cond (n == 1) (One (atom_written name a)) (Times (Number (decimal n)) (atom_written name a))) m h.1
        (head_passes (n == 1) (decimal n) (atom_written name a) (numbers n l) (λ z. factors n l (not_one n z)) (atom_passed a h.0 p.0))
        (head_free (n == 1) (decimal n) (atom_written name a)) p.1

    sum_passed : (s : Sum) (p : terms.Polynomial) → OfPolynomial P p → sum_passes t s ≡ true → weight_of p < 2 ^ 127 → narrow_inside p ≡ true
        → sum_passes t (sum_written name s p) ≡ true
    sum_passed s terms.Zero h f l e = f
    sum_passed s (terms.Plus m c p) h f l e =
        let q = and_parts (narrow_monomial m) (narrow_inside p) e in
        let w = monomial_written name (unsigned_abs c) m in
        sum_passed (sum_with_term s c w) p h.1 (continued_passes s c w f (monomial_passed (unsigned_abs c) m h.0 (omega (arith, l)) q.0)) (omega (arith, l)) q.1

    pub polynomial_passed : (p : terms.Polynomial) → OfPolynomial P p → is_light p ≡ true → narrow_inside p ≡ true
        → polynomial_passes t (polynomial_written name p) ≡ true
    polynomial_passed terms.Zero h l e = refl
    polynomial_passed (terms.Plus m c p) h l e =
        let q = and_parts (narrow_monomial m) (narrow_inside p) e in
        let k = light_is (terms.Plus m c p) l in
        let w = monomial_written name (unsigned_abs c) m in
        sum_passed (sum_of_term c w) p h.1 (begun_passes c w (monomial_passed (unsigned_abs c) m h.0 (omega (arith, k)) q.0)) (omega (arith, k)) q.1

    writes_passed : (w : ArrayTerm) (ws : terms.Writes) → OfWrites P ws → array_passes t w ≡ true → narrow_writes ws ≡ true
        → array_passes t (writes_written name w ws) ≡ true
    writes_passed w terms.NoWrites h f e = f
    writes_passed w (terms.Write i v ws) h f e =
        let p = and_parts (is_light i && narrow_inside i && is_light v && narrow_inside v) (narrow_writes ws) e in
        let q = and_parts (is_light i && narrow_inside i && is_light v) (narrow_inside v) p.0 in
        let r = and_parts (is_light i && narrow_inside i) (is_light v) q.0 in
        let s = and_parts (is_light i) (narrow_inside i) r.0 in
        let front = and_from (array_passes t w) (polynomial_passes t (polynomial_written name i)) f (polynomial_passed i h.0 s.0 s.1) in
        writes_passed (Written w (polynomial_written name i) (polynomial_written name v)) ws h.1.1
        (and_from (array_passes t w && polynomial_passes t (polynomial_written name i))
        (polynomial_passes t (polynomial_written name v)) front (polynomial_passed v h.1.0 r.1 q.1)) p.1

    pub array_passed : (a : terms.ArrayTerm) → OfArray P a → narrow_array a ≡ true → array_passes t (array_written name a) ≡ true
    array_passed (terms.Over bases.Zero ws) h e = writes_passed ZeroArray ws h.1 refl e
    array_passed (terms.Over (bases.Sym p) ws) h e = writes_passed (Bare p.side (name p)) ws h.1 (names sort.Array p h.0) e

  items_passed : (w : ListSyntax) (ps : List terms.Polynomial) → OfItems P ps → AreNormalItems ps → list_passes t w ≡ true
      → list_passes t (items_written name w ps) ≡ true
  items_passed w [] h n e = e
  items_passed w (p ∷ ps) h n e =
      let l = and_parts (is_light p) (narrow_inside p) n.0.narrow in
      items_passed (Pushed w (polynomial_written name p)) ps h.1 n.1
      (and_from (list_passes t w) (polynomial_passes t (polynomial_written name p)) e (polynomial_passed p h.0 l.0 l.1))

  list_base_passed : (b : SeqBase) → OfListBase P b → list_passes t (list_base_written name b) ≡ true
  list_base_passed list_bases.Empty h = refl
  list_base_passed (list_bases.Sym p) h = names sort.List p h

  pub list_passed : (l : lists.ListTerm) → OfList P l → AreNormalItems l.items → list_passes t (list_written name l) ≡ true
  list_passed l h n = items_passed (list_base_written name l.base) l.items h.1 n (list_base_passed l.base h.0)

  pub integer_passed : (z : ℤ) → unsigned_abs z < 2 ^ 127 → integer_passes t (integer_written z) ≡ true
  integer_passed (pos zero) h = refl
  integer_passed (pos (suc n)) h = numbers (suc n) h
  integer_passed (negsuc n) h = numbers (suc n) h

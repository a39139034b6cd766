-- What is written for a normal term can be spelled.
use Rattle.std.proofs.Common.{◌≡◌, ℕ, ◌^◌, ◌<◌, ◌==◌, ℤ, pos, negsuc, Bool, true, false, not, cond, ◌&&◌, List, decimal, refl, arith}
use Rattle.std.specs.Prelude.{unsigned_abs}
use Rattle.std.specs.Ordering.{int_eq}
use Rattle.std.proofs.lemmas.Bool.{and_parts, and_from}
use Rattle.nf_sums.proofs.Products.{abs_pos}
use Rattle.fs_model.specs.declared.sides.Pos.{Pos}
use Rattle.nf_trees.specs.declared.tree.Base.TheVariants as bases
use Rattle.nf_trees.specs.NormalTerms as terms
use Rattle.nf_trees.specs.Measures.{weight_of}
use Rattle.nf_terms.specs.Normal.{narrow_atom, narrow_monomial, narrow_inside, narrow_writes, narrow_array, is_light, ordered_atom, ordered_monomial, ordered}
use Rattle.nf_terms.specs.Normal.{ordered_writes, ordered_array, atom_rises, monomial_rises, write_rises, is_written, stays_read, is_constant}
use Rattle.term_text.specs.TermTexts.{Atom, Monomial, Sum, ArrayTerm, Number, One, Times, ZeroArray, Bare, Written}
use Rattle.term_text.specs.SpellableTerms.{is_number_text, atom_spelled, monomial_spelled, sum_spelled, polynomial_spelled, array_spelled}
use Rattle.term_values.specs.NameMeanings.{Find}
use Rattle.term_writer.specs.NamedSymbols.{IsNamed, OfAtom, OfMonomial, OfPolynomial, OfWrites, OfArray}
use Rattle.term_writer.specs.WrittenTerms.{sum_of_term, sum_with_term, atom_written, times_written, monomial_written, sum_written, polynomial_written}
use Rattle.term_writer.specs.WrittenTerms.{writes_written}
use Rattle.term_writer.specs.WrittenTerms.{array_written}
use Rattle.term_writer.proofs.Bound.{light_is}
use Rattle.term_writer.proofs.Back.{digits_of}

head_spelled : (b : Bool) (ds : List ℕ) (a : Atom) → is_number_text ds ≡ true → atom_spelled a ≡ true
    → monomial_spelled (cond b (One a) (Times (Number ds) a)) ≡ true
head_spelled true ds a e f = f
head_spelled false ds a e f = and_from (is_number_text ds) (atom_spelled a) e f

begun_spelled : (c : ℤ) (m : Monomial) → monomial_spelled m ≡ true → sum_spelled (sum_of_term c m) ≡ true
begun_spelled (pos n) m e = e
begun_spelled (negsuc n) m e = e

continued_spelled : (s : Sum) (c : ℤ) (m : Monomial) → sum_spelled s ≡ true → monomial_spelled m ≡ true → sum_spelled (sum_with_term s c m) ≡ true
continued_spelled s (pos n) m e f = and_from (sum_spelled s) (monomial_spelled m) e f
continued_spelled s (negsuc n) m e f = and_from (sum_spelled s) (monomial_spelled m) e f

mutual
  atom_spells : (name : Pos → List ℕ) (find : Find) (a : terms.Atom) → OfAtom (IsNamed name find) a → narrow_atom a ≡ true → ordered_atom a ≡ true
      → atom_spelled (atom_written name a) ≡ true
  atom_spells name find (terms.Symbol p) h e o = h.word
  atom_spells name find (terms.Read a i) h e o =
      let p = and_parts (narrow_array a && is_light i) (narrow_inside i) e in
      let q = and_parts (narrow_array a) (is_light i) p.0 in
      let r = and_parts (ordered_array a) (ordered i) (and_parts (ordered_array a && ordered i) (stays_read a i) o).0 in
      and_from (array_spelled (array_written name a)) (polynomial_spelled (polynomial_written name i)) (array_spells name find a h.0 q.0 r.0)
      (polynomial_spells name find i h.1 q.1 p.1 r.1)
  atom_spells name find (terms.Quotient a b) h e o =
      let p = and_parts (is_light a && narrow_inside a && is_light b) (narrow_inside b) e in
      let q = and_parts (is_light a && narrow_inside a) (is_light b) p.0 in
      let r = and_parts (is_light a) (narrow_inside a) q.0 in
      let s = and_parts (ordered a) (ordered b) (and_parts (ordered a && ordered b) (not (is_constant a && is_constant b)) o).0 in
      and_from (polynomial_spelled (polynomial_written name a)) (polynomial_spelled (polynomial_written name b)) (polynomial_spells name find a h.0 r.0 r.1 s.0)
      (polynomial_spells name find b h.1 q.1 p.1 s.1)
  atom_spells name find (terms.Remainder a b) h e o =
      let p = and_parts (is_light a && narrow_inside a && is_light b) (narrow_inside b) e in
      let q = and_parts (is_light a && narrow_inside a) (is_light b) p.0 in
      let r = and_parts (is_light a) (narrow_inside a) q.0 in
      let s = and_parts (ordered a) (ordered b) (and_parts (ordered a && ordered b) (not (is_constant a && is_constant b)) o).0 in
      and_from (polynomial_spelled (polynomial_written name a)) (polynomial_spelled (polynomial_written name b)) (polynomial_spells name find a h.0 r.0 r.1 s.0)
      (polynomial_spells name find b h.1 q.1 p.1 s.1)

  times_spells : (name : Pos → List ℕ) (find : Find) (w : Monomial) (m : terms.Monomial) → OfMonomial (IsNamed name find) m → monomial_spelled w ≡ true
      → narrow_monomial m ≡ true → ordered_monomial m ≡ true → monomial_spelled (times_written name w m) ≡ true
  times_spells name find w terms.One h f e o = f
  times_spells name find w (terms.Times a m) h f e o =
      let p = and_parts (narrow_atom a) (narrow_monomial m) e in
      let q = and_parts (ordered_atom a && atom_rises a m) (ordered_monomial m) o in
      let r = and_parts (ordered_atom a) (atom_rises a m) q.0 in
      times_spells name find (Times w (atom_written name a)) m h.1
      (and_from (monomial_spelled w) (atom_spelled (atom_written name a)) f (atom_spells name find a h.0 p.0 r.0)) p.1 q.1

  monomial_spells : (name : Pos → List ℕ) (find : Find) (n : ℕ) (m : terms.Monomial) → OfMonomial (IsNamed name find) m → 0 < n → n < 2 ^ 127
      → narrow_monomial m ≡ true → ordered_monomial m ≡ true → monomial_spelled (monomial_written name n m) ≡ true
  monomial_spells name find n terms.One h z l e o = (digits_of n l).positive z
  monomial_spells name find n (terms.Times a m) h z l e o =
      let p = and_parts (narrow_atom a) (narrow_monomial m) e in
      let q = and_parts (ordered_atom a && atom_rises a m) (ordered_monomial m) o in
      let r = and_parts (ordered_atom a) (atom_rises a m) q.0 in
      times_spells name find (cond (n == 1) (One (atom_written name a)) (Times (Number (decimal n)) (atom_written name a))) m h.1
      (head_spelled (n == 1) (decimal n) (atom_written name a) ((digits_of n l).positive z) (atom_spells name find a h.0 p.0 r.0)) p.1 q.1

  sum_spells : (name : Pos → List ℕ) (find : Find) (s : Sum) (p : terms.Polynomial) → OfPolynomial (IsNamed name find) p → sum_spelled s ≡ true
      → weight_of p < 2 ^ 127 → narrow_inside p ≡ true → ordered p ≡ true → sum_spelled (sum_written name s p) ≡ true
  sum_spells name find s terms.Zero h f l e o = f
  sum_spells name find s (terms.Plus m c p) h f l e o =
      let q = and_parts (narrow_monomial m) (narrow_inside p) e in
      let r = and_parts (not (int_eq c (pos 0)) && ordered_monomial m && monomial_rises m p) (ordered p) o in
      let t = and_parts (not (int_eq c (pos 0))) (ordered_monomial m) (and_parts (not (int_eq c (pos 0)) && ordered_monomial m) (monomial_rises m p) r.0).0 in
      let w = monomial_written name (unsigned_abs c) m in
      sum_spells name find (sum_with_term s c w) p h.1
      (continued_spelled s c w f (monomial_spells name find (unsigned_abs c) m h.0 (abs_pos c t.0) (omega (arith, l)) q.0 t.1)) (omega (arith, l)) q.1 r.1

  pub polynomial_spells : (name : Pos → List ℕ) (find : Find) (p : terms.Polynomial) → OfPolynomial (IsNamed name find) p → is_light p ≡ true
      → narrow_inside p ≡ true → ordered p ≡ true → polynomial_spelled (polynomial_written name p) ≡ true
  polynomial_spells name find terms.Zero h l e o = refl
  polynomial_spells name find (terms.Plus m c p) h l e o =
      let q = and_parts (narrow_monomial m) (narrow_inside p) e in
      let k = light_is (terms.Plus m c p) l in
      let r = and_parts (not (int_eq c (pos 0)) && ordered_monomial m && monomial_rises m p) (ordered p) o in
      let t = and_parts (not (int_eq c (pos 0))) (ordered_monomial m) (and_parts (not (int_eq c (pos 0)) && ordered_monomial m) (monomial_rises m p) r.0).0 in
      let w = monomial_written name (unsigned_abs c) m in
      sum_spells name find (sum_of_term c w) p h.1
      (begun_spelled c w (monomial_spells name find (unsigned_abs c) m h.0 (abs_pos c t.0) (omega (arith, k)) q.0 t.1))
      (omega (arith, k)) q.1 r.1

  writes_spells : (name : Pos → List ℕ) (find : Find) (w : ArrayTerm) (ws : terms.Writes) → OfWrites (IsNamed name find) ws → array_spelled w ≡ true
      → narrow_writes ws ≡ true → ordered_writes ws ≡ true → array_spelled (writes_written name w ws) ≡ true
  writes_spells name find w terms.NoWrites h f e o = f
  writes_spells name find w (terms.Write i v ws) h f e o =
      let p = and_parts (is_light i && narrow_inside i && is_light v && narrow_inside v) (narrow_writes ws) e in
      let q = and_parts (is_light i && narrow_inside i && is_light v) (narrow_inside v) p.0 in
      let r = and_parts (is_light i && narrow_inside i) (is_light v) q.0 in
      let s = and_parts (is_light i) (narrow_inside i) r.0 in
      let t = and_parts (ordered i && ordered v && not (is_written i ws) && write_rises i ws) (ordered_writes ws) o in
      let u = and_parts (ordered i) (ordered v)
      (and_parts (ordered i && ordered v) (not (is_written i ws)) (and_parts (ordered i && ordered v && not (is_written i ws)) (write_rises i ws) t.0).0).0 in
      writes_spells name find (Written w (polynomial_written name i) (polynomial_written name v)) ws h.1.1
      (and_from (array_spelled w && polynomial_spelled (polynomial_written name i)) (polynomial_spelled (polynomial_written name v))
      (and_from (array_spelled w) (polynomial_spelled (polynomial_written name i)) f (polynomial_spells name find i h.0 s.0 s.1 u.0))
      (polynomial_spells name find v h.1.0 r.1 q.1 u.1)) p.1 t.1

  pub array_spells : (name : Pos → List ℕ) (find : Find) (a : terms.ArrayTerm) → OfArray (IsNamed name find) a → narrow_array a ≡ true → ordered_array a ≡ true
      → array_spelled (array_written name a) ≡ true
  array_spells name find (terms.Over bases.Zero ws) h e o = writes_spells name find ZeroArray ws h.1 refl e o
  array_spells name find (terms.Over (bases.Sym p) ws) h e o = writes_spells name find (Bare p.side (name p)) ws h.1 h.0.word e o

-- A written term has the depth of the term.
use Rattle.std.proofs.Common.{◌≡◌, ℕ, ◌≤◌, ◌==◌, max, ℤ, pos, negsuc, Bool, true, false, cond, List, [], decimal, refl, sym, ap, ◌∙◌, append-nil, arith, nat_le}
use Rattle.std.specs.Prelude.{unsigned_abs}
use Rattle.std.proofs.lemmas.Bool.Decides.{nat_tests}
use Rattle.fs_model.specs.declared.sides.Pos.{Pos}
use Rattle.nf_trees.specs.declared.tree.Base.TheVariants as bases
use Rattle.nf_trees.specs.NormalTerms as terms
use Rattle.nf_trees.specs.Measures.{depth_of_atom, depth_of_monomial, depth_of, depth_of_writes, depth_of_array}
use Rattle.term_text.specs.TermTexts.{Atom, Monomial, Sum, Polynomial, ArrayTerm, Number, One, Times, ZeroArray, Bare, Written, polynomial_text, array_text}
use Rattle.term_text.specs.SpellableTerms.{polynomial_spelled, array_spelled}
use Rattle.term_text.specs.Brackets.{most_open, atom_depth, monomial_depth, sum_depth, polynomial_depth, array_depth}
use Rattle.term_condition_text.proofs.Depths.{term_open}
use Rattle.term_text.specs.TermTexts as text
use Rattle.term_writer.specs.WrittenTerms.{sum_of_term, sum_with_term, atom_written, times_written, monomial_written, sum_written, polynomial_written}
use Rattle.term_writer.specs.WrittenTerms.{writes_written}
use Rattle.term_writer.specs.WrittenTerms.{array_written}

head_depth : (b : Bool) (ds : List ℕ) (a : Atom) → monomial_depth (cond b (One a) (Times (Number ds) a)) ≡ atom_depth a
head_depth true ds a = refl
head_depth false ds a = omega arith

begun_depth : (c : ℤ) (m : Monomial) → sum_depth (sum_of_term c m) ≡ monomial_depth m
begun_depth (pos n) m = refl
begun_depth (negsuc n) m = refl

continued_depth : (s : Sum) (c : ℤ) (m : Monomial) → sum_depth (sum_with_term s c m) ≡ max (sum_depth s) (monomial_depth m)
continued_depth s (pos n) m = refl
continued_depth s (negsuc n) m = refl

mutual
  atom_deep : (name : Pos → List ℕ) (a : terms.Atom) → atom_depth (atom_written name a) ≡ depth_of_atom a
  atom_deep name (terms.Symbol p) = refl
  atom_deep name (terms.Read a i) = omega (arith, array_deep name a, polynomial_deep name i)
  atom_deep name (terms.Quotient a b) = omega (arith, polynomial_deep name a, polynomial_deep name b)
  atom_deep name (terms.Remainder a b) = omega (arith, polynomial_deep name a, polynomial_deep name b)

  times_deep :
      (name : Pos → List ℕ) (w : Monomial) (m : terms.Monomial)
      → monomial_depth (times_written name w m) ≡ max (monomial_depth w) (depth_of_monomial m)
  times_deep name w terms.One = omega arith
  times_deep name w (terms.Times a m) = omega (arith, times_deep name (Times w (atom_written name a)) m, atom_deep name a)

  monomial_deep : (name : Pos → List ℕ) (n : ℕ) (m : terms.Monomial) → monomial_depth (monomial_written name n m) ≡ depth_of_monomial m
  monomial_deep name n terms.One = refl
  monomial_deep name n (terms.Times a m) =
      omega (
        arith,
        times_deep name (cond (n == 1) (One (atom_written name a)) (Times (Number (decimal n)) (atom_written name a))) m,
        head_depth (n == 1) (decimal n) (atom_written name a),
        atom_deep name a,
      )

  sum_deep : (name : Pos → List ℕ) (s : Sum) (p : terms.Polynomial) → sum_depth (sum_written name s p) ≡ max (sum_depth s) (depth_of p)
  sum_deep name s terms.Zero = omega arith
  sum_deep name s (terms.Plus m c p) =
      let w = monomial_written name (unsigned_abs c) m in
      omega (arith, sum_deep name (sum_with_term s c w) p, continued_depth s c w, monomial_deep name (unsigned_abs c) m)

  pub polynomial_deep : (name : Pos → List ℕ) (p : terms.Polynomial) → polynomial_depth (polynomial_written name p) ≡ depth_of p
  polynomial_deep name terms.Zero = refl
  polynomial_deep name (terms.Plus m c p) =
      let w = monomial_written name (unsigned_abs c) m in
      omega (arith, sum_deep name (sum_of_term c w) p, begun_depth c w, monomial_deep name (unsigned_abs c) m)

  writes_deep : (name : Pos → List ℕ) (w : ArrayTerm) (ws : terms.Writes) → array_depth (writes_written name w ws) ≡ max (array_depth w) (depth_of_writes ws)
  writes_deep name w terms.NoWrites = omega arith
  writes_deep name w (terms.Write i v ws) =
      omega (arith, writes_deep name (Written w (polynomial_written name i) (polynomial_written name v)) ws, polynomial_deep name i, polynomial_deep name v)

  pub array_deep : (name : Pos → List ℕ) (a : terms.ArrayTerm) → array_depth (array_written name a) ≡ depth_of_array a
  array_deep name (terms.Over bases.Zero ws) = omega (arith, writes_deep name ZeroArray ws)
  array_deep name (terms.Over (bases.Sym p) ws) = omega (arith, writes_deep name (Bare p.side (name p)) ws)

pub shallow_by : (n m : ℕ) → n ≡ m → m ≤ 64 → nat_le n 64 ≡ true
shallow_by n m e h = grind (arith, nat_tests)

pub shallow : (name : Pos → List ℕ) (p : terms.Polynomial) → polynomial_spelled (polynomial_written name p) ≡ true → depth_of p ≤ 64
    → nat_le (most_open 0 (polynomial_text (polynomial_written name p))) 64 ≡ true
shallow name p e h =
    let t = polynomial_text (polynomial_written name p) in
    let whole : most_open 0 t ≡ depth_of p = ap (most_open 0) (sym (append-nil t))
    ∙ omega (arith, term_open (text.polynomial (polynomial_written name p)) 0 [] e, polynomial_deep name p) in
    shallow_by (most_open 0 t) (depth_of p) whole h

pub shallow_array : (name : Pos → List ℕ) (a : terms.ArrayTerm) → array_spelled (array_written name a) ≡ true → depth_of_array a ≤ 64
    → nat_le (most_open 0 (array_text (array_written name a))) 64 ≡ true
shallow_array name a e h =
    let t = array_text (array_written name a) in
    let whole : most_open 0 t ≡ depth_of_array a = ap (most_open 0) (sym (append-nil t))
    ∙ omega (arith, term_open (text.array (array_written name a)) 0 [] e, array_deep name a) in
    shallow_by (most_open 0 t) (depth_of_array a) whole h

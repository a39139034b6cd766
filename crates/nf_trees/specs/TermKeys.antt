-- The key of a term, by which the order of terms is total.
use Rattle.std.proofs.Common.{◌≡◌, ℕ, zero, suc, pos, neg_ℤ, refl, ap, sym, subst, ◌∙◌, arith}
use Rattle.std.proofs.lemmas.Bool.Decides.{nat_tests}
use Rattle.std.specs.declared.cmp.Ordering.{Ordering}
use Rattle.std.specs.declared.cmp.Ordering.TheVariants.{Less, Equal, Greater}
use Rattle.std.specs.Ordering.{int_cmp, nat_cmp, ordering_then, ordering_reverse}
use Rattle.nf_trees.specs.NormalTerms.{Atom, Monomial, Polynomial, ArrayTerm, Writes, Symbol, Read, Quotient, Remainder, One}
use Rattle.nf_trees.specs.NormalTerms.{Times, Zero, Plus, Over, NoWrites, Write}
use Rattle.nf_trees.specs.Order.{degree, cmp_side, cmp_pos, cmp_base, cmp_atom, cmp_atoms, cmp_monomial, cmp_polynomial}
use Rattle.nf_trees.specs.Order.{cmp_writes, cmp_array}
use Rattle.nf_trees.specs.Keys.{Key, Leaf, Node, cmp_key, key_ties, key_reverse, key_trans}
use Rattle.fs_model.specs.declared.sides.Side.{Side}
use Rattle.fs_model.specs.declared.sides.Side.TheVariants.{Left, Right}
use Rattle.fs_model.specs.declared.sides.Pos.{Pos}
use Rattle.nf_trees.specs.declared.tree.Base.{Base}
use Rattle.nf_trees.specs.declared.tree.Base.TheVariants as starts

-- left before right
abbrev pub key_side : Side → Key
key_side Left = Leaf (pos 0)
key_side Right = Leaf (pos 1)

-- the side, then the number
abbrev pub key_pos : Pos → Key
key_pos p = Node (key_side p.side) (Leaf (pos p.var))

-- zero before a symbol
abbrev pub key_base : Base → Key
key_base starts.Zero = Leaf (pos 0)
key_base (starts.Sym p) = Node (Leaf (pos 0)) (key_pos p)

abbrev mutual
  -- the kind, then the parts
  pub key_atom : Atom → Key
  key_atom (Symbol p) = Node (Leaf (pos 0)) (key_pos p)
  key_atom (Read a i) = Node (Leaf (pos 1)) (Node (key_array a) (key_polynomial i))
  key_atom (Quotient a b) = Node (Leaf (pos 2)) (Node (key_polynomial a) (key_polynomial b))
  key_atom (Remainder a b) = Node (Leaf (pos 3)) (Node (key_polynomial a) (key_polynomial b))

  -- atom by atom
  pub key_atoms : Monomial → Key
  key_atoms One = Leaf (pos 0)
  key_atoms (Times a m) = Node (key_atom a) (key_atoms m)

  -- for each monomial its degree, the greater first, its atoms and its coefficient
  pub key_polynomial : Polynomial → Key
  key_polynomial Zero = Leaf (pos 0)
  key_polynomial (Plus m c p) = Node (Node (Leaf (neg_ℤ (pos (degree m)))) (key_atoms m)) (Node (Leaf c) (key_polynomial p))

  -- write by write
  pub key_writes : Writes → Key
  key_writes NoWrites = Leaf (pos 0)
  key_writes (Write i v ws) = Node (key_polynomial i) (Node (key_polynomial v) (key_writes ws))

  -- the base, then the writes
  pub key_array : ArrayTerm → Key
  key_array (Over b ws) = Node (key_base b) (key_writes ws)

-- the degree, the greater first, then the atoms
abbrev pub key_monomial : Monomial → Key
key_monomial m = Node (Leaf (neg_ℤ (pos (degree m)))) (key_atoms m)

-- ---- terms of the same key are the same
inj_side : (x y : Side) → key_side x ≡ key_side y → x ≡ y
inj_side Left Left e = refl
inj_side Left Right e = cc
inj_side Right Left e = cc
inj_side Right Right e = refl

pub inj_pos : (x y : Pos) → key_pos x ≡ key_pos y → x ≡ y
inj_pos x y e = let es : x.side ≡ y.side = inj_side x.side y.side (cc) in let ev : x.var ≡ y.var = cc in
    (λ i. record { side = es i; var = ev i })

inj_base : (x y : Base) → key_base x ≡ key_base y → x ≡ y
inj_base starts.Zero starts.Zero e = refl
inj_base starts.Zero (starts.Sym q) e = cc
inj_base (starts.Sym p) starts.Zero e = cc
inj_base (starts.Sym p) (starts.Sym q) e = ap starts.Sym (inj_pos p q (cc))

mutual
  pub inj_atom : (x y : Atom) → key_atom x ≡ key_atom y → x ≡ y
  inj_atom (Symbol x0) (Symbol y0) e = let e0 : x0 ≡ y0 = inj_pos x0 y0 (cc) in cc
  inj_atom (Symbol x0) (Read y0 y1) e = cc
  inj_atom (Symbol x0) (Quotient y0 y1) e = cc
  inj_atom (Symbol x0) (Remainder y0 y1) e = cc
  inj_atom (Read x0 x1) (Symbol y0) e = cc
  inj_atom (Read x0 x1) (Read y0 y1) e = let e0 : x0 ≡ y0 = inj_array x0 y0 (cc) in
      let e1 : x1 ≡ y1 = inj_polynomial x1 y1 (cc) in cc
  inj_atom (Read x0 x1) (Quotient y0 y1) e = cc
  inj_atom (Read x0 x1) (Remainder y0 y1) e = cc
  inj_atom (Quotient x0 x1) (Symbol y0) e = cc
  inj_atom (Quotient x0 x1) (Read y0 y1) e = cc
  inj_atom (Quotient x0 x1) (Quotient y0 y1) e = let e0 : x0 ≡ y0 = inj_polynomial x0 y0 (cc) in
      let e1 : x1 ≡ y1 = inj_polynomial x1 y1 (cc) in cc
  inj_atom (Quotient x0 x1) (Remainder y0 y1) e = cc
  inj_atom (Remainder x0 x1) (Symbol y0) e = cc
  inj_atom (Remainder x0 x1) (Read y0 y1) e = cc
  inj_atom (Remainder x0 x1) (Quotient y0 y1) e = cc
  inj_atom (Remainder x0 x1) (Remainder y0 y1) e = let e0 : x0 ≡ y0 = inj_polynomial x0 y0 (cc) in
      let e1 : x1 ≡ y1 = inj_polynomial x1 y1 (cc) in cc

  pub inj_atoms : (x y : Monomial) → key_atoms x ≡ key_atoms y → x ≡ y
  inj_atoms One One e = refl
  inj_atoms One (Times y0 y1) e = cc
  inj_atoms (Times x0 x1) One e = cc
  inj_atoms (Times x0 x1) (Times y0 y1) e = let e0 : x0 ≡ y0 = inj_atom x0 y0 (cc) in
      let e1 : x1 ≡ y1 = inj_atoms x1 y1 (cc) in cc

  pub inj_polynomial : (x y : Polynomial) → key_polynomial x ≡ key_polynomial y → x ≡ y
  inj_polynomial Zero Zero e = refl
  inj_polynomial Zero (Plus y0 y1 y2) e = cc
  inj_polynomial (Plus x0 x1 x2) Zero e = cc
  inj_polynomial (Plus x0 x1 x2) (Plus y0 y1 y2) e = let e0 : x0 ≡ y0 = inj_atoms x0 y0 (cc) in let e1 : x1 ≡ y1 = cc in
      let e2 : x2 ≡ y2 = inj_polynomial x2 y2 (cc) in cc

  pub inj_writes : (x y : Writes) → key_writes x ≡ key_writes y → x ≡ y
  inj_writes NoWrites NoWrites e = refl
  inj_writes NoWrites (Write y0 y1 y2) e = cc
  inj_writes (Write x0 x1 x2) NoWrites e = cc
  inj_writes (Write x0 x1 x2) (Write y0 y1 y2) e = let e0 : x0 ≡ y0 = inj_polynomial x0 y0 (cc) in
      let e1 : x1 ≡ y1 = inj_polynomial x1 y1 (cc) in let e2 : x2 ≡ y2 = inj_writes x2 y2 (cc) in cc

  pub inj_array : (x y : ArrayTerm) → key_array x ≡ key_array y → x ≡ y
  inj_array (Over x0 x1) (Over y0 y1) e = let e0 : x0 ≡ y0 = inj_base x0 y0 (cc) in let e1 : x1 ≡ y1 = inj_writes x1 y1 (cc) in cc

-- ---- the order is that of the keys
pub both : {r s t u : Ordering} → r ≡ s → t ≡ u → ordering_then r t ≡ ordering_then s u
both p q i = ordering_then (p i) (q i)

side_by_key : (x y : Side) → cmp_side x y ≡ cmp_key (key_side x) (key_side y)
side_by_key Left Left = refl
side_by_key Left Right = refl
side_by_key Right Left = refl
side_by_key Right Right = refl

numbers_by_key : (m n : ℕ) → nat_cmp m n ≡ int_cmp (pos m) (pos n)
numbers_by_key m n = grind (arith, nat_tests)

pub pos_by_key : (x y : Pos) → cmp_pos x y ≡ cmp_key (key_pos x) (key_pos y)
pos_by_key x y = both (side_by_key x.side y.side) (numbers_by_key x.var y.var)

base_by_key : (x y : Base) → cmp_base x y ≡ cmp_key (key_base x) (key_base y)
base_by_key starts.Zero starts.Zero = refl
base_by_key starts.Zero (starts.Sym q) = refl
base_by_key (starts.Sym p) starts.Zero = refl
base_by_key (starts.Sym p) (starts.Sym q) = pos_by_key p q

degree_by_key : (m n : ℕ) → nat_cmp n m ≡ int_cmp (neg_ℤ (pos m)) (neg_ℤ (pos n))
degree_by_key zero zero = refl
degree_by_key zero (suc n) = grind (arith, nat_tests)
degree_by_key (suc m) zero = grind (arith, nat_tests)
degree_by_key (suc m) (suc n) = grind (arith, nat_tests)

mutual
  -- the order of atoms is that of their keys
  pub atom_by_key : (x y : Atom) → cmp_atom x y ≡ cmp_key (key_atom x) (key_atom y)
  atom_by_key (Symbol x0) (Symbol y0) = pos_by_key x0 y0
  atom_by_key (Symbol x0) (Read y0 y1) = refl
  atom_by_key (Symbol x0) (Quotient y0 y1) = refl
  atom_by_key (Symbol x0) (Remainder y0 y1) = refl
  atom_by_key (Read x0 x1) (Symbol y0) = refl
  atom_by_key (Read x0 x1) (Read y0 y1) = both (array_by_key x0 y0) (polynomial_by_key x1 y1)
  atom_by_key (Read x0 x1) (Quotient y0 y1) = refl
  atom_by_key (Read x0 x1) (Remainder y0 y1) = refl
  atom_by_key (Quotient x0 x1) (Symbol y0) = refl
  atom_by_key (Quotient x0 x1) (Read y0 y1) = refl
  atom_by_key (Quotient x0 x1) (Quotient y0 y1) = both (polynomial_by_key x0 y0) (polynomial_by_key x1 y1)
  atom_by_key (Quotient x0 x1) (Remainder y0 y1) = refl
  atom_by_key (Remainder x0 x1) (Symbol y0) = refl
  atom_by_key (Remainder x0 x1) (Read y0 y1) = refl
  atom_by_key (Remainder x0 x1) (Quotient y0 y1) = refl
  atom_by_key (Remainder x0 x1) (Remainder y0 y1) = both (polynomial_by_key x0 y0) (polynomial_by_key x1 y1)

  pub atoms_by_key : (x y : Monomial) → cmp_atoms x y ≡ cmp_key (key_atoms x) (key_atoms y)
  atoms_by_key One One = refl
  atoms_by_key One (Times b n) = refl
  atoms_by_key (Times a m) One = refl
  atoms_by_key (Times a m) (Times b n) = both (atom_by_key a b) (atoms_by_key m n)

  pub polynomial_by_key : (x y : Polynomial) → cmp_polynomial x y ≡ cmp_key (key_polynomial x) (key_polynomial y)
  polynomial_by_key Zero Zero = refl
  polynomial_by_key Zero (Plus n d q) = refl
  polynomial_by_key (Plus m c p) Zero = refl
  polynomial_by_key (Plus m c p) (Plus n d q) =
      both (both (degree_by_key (degree m) (degree n)) (atoms_by_key m n))
      (ap (ordering_then (int_cmp c d)) (polynomial_by_key p q))

  pub writes_by_key : (x y : Writes) → cmp_writes x y ≡ cmp_key (key_writes x) (key_writes y)
  writes_by_key NoWrites NoWrites = refl
  writes_by_key NoWrites (Write j w vs) = refl
  writes_by_key (Write i v ws) NoWrites = refl
  writes_by_key (Write i v ws) (Write j w vs) = both (polynomial_by_key i j) (both (polynomial_by_key v w) (writes_by_key ws vs))

  pub array_by_key : (x y : ArrayTerm) → cmp_array x y ≡ cmp_key (key_array x) (key_array y)
  array_by_key (Over a ws) (Over b vs) = both (base_by_key a b) (writes_by_key ws vs)

pub monomial_by_key : (x y : Monomial) → cmp_monomial x y ≡ cmp_key (key_monomial x) (key_monomial y)
monomial_by_key x y = both (degree_by_key (degree x) (degree y)) (atoms_by_key x y)

-- ---- terms that tie are the same, and each is the same as itself
own_reverse : (r : Ordering) → r ≡ ordering_reverse r → r ≡ Equal
own_reverse Less e = cc
own_reverse Equal e = refl
own_reverse Greater e = cc

own_key : (k : Key) → cmp_key k k ≡ Equal
own_key k = own_reverse (cmp_key k k) (key_reverse k k)

pub atom_ties : (x y : Atom) → cmp_atom x y ≡ Equal → x ≡ y
atom_ties x y e = inj_atom x y (key_ties (key_atom x) (key_atom y) (sym (atom_by_key x y) ∙ e))

pub atom_same : (x y : Atom) → x ≡ y → cmp_atom x y ≡ Equal
atom_same x y e = subst (λ z. cmp_atom x z ≡ Equal) e (atom_by_key x x ∙ own_key (key_atom x))

pub monomial_ties : (x y : Monomial) → cmp_monomial x y ≡ Equal → x ≡ y
monomial_ties x y e =
    inj_atoms x y
    (let k : key_monomial x ≡ key_monomial y = key_ties (key_monomial x) (key_monomial y) (sym (monomial_by_key x y) ∙ e) in cc)

pub monomial_same : (x y : Monomial) → x ≡ y → cmp_monomial x y ≡ Equal
monomial_same x y e = subst (λ z. cmp_monomial x z ≡ Equal) e (monomial_by_key x x ∙ own_key (key_monomial x))

pub polynomial_ties : (x y : Polynomial) → cmp_polynomial x y ≡ Equal → x ≡ y
polynomial_ties x y e = inj_polynomial x y (key_ties (key_polynomial x) (key_polynomial y) (sym (polynomial_by_key x y) ∙ e))

pub polynomial_same : (x y : Polynomial) → x ≡ y → cmp_polynomial x y ≡ Equal
polynomial_same x y e = subst (λ z. cmp_polynomial x z ≡ Equal) e (polynomial_by_key x x ∙ own_key (key_polynomial x))

pub array_ties : (x y : ArrayTerm) → cmp_array x y ≡ Equal → x ≡ y
array_ties x y e = inj_array x y (key_ties (key_array x) (key_array y) (sym (array_by_key x y) ∙ e))

pub array_same : (x y : ArrayTerm) → x ≡ y → cmp_array x y ≡ Equal
array_same x y e = subst (λ z. cmp_array x z ≡ Equal) e (array_by_key x x ∙ own_key (key_array x))

-- ---- the two ways round, and along a chain
pub atom_reverse : (x y : Atom) → cmp_atom x y ≡ ordering_reverse (cmp_atom y x)
atom_reverse x y = atom_by_key x y ∙ key_reverse (key_atom x) (key_atom y) ∙ ap ordering_reverse (sym (atom_by_key y x))

pub atom_trans : (x y z : Atom) → cmp_atom x y ≡ Less → cmp_atom y z ≡ Less → cmp_atom x z ≡ Less
atom_trans x y z p q = atom_by_key x z ∙ key_trans (key_atom x) (key_atom y) (key_atom z) (sym (atom_by_key x y) ∙ p)
    (sym (atom_by_key y z) ∙ q)

pub monomial_reverse : (x y : Monomial) → cmp_monomial x y ≡ ordering_reverse (cmp_monomial y x)
monomial_reverse x y = monomial_by_key x y ∙ key_reverse (key_monomial x) (key_monomial y)
    ∙ ap ordering_reverse (sym (monomial_by_key y x))

pub monomial_trans : (x y z : Monomial) → cmp_monomial x y ≡ Less → cmp_monomial y z ≡ Less → cmp_monomial x z ≡ Less
monomial_trans x y z p q = monomial_by_key x z
    ∙ key_trans (key_monomial x) (key_monomial y) (key_monomial z) (sym (monomial_by_key x y) ∙ p) (sym (monomial_by_key y z) ∙ q)

-- terms are the same exactly where they tie
pub ruleset ties = (atom_ties, atom_same, monomial_ties, monomial_same, polynomial_ties, polynomial_same, array_ties, array_same)

-- What terms mean.
use Rattle.std.specs.Prelude.{ℤ, pos, ◌+ℤ◌, ◌*ℤ◌, cond, List, [], ◌++◌, map}
use Rattle.std.specs.Ordering.{int_eq}
use Rattle.fs_model.specs.Division.{quotient, remainder}
use Rattle.nf_trees.specs.NormalTerms.{Atom, Monomial, Polynomial, ArrayTerm, Writes, Symbol, Read, Quotient, Remainder, One}
use Rattle.nf_trees.specs.NormalTerms.{Times, Zero, Plus, Over, NoWrites, Write}
use Rattle.nf_terms.specs.Lists.{ListTerm}
use Rattle.fs_model.specs.declared.sides.Pos.{Pos}
use Rattle.nf_trees.specs.declared.tree.Base.{Base}
use Rattle.nf_trees.specs.declared.tree.Base.TheVariants as base
use Rattle.nf_terms.specs.declared.tree.SeqBase.{SeqBase}
use Rattle.nf_terms.specs.declared.tree.SeqBase.TheVariants as list

-- a pair of stores: a value for each position, a number, an array or a list
pub record Valuation : Type 0 where
  pub scalar : Pos → ℤ
  pub array : Pos → ℤ → ℤ
  pub list : Pos → List ℤ

-- what an array holds after v is written at i
abbrev pub contents_after_write : (ℤ → ℤ) → ℤ → ℤ → ℤ → ℤ
contents_after_write a i v = λ j. cond (int_eq i j) v (a j)

-- what a base holds: 0 everywhere, or what its symbol holds
abbrev pub contents_of_base : Valuation → Base → ℤ → ℤ
contents_of_base s base.Zero = λ j. pos 0
contents_of_base s (base.Sym p) = s.array p

abbrev mutual
  -- the number that an atom means
  pub value_of_atom : Valuation → Atom → ℤ
  value_of_atom s (Symbol p) = s.scalar p
  value_of_atom s (Read a i) = contents s a (value_of s i)
  value_of_atom s (Quotient a b) = quotient (value_of s a) (value_of s b)
  value_of_atom s (Remainder a b) = remainder (value_of s a) (value_of s b)

  -- the product of its atoms
  pub value_of_monomial : Valuation → Monomial → ℤ
  value_of_monomial s One = pos 1
  value_of_monomial s (Times a m) = value_of_atom s a *ℤ value_of_monomial s m

  -- the sum of its monomials times their coefficients
  pub value_of : Valuation → Polynomial → ℤ
  value_of s Zero = pos 0
  value_of s (Plus m c p) = c *ℤ value_of_monomial s m +ℤ value_of s p

  -- what an array holds after these writes, the first one first
  pub contents_after : Valuation → Writes → (ℤ → ℤ) → ℤ → ℤ
  contents_after s NoWrites a = a
  contents_after s (Write i v ws) a = contents_after s ws (contents_after_write a (value_of s i) (value_of s v))

  -- what an array holds
  pub contents : Valuation → ArrayTerm → ℤ → ℤ
  contents s (Over b ws) = contents_after s ws (contents_of_base s b)

-- what a list's base holds: nothing, or what its symbol holds
abbrev pub items_of_base : Valuation → SeqBase → List ℤ
items_of_base s list.Empty = []
items_of_base s (list.Sym p) = s.list p

-- what a list holds: what its base holds, and then the values of its items
abbrev pub items_in : Valuation → ListTerm → List ℤ
items_in s l = items_of_base s l.base ++ map (value_of s) l.items

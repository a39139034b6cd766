-- Which symbols a term mentions.
use Rattle.std.specs.Prelude.{Bool, false, ◌||◌, ◌&&◌, ◌==◌}
use Rattle.nf_trees.specs.NormalTerms.{Atom, Monomial, Polynomial, ArrayTerm, Writes, Symbol, Read, Quotient, Remainder, One}
use Rattle.nf_trees.specs.NormalTerms.{Times, Zero, Plus, Over, NoWrites, Write}
use Rattle.fs_model.specs.declared.sides.Pos.{Pos}
use Rattle.fs_model.specs.Sides.{same_side}
use Rattle.nf_trees.specs.declared.tree.Base.{Base}
use Rattle.nf_trees.specs.declared.tree.Base.TheVariants as base

-- whether two symbols are the same
abbrev pub same_pos : Pos → Pos → Bool
same_pos p q = same_side p.side q.side && (p.var == q.var)

-- whether a base is the symbol p
abbrev pub mentions_base : Pos → Base → Bool
mentions_base p base.Zero = false
mentions_base p (base.Sym q) = same_pos p q

abbrev mutual
  -- whether p stands in an atom
  pub mentions_atom : Pos → Atom → Bool
  mentions_atom p (Symbol q) = same_pos p q
  mentions_atom p (Read a i) = mentions_array p a || mentions p i
  mentions_atom p (Quotient a b) = mentions p a || mentions p b
  mentions_atom p (Remainder a b) = mentions p a || mentions p b

  -- whether p stands in an atom of a monomial
  pub mentions_monomial : Pos → Monomial → Bool
  mentions_monomial p One = false
  mentions_monomial p (Times a m) = mentions_atom p a || mentions_monomial p m

  -- whether p stands in a polynomial
  pub mentions : Pos → Polynomial → Bool
  mentions p Zero = false
  mentions p (Plus m c r) = mentions_monomial p m || mentions p r

  -- whether p stands in the index or the value of a write
  pub mentions_writes : Pos → Writes → Bool
  mentions_writes p NoWrites = false
  mentions_writes p (Write i v ws) = mentions p i || mentions p v || mentions_writes p ws

  -- whether p is the base of an array or stands in its writes
  pub mentions_array : Pos → ArrayTerm → Bool
  mentions_array p (Over b ws) = mentions_base p b || mentions_writes p ws

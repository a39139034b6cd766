-- Numbers that are a symbol alone.
use Rattle.std.specs.Prelude.{cond, pos, Option, Some, None}
use Rattle.std.specs.Ordering.{int_eq}
use Rattle.nf_trees.specs.NormalTerms.{Atom, Monomial, Polynomial, Symbol, Read, Quotient, Remainder, One, Times, Zero, Plus}
use Rattle.fs_model.specs.declared.sides.Pos.{Pos}

-- the symbol that an atom is
abbrev pub lone_atom : Atom → Option Pos
lone_atom (Symbol p) = Some p
lone_atom (Read b i) = None
lone_atom (Quotient p q) = None
lone_atom (Remainder p q) = None

-- the symbol that a monomial is
abbrev pub lone_symbol : Monomial → Option Pos
lone_symbol One = None
lone_symbol (Times a One) = lone_atom a
lone_symbol (Times a (Times b m)) = None

-- the symbol that a number is
abbrev pub bare_number : Polynomial → Option Pos
bare_number Zero = None
bare_number (Plus m c Zero) = cond (int_eq c (pos 1)) (lone_symbol m) None
bare_number (Plus m c (Plus n d p)) = None

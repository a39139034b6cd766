-- Sets of positions with numbers below a bound, and the positions that a fact mentions.
use Rattle.std.specs.Prelude.{ℕ, ◌+◌, max, Bool, true, false, not, ◌&&◌, is_none, List, [], ◌∷◌, ◌++◌, set, replicate}
use Rattle.std.specs.Prelude.{slice_index_or, Option, Some, None}
use Rattle.nf_terms.specs.Symbols.{symbols_of, symbols_of_form}
use Rattle.nf_terms.specs.declared.symbols.Sort.{Sort}
use Rattle.fs_model.specs.declared.sides.Pos.{Pos}
use Rattle.fs_model.specs.declared.sides.Side.{Side}
use Rattle.fs_model.specs.declared.sides.Side.TheVariants.{Left, Right}
use Rattle.nf_terms.specs.declared.form.Nf.{Nf}
use Rattle.nf_rel.specs.Literals.{NormalLiteral, True, False, Is}
use Rattle.sym_facts.specs.Facts.{FactPosition, Fact}

-- for each side, whether each number below the bound is in the set
pub record PositionSet : Type 0 where
  pub left : List Bool
  pub right : List Bool

abbrev pub on_side : Side → PositionSet → List Bool
on_side Left s = s.left
on_side Right s = s.right

-- whether a position is in a set
abbrev pub has_position : PositionSet → Pos → Bool
has_position s p = slice_index_or (on_side p.side s) p.var false

abbrev pub empty_set : (bound : ℕ) → PositionSet
empty_set bound = record { left = replicate bound false; right = replicate bound false }

-- a set with one number more of a side; one out of bounds is left out
abbrev pub with_number : PositionSet → Side → ℕ → PositionSet
with_number s Left k = record { left = set s.left k true; right = s.right }
with_number s Right k = record { left = s.left; right = set s.right k true }

abbrev pub with_position : PositionSet → Pos → PositionSet
with_position s p = with_number s p.side p.var

-- a set with the positions of symbols
abbrev pub with_symbols : PositionSet → List (Pos × Sort) → PositionSet
with_symbols s [] = s
with_symbols s (x ∷ xs) = with_symbols (with_position s x.0) xs

-- the symbols of equations and of literals
abbrev pub symbols_of_equation : Option Nf → List (Pos × Sort)
symbols_of_equation None = []
symbols_of_equation (Some f) = symbols_of_form f

abbrev pub symbols_of_equations : List FactPosition → List (Pos × Sort)
symbols_of_equations [] = []
symbols_of_equations (q ∷ qs) = symbols_of_equation q.equation ++ symbols_of_equations qs

abbrev pub symbols_of_literal : NormalLiteral → List (Pos × Sort)
symbols_of_literal True = []
symbols_of_literal False = []
symbols_of_literal (Is d k b) = symbols_of d

abbrev pub symbols_of_literals : List NormalLiteral → List (Pos × Sort)
symbols_of_literals [] = []
symbols_of_literals (l ∷ ls) = symbols_of_literal l ++ symbols_of_literals ls

-- a bound on the numbers of positions
abbrev pub bound_of : List FactPosition → ℕ
bound_of [] = 0
bound_of (q ∷ qs) = max (q.pos.var + 1) (bound_of qs)

-- the positions below a bound that a fact mentions
abbrev pub mentioned_below : ℕ → Fact → PositionSet
mentioned_below bound f = with_symbols (with_symbols (empty_set bound) (symbols_of_equations f.positions))
    (symbols_of_literals f.literals)

-- whether a position that has an equation is in a set
abbrev pub is_unsolved_in : PositionSet → FactPosition → Bool
is_unsolved_in s q = not (is_none q.equation) && has_position s q.pos

-- Facts by their parts.
use Rattle.std.specs.Prelude.{ℕ, ◌≤◌, Bool, true, not, ◌&&◌, IsTrue, List, [], ◌∷◌, length, map, Option, Some, None, slice_get}
use Rattle.std.specs.List.{list_any, position_from}
use Rattle.fs_pair.specs.declared.positions.Position.{Position}
use Rattle.nf_trees.specs.Mentions.{same_pos}
use Rattle.nf_terms.specs.declared.symbols.Sort.{Sort as TermSort}
use Rattle.fs_model.specs.declared.sides.Pos.{Pos}
use Rattle.nf_terms.specs.declared.form.Nf.{Nf}
use Rattle.nf_rel.specs.Literals.{NormalLiteral}
use Rattle.sym_facts.specs.Facts.{FactPosition, Fact, IsFact, is_unsolved}
use Rattle.sym_facts.specs.Pairings.{form_within}

-- each position with its equation, or free
abbrev pub with_equations : List Position → List (Option Nf) → List FactPosition
with_equations [] fs = []
with_equations (p ∷ ps) [] = []
with_equations (p ∷ ps) (f ∷ fs) = record { pos = p.pos; sort = p.sort; equation = f } ∷ with_equations ps fs

-- the fact of these parts
abbrev pub fact_of : List Position → List (Option Nf) → List NormalLiteral → Fact
fact_of ps fs ls = record { positions = with_equations ps fs; literals = ls }

-- whether each symbol of an equation passes a test
abbrev pub equation_within : (Pos × TermSort → Bool) → Option Nf → Bool
equation_within test None = true
equation_within test (Some f) = form_within test f

-- the first position with an equation that is mentioned
abbrev pub first_unsolved : Fact → Option ℕ
first_unsolved f = position_from (is_unsolved f) 0 f.positions

abbrev pub equation_of : Option FactPosition → Option Nf
equation_of None = None
equation_of (Some p) = p.equation

-- the equation of a position by its place, or none
abbrev pub equation_at : ℕ → List FactPosition → Option Nf
equation_at k ps = equation_of (slice_get ps k)

-- whether no position stands twice
abbrev pub are_distinct_positions : List Pos → Bool
are_distinct_positions [] = true
are_distinct_positions (p ∷ ps) = not (list_any (same_pos p) ps) && are_distinct_positions ps

-- how many positions two machines have at most
abbrev pub most_sorted_positions : ℕ
most_sorted_positions = 384

-- what is kept of each fact: it is one, its positions differ, and they are few
pub record IsKept (f : Fact) : Type 0 where
  pub fact : IsFact f
  pub differ : IsTrue (are_distinct_positions (map (λ p. p.pos) f.positions))
  pub short : length f.positions ≤ most_sorted_positions

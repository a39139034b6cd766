-- A rebase as it is made, one position after the other.
use Rattle.std.specs.Prelude.{◌≡◌, map, Bool, true, false, is_some, List, [], ◌∷◌, ◌++◌, Option, Some, None}
use Rattle.fs_model.specs.declared.parts.Sort.{Sort}
use Rattle.fs_pair.specs.declared.positions.Position.{Position}
use Rattle.nf_terms.specs.Computed.{Computed, Done, after}
use Rattle.fs_model.specs.declared.sides.Pos.{Pos}
use Rattle.nf_terms.specs.declared.form.Nf.{Nf}
use Rattle.nf_terms.specs.declared.form.Nf.TheVariants.{Num}
use Rattle.nf_substitution.specs.Vectors.{with_form}
use Rattle.sym_paths.specs.Execution.{Post}
use Rattle.sym_facts.specs.Facts.{FactPosition, Fact, own_symbol}
use Rattle.propagate.specs.Rebases.{value_at, RebaseState, with_mark, symbol_found, Solution}
use Rattle.propagate.specs.declared.rebases.Marked.{Marked}
use Rattle.propagate.specs.Rebases.{second_pass_solution, rebase}
use Rattle.propagate.specs.Rebases.{equation_found, freed_in_pass, position_with_equation}
pub use Rattle.propagate_equations.specs.EquationSteps.{conditions_kept}

-- ---- the first pass
abbrev pub with_found : Option Pos → Sort → Pos → List (Pos × Nf) → List (Pos × Nf)
with_found None s p ms = ms
with_found (Some x) s p ms = with_form x (own_symbol s p) ms

abbrev pub first_pass_from : List (Pos × Nf) → List Position → List (Pos × Nf) → RebaseState
first_pass_from v [] ms = record { free = []; meanings = ms }
first_pass_from v (p ∷ ps) ms = with_mark (is_some (symbol_found v ms p.sort p.pos))
    (first_pass_from v ps (with_found (symbol_found v ms p.sort p.pos) p.sort p.pos ms))

-- these positions before the others
abbrev pub before_others : List Bool → RebaseState → RebaseState
before_others done h = record { free = done ++ h.free; meanings = h.meanings }

-- ---- the second pass
-- whether a position is free, and the new meanings
pub record RebaseTurn : Type 0 where
  pub is_free : Bool
  pub meanings : List (Pos × Nf)

abbrev pub turn_of : (free : Bool) → Option Solution → List (Pos × Nf) → RebaseTurn
turn_of free None ms = record { is_free = free; meanings = ms }
turn_of free (Some x) ms = record { is_free = true; meanings = with_form x.symbol (Num x.meaning) ms }

abbrev pub second_turn : (free : Bool) → (v ms : List (Pos × Nf)) → Sort → Pos → Computed RebaseTurn
second_turn free v ms s p = after (second_pass_solution free v ms s p) (λ o. Done (turn_of free o ms))

abbrev pub second_from : List (Pos × Nf) → List Position → List Bool → List (Pos × Nf) → Computed RebaseState
second_from v [] bs ms = Done (record { free = []; meanings = ms })
second_from v (p ∷ ps) [] ms = Done (record { free = []; meanings = ms })
second_from v (p ∷ ps) (b ∷ bs) ms = after (second_turn b v ms p.sort p.pos)
    (λ t. after (second_from v ps bs t.meanings) (λ h. Done (with_mark t.is_free h)))

abbrev pub equation_given : (free : Bool) → (v ms : List (Pos × Nf)) → Position → List Position → Computed (Option Nf)
equation_given true v ms p qs = Done None
equation_given false v ms p qs = equation_found v ms (value_at v p.sort p.pos) qs

abbrev pub freed_by_rebase : (free : Bool) → Position → Option Nf → List Position → List Position
freed_by_rebase true p o qs = qs
freed_by_rebase false p o qs = freed_in_pass p o qs

abbrev pub third_from : (v ms : List (Pos × Nf)) → List Position → List Bool → (freed : List Position)
    → Computed (List FactPosition)
third_from v ms [] bs qs = Done []
third_from v ms (p ∷ ps) [] qs = Done []
third_from v ms (p ∷ ps) (b ∷ bs) qs = after (equation_given b v ms p qs)
    (λ o. after (third_from v ms ps bs (freed_by_rebase b p o qs)) (λ rest. Done (position_with_equation p o ∷ rest)))

-- ---- all of it
abbrev pub rebased_by : Post → List Position → RebaseState → Computed Fact
rebased_by post ps first =
    after (second_from post.vector ps first.free first.meanings)
    (λ h. after (third_from post.vector h.meanings ps h.free [])
    (λ qs. after (conditions_kept h.meanings post.conditions) (λ ls. Done (record { positions = qs; literals = ls }))))

-- what these meanings lead to for positions that are marked so is the rebase
abbrev pub LeadsToRebase : Post → List Position → List Marked → List (Pos × Nf) → Type 0
LeadsToRebase post ps xs ms =
    after (third_from post.vector ms (map (λ m. m.position) xs) (map (λ m. m.is_free) xs) [])
    (λ qs. after (conditions_kept ms post.conditions) (λ ls. Done (record { positions = qs; literals = ls })))
    ≡ rebase post ps

-- A join as it is made, one position and one freed position after the other.
use Rattle.std.specs.Prelude.{ℕ, ◌+◌, ◌==◌, Bool, true, false, cond, List, [], ◌∷◌, Option, Some, None}
use Rattle.nf_terms.specs.Computed.{Computed, Done, after}
use Rattle.fs_model.specs.declared.sides.Pos.{Pos}
use Rattle.nf_terms.specs.declared.form.Nf.{Nf}
use Rattle.nf_rel.specs.Literals.{NormalLiteral}
use Rattle.sym_facts.specs.Facts.{FactPosition}
use Rattle.propagate.specs.Joins.{Freed, tied_equation, freed_with, with_equation}

-- the equation that a position gets
abbrev pub equation_joined : List (Pos × Nf) → (fails : Bool) → Pos → Option Nf → List Freed → Computed (Option Nf)
equation_joined v false p o fs = Done o
equation_joined v true p None fs = Done None
equation_joined v true p (Some t) fs = tied_equation v p t fs

-- the freed positions after a position
abbrev pub freed_by_join : (fails : Bool) → Pos → (old new : Option Nf) → List Freed → List Freed
freed_by_join false p old new fs = fs
freed_by_join true p None new fs = fs
freed_by_join true p (Some t) new fs = freed_with p t new fs

-- whether a place is the first of those that are left
abbrev pub is_first_place : ℕ → List ℕ → Bool
is_first_place k [] = false
is_first_place k (j ∷ js) = j == k

-- those that are left behind a place
abbrev pub left_behind : ℕ → List ℕ → List ℕ
left_behind k [] = []
left_behind k (j ∷ js) = cond (j == k) js (j ∷ js)

-- the positions from place k on, where these places are left and these positions are freed before
abbrev pub joined_from : List (Pos × Nf) → ℕ → (left : List ℕ) → List Freed → List FactPosition → Computed (List FactPosition)
joined_from v k left fs [] = Done []
joined_from v k left fs (p ∷ ps) =
    after (equation_joined v (is_first_place k left) p.pos p.equation fs)
    (λ o. after (joined_from v (k + 1) (left_behind k left) (freed_by_join (is_first_place k left) p.pos p.equation o fs) ps)
    (λ rest. Done (with_equation p o ∷ rest)))

-- the literals from index k on, where these indices are left
abbrev pub literals_from : ℕ → (left : List ℕ) → List NormalLiteral → List NormalLiteral
literals_from k left [] = []
literals_from k left (l ∷ ls) = cond (is_first_place k left) (literals_from (k + 1) (left_behind k left) ls)
    (l ∷ literals_from (k + 1) (left_behind k left) ls)

-- The join of a fact with a post.
use Rattle.std.specs.Prelude.{ℕ, ◌+◌, ◌==◌, Bool, true, false, cond, List, [], ◌∷◌, ◌++◌, Option, Some, None}
use Rattle.std.specs.List.{list_any}
use Rattle.nf_terms.specs.Computed.{Computed, Done, after}
use Rattle.fs_model.specs.declared.sides.Pos.{Pos}
use Rattle.nf_terms.specs.declared.form.Nf.{Nf}
use Rattle.nf_rel.specs.Literals.{NormalLiteral}
use Rattle.sym_paths.specs.Execution.{Post}
use Rattle.sym_facts.specs.Facts.{FactPosition, Fact}
use Rattle.sym_facts.specs.Entailment.{Missing}
pub use Rattle.propagate_equations.specs.Ties.{Freed, symbol_like, number_tied_to, number_tied, is_alike, form_tied}
pub use Rattle.propagate_equations.specs.Ties.{tied_equation}

abbrev pub with_equation : FactPosition → Option Nf → FactPosition
with_equation p o = record { pos = p.pos; sort = p.sort; equation = o }

-- the freed positions, with one more where it is not tied
abbrev pub freed_with : Pos → Nf → (tie : Option Nf) → List Freed → List Freed
freed_with p t None fs = fs ++ record { pos = p; old = t } ∷ []
freed_with p t (Some r) fs = fs

-- an equation that holds stays; where it fails its position is tied, or freed
abbrev pub position_joined : List (Pos × Nf) → (fails : Bool) → FactPosition → Option Nf → List Freed
    → (later : List Freed → Computed (List FactPosition)) → Computed (List FactPosition)
position_joined v false p o fs later = after (later fs) (λ rest. Done (p ∷ rest))
position_joined v true p None fs later = after (later fs) (λ rest. Done (p ∷ rest))
position_joined v true p (Some t) fs later =
    after (tied_equation v p.pos t fs) (λ r. after (later (freed_with p.pos t r fs)) (λ rest. Done (with_equation p r ∷ rest)))

abbrev pub is_among : ℕ → List ℕ → Bool
is_among k ks = list_any (λ j. j == k) ks

-- the positions from place k on
abbrev pub positions_joined : List (Pos × Nf) → ℕ → (missing : List ℕ) → List Freed → List FactPosition
    → Computed (List FactPosition)
positions_joined v k missing fs [] = Done []
positions_joined v k missing fs (p ∷ ps) = position_joined v (is_among k missing) p p.equation fs
    (λ gs. positions_joined v (k + 1) missing gs ps)

-- the literals that are not missing, from index k on
abbrev pub literals_kept : ℕ → (missing : List ℕ) → List NormalLiteral → List NormalLiteral
literals_kept k missing [] = []
literals_kept k missing (l ∷ ls) = cond (is_among k missing) (literals_kept (k + 1) missing ls)
    (l ∷ literals_kept (k + 1) missing ls)

-- the fact without what the post does not entail
abbrev pub join : Fact → Post → Missing → Computed Fact
join old post missing =
    after (positions_joined post.vector 0 missing.equations [] old.positions)
    (λ ps. Done (record { positions = ps; literals = literals_kept 0 missing.literals old.literals }))

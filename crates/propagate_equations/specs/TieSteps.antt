-- Ties of positions whose equations fail, as they are made: one freed position after the other.
use Rattle.std.specs.Prelude.{List, [], ◌∷◌, Option, Some, None}
use Rattle.nf_trees.specs.NormalTerms.{Polynomial}
use Rattle.nf_terms.specs.Computed.{Computed, Done, after}
use Rattle.fs_model.specs.declared.sides.Pos.{Pos}
use Rattle.nf_terms.specs.declared.form.Nf.{Nf}
use Rattle.propagate_equations.specs.Ties.{Freed, number_tied_to}

-- a form that is found, or else what comes later
abbrev pub or_later : Option Nf → (later : Computed (Option Nf)) → Computed (Option Nf)
or_later None later = later
or_later (Some f) later = Done (Some f)

-- a number tied to the first of the freed positions that it can be tied to
abbrev pub join_tie : List (Pos × Nf) → Pos → Polynomial → List Freed → Computed (Option Nf)
join_tie v p t [] = Done None
join_tie v p t (f ∷ fs) = after (number_tied_to v p t f.pos f.old (Done None)) (λ o. or_later o (join_tie v p t fs))

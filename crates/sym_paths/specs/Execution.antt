-- Paths over a vector (symbolic execution of a path: its condition and its data transformation).
use Rattle.std.specs.Prelude.{Bool, true, List, [], ◌∷◌, ◌++◌, Option, Some, None}
use Rattle.fs_model.specs.Stores.{Store}
use Rattle.fs_model.specs.Machines.{Fsmd}
use Rattle.fs_cut.specs.Paths.{Point, Path, BranchStep, state_of, branch_at, steps_in, store_after_steps, takes}
use Rattle.nf_terms.specs.Computed.{Computed, Done, after}
use Rattle.fs_model.specs.declared.sides.Side.{Side}
use Rattle.fs_model.specs.declared.sides.Side.TheVariants.{Left, Right}
use Rattle.fs_model.specs.declared.sides.Pos.{Pos}
use Rattle.nf_terms.specs.declared.form.Nf.{Nf}
use Rattle.nf_rel.specs.Literals.{NormalLiteral}
use Rattle.sym_paths.specs.Sequences.{each}
use Rattle.sym_paths.specs.Evaluation.{evaluate_literal, act_over}

-- conditions, and a vector where they are true
pub record Post : Type 0 where
  pub conditions : List NormalLiteral
  pub vector : List (Pos × Nf)

-- the literals of a path's branch, in order
abbrev pub conditions : Fsmd → Path → Side → List (Pos × Nf) → Computed (List NormalLiteral)
conditions m p side v = each (λ l. evaluate_literal side v l) (branch_at m (state_of m p.from) p.branch).literals

-- the vector after steps
abbrev pub steps_over : Fsmd → Side → List BranchStep → List (Pos × Nf) → Computed (List (Pos × Nf))
steps_over m side [] v = Done v
steps_over m side (x ∷ xs) v = after (act_over side (branch_at m x.state x.branch).assignments v) (λ u. steps_over m side xs u)

-- the conditions of a path, and the vector after it
abbrev pub execute : Fsmd → Path → Side → List (Pos × Nf) → Computed Post
execute m p side v = after (conditions m p side v)
    (λ ls. after (steps_over m side (steps_in p) v) (λ u. Done (record { conditions = ls; vector = u })))

-- the same of a side that may stay
abbrev pub execute_if : Fsmd → Option Path → Side → List (Pos × Nf) → Computed Post
execute_if m None side v = Done (record { conditions = []; vector = v })
execute_if m (Some p) side v = execute m p side v

-- the left path and then the right one, where these literals are true before
abbrev pub arrive : (a b : Fsmd) → List NormalLiteral → List (Pos × Nf) → (left right : Option Path) → Computed Post
arrive a b ls v left right = after (execute_if a left Left v)
    (λ l. after (execute_if b right Right l.vector)
    (λ r. Done (record { conditions = ls ++ (l.conditions ++ r.conditions); vector = r.vector })))

-- whether a store takes the path of a side, and what it leaves; a side that stays does nothing
abbrev pub takes_if : Fsmd → Option Path → Store → Bool
takes_if m None s = true
takes_if m (Some p) s = takes m p s

abbrev pub effect_if : Fsmd → Option Path → Store → Store
effect_if m None s = s
effect_if m (Some p) s = store_after_steps m (steps_in p) s

-- where a side comes to, which keeps its point where it stays
abbrev pub end_of : Point → Option Path → Point
end_of P None = P
end_of P (Some p) = p.to

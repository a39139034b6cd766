-- Two machines, one of which does in two steps what the other does in one.
use Rattle.std.specs.Prelude.{ℕ, pos, List, [], ◌∷◌, Some, None}
use Rattle.fs_model.specs.declared.parts.Rel.TheVariants as rel
use Rattle.fs_model.specs.declared.parts.Role.{Role}
use Rattle.fs_model.specs.declared.parts.Role.TheVariants as role
use Rattle.fs_model.specs.declared.parts.Sort.TheVariants as sort
use Rattle.fs_model.specs.declared.parts.VarInfo.{VarInfo}
use Rattle.fs_model.specs.Expressions.{Number, Variable, Sum, Difference, Product, Test, Assignment, Assign, Transition}
use Rattle.fs_model.specs.Machines.{State, Fsmd}
use Rattle.fs_cut.specs.Paths.{Point, Start, At}

-- a scalar whose name is one letter
abbrev pub scalar_named : ℕ → Role → VarInfo
scalar_named letter role = record { name = letter ∷ []; role = role; sort = sort.Scalar }

-- inputs a, b; output y; locals t, u
abbrev pub their_variables : List VarInfo
their_variables =
    scalar_named 97 role.Input ∷ scalar_named 98 role.Input ∷ scalar_named 121 role.Output ∷ scalar_named 116 role.Local
    ∷ scalar_named 117 role.Local ∷ []

-- t is 3 and u is 4: u = a - b, t = a + b, t = t * u, and t = (a + b) * (a - b)
abbrev pub difference : Assignment ℕ
difference = Assign 4 (Difference (Variable 0) (Variable 1))

abbrev pub sum : Assignment ℕ
sum = Assign 3 (Sum (Variable 0) (Variable 1))

abbrev pub product : Assignment ℕ
product = Assign 3 (Product (Variable 3) (Variable 4))

abbrev pub product_at_once : Assignment ℕ
product_at_once = Assign 3 (Product (Sum (Variable 0) (Variable 1)) (Difference (Variable 0) (Variable 1)))

-- a state that is named s and a digit
abbrev pub split_state : ℕ → List (Transition ℕ ℕ) → State
split_state digit lines = record { name = 115 ∷ digit ∷ []; transitions = lines }

-- goto a state, with assignments
abbrev pub goto : ℕ → List (Assignment ℕ) → List (Transition ℕ ℕ)
goto target assignments = record { guard = None; target = target; assignments = assignments } ∷ []

-- when t > 0 goto s0: y = t; goto s0: y = u
abbrev pub choice : List (Transition ℕ ℕ)
choice =
    record {
      guard = Some (Test (record { relation = rel.Gt; left = Variable 3; right = Number (pos 0) }));
      target = 0;
      assignments = Assign 2 (Variable 3) ∷ [];
    } ∷ goto 0 (Assign 2 (Variable 4) ∷ [])

-- s0: goto s1: u = a - b, t = (a + b) * (a - b); s1: the choice
abbrev pub in_one_step : Fsmd
in_one_step = record {
  variables = their_variables;
  reset = 0;
  states = split_state 48 (goto 1 (difference ∷ product_at_once ∷ [])) ∷ split_state 49 choice ∷ [];
}

-- s0: goto s1: u = a - b, t = a + b; s1: goto s2: t = t * u; s2: the choice
abbrev pub in_two_steps : Fsmd
in_two_steps = record {
  variables = their_variables;
  reset = 0;
  states =
      split_state 48 (goto 1 (difference ∷ sum ∷ [])) ∷ split_state 49 (goto 2 (product ∷ [])) ∷ split_state 50 choice ∷ [];
}

-- the starts, and the states of the choice
abbrev pub their_pairs : List (Point × Point)
their_pairs = (Start, Start) ∷ (At 1, At 2) ∷ []

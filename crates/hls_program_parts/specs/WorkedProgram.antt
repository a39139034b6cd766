-- A worked program: `while i < n { y = y + a; i = i + 1; }` over a, n, y, i as 0, 1, 2, 3.
use Rattle.std.specs.Prelude.{ℕ, List, [], ◌∷◌, pos}
use Rattle.fs_model.specs.declared.parts.Rel.TheVariants.{Lt}
use Rattle.fs_model.specs.Expressions.{Guard, Test, Assignment, Assign, Sum, Variable, Number, Transition}
use Rattle.hls_program_parts.specs.Programs.{Block, End, Do, While}
use Rattle.hls_program_parts.specs.Compiled.{always, where_holds}

abbrev pub guard : Guard ℕ
guard = Test (record { relation = Lt; left = Variable 3; right = Variable 1 })

abbrev pub add : Assignment ℕ
add = Assign 2 (Sum (Variable 2) (Variable 0))

abbrev pub count_up : Assignment ℕ
count_up = Assign 3 (Sum (Variable 3) (Number (pos 1)))

abbrev pub body : Block ℕ
body = While 1 guard (Do 1 add (Do 1 count_up End)) End

abbrev pub example_states : List (ℕ × List (Transition ℕ ℕ))
example_states = (1, where_holds guard 2 ∷ always 0 [] ∷ []) ∷ (1, always 3 (add ∷ []) ∷ [])
    ∷ (1, always 1 (count_up ∷ []) ∷ []) ∷ []

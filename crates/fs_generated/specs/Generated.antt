-- Pairs of machines of a size. The left one takes two steps for a turn of a loop, the right one takes one.
use Rattle.std.specs.Prelude.{ℕ, ◌+◌, ◌/◌, ◌%◌, pos, List, [], ◌∷◌, ◌++◌, Option, Some, None, codes}
use Rattle.std.specs.List.{flat_map, range_with_len}
use Rattle.fs_model.specs.declared.parts.Role.{Role}
use Rattle.fs_model.specs.declared.parts.Role.TheVariants.{Input, Output, Local}
use Rattle.fs_model.specs.declared.parts.Sort.TheVariants.{Scalar}
use Rattle.fs_model.specs.declared.parts.Rel.TheVariants.{Gt}
use Rattle.fs_model.specs.Expressions.{Expression, Number, Variable, Sum, Difference, Guard, Test, Assignment, Assign}
use Rattle.fs_model.specs.Source.{Declaration, SourceTransition, SourceState, Source}

-- the last three decimal digits of a number
abbrev pub three_digits : ℕ → List ℕ
three_digits k = (48 + k / 100 % 10) ∷ (48 + k / 10 % 10) ∷ (48 + k % 10) ∷ []

-- the states of round k: its entry, the head of its loop, and in the left machine the body of the loop
abbrev pub entry_name : ℕ → List ℕ
entry_name k = codes "p" ++ three_digits k

abbrev pub head_name : ℕ → List ℕ
head_name k = codes "h" ++ three_digits k

abbrev pub body_name : ℕ → List ℕ
body_name k = codes "e" ++ three_digits k

-- all parts stand on one line
abbrev pub declaration : Role → List (List ℕ) → Declaration
declaration role names = record { line = 1; role = role; sort = Scalar; names = names }

abbrev pub declarations : List Declaration
declarations = declaration Input (codes "a" ∷ codes "b" ∷ []) ∷ declaration Output (codes "y" ∷ [])
    ∷ declaration Local (codes "i" ∷ codes "s" ∷ codes "t" ∷ []) ∷ []

-- a transition to a state
abbrev pub transition : Option (Guard (List ℕ)) → List ℕ → List (Assignment (List ℕ)) → SourceTransition
transition guard target assignments = record {
  line = 1;
  content = record { guard = guard; target = target; assignments = assignments };
}

abbrev pub state : List ℕ → List SourceTransition → SourceState
state name lines = record { line = 1; name = name; transitions = lines }

-- a variable of one letter gets a value
abbrev pub letter_assignment : ℕ → Expression (List ℕ) → Assignment (List ℕ)
letter_assignment letter value = Assign (letter ∷ []) value

-- i > 0
abbrev pub turns_are_left : Guard (List ℕ)
turns_are_left = Test (record { relation = Gt; left = Variable (codes "i"); right = Number (pos 0) })

-- b + k
abbrev pub summand : ℕ → Expression (List ℕ)
summand k = Sum (Variable (codes "b")) (Number (pos k))

-- s = s + expression
abbrev pub add_to_sum : Expression (List ℕ) → Assignment (List ℕ)
add_to_sum expression = Assign (codes "s") (Sum (Variable (codes "s")) expression)

-- i = i - 1
abbrev pub count_down : Assignment (List ℕ)
count_down = Assign (codes "i") (Difference (Variable (codes "i")) (Number (pos 1)))

-- t = b + k
abbrev pub take_summand : ℕ → Assignment (List ℕ)
take_summand k = Assign (codes "t") (summand k)

-- goto h: i = a;
abbrev pub entry_state : ℕ → SourceState
entry_state k = state (entry_name k) (transition None (head_name k) (Assign (codes "i") (Variable (codes "a")) ∷ []) ∷ [])

-- a loop's head: where turns are left one is taken, else the next round begins
abbrev pub head : ℕ → List ℕ → List (Assignment (List ℕ)) → SourceState
head k target assignments = state (head_name k)
    (transition (Some turns_are_left) target assignments ∷ transition None (entry_name (k + 1)) [] ∷ [])

-- goto h: s = s + t, i = i - 1;
abbrev pub body_state : ℕ → SourceState
body_state k = state (body_name k) (transition None (head_name k) (add_to_sum (Variable (codes "t")) ∷ count_down ∷ []) ∷ [])

-- goto p000: y = s;
abbrev pub last_state : ℕ → SourceState
last_state n = state (entry_name n) (transition None (entry_name 0) (Assign (codes "y") (Variable (codes "s")) ∷ []) ∷ [])

-- a round of each machine: a times, b + k is added to s
abbrev pub left_round : ℕ → List SourceState
left_round k = entry_state k ∷ head k (body_name k) (take_summand k ∷ []) ∷ body_state k ∷ []

abbrev pub right_round : ℕ → List SourceState
right_round k = entry_state k ∷ head k (head_name k) (take_summand k ∷ add_to_sum (summand k) ∷ count_down ∷ []) ∷ []

-- the rounds from 0 to n - 1, and then the state that gives y the sum
abbrev pub generated_states : (ℕ → List SourceState) → ℕ → List SourceState
generated_states round n = flat_map round (range_with_len 0 n) ++ last_state n ∷ []

abbrev pub source : (ℕ → List SourceState) → ℕ → Source
source round n = record { declarations = declarations; reset_line = 1; reset = entry_name 0; states = generated_states round n }

-- the parts of the two machines of a size
abbrev pub left_source : ℕ → Source
left_source n = source left_round n

abbrev pub right_source : ℕ → Source
right_source n = source right_round n

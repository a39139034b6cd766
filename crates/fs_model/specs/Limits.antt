-- The limits of machines and of their texts.
use Rattle.std.specs.Prelude.{ℕ, ◌-◌, ◌^◌}

-- the most operators and opening brackets of a guard, an assignment or an emit
abbrev pub most_operators : ℕ
most_operators = 128

-- the most bytes of a name
abbrev pub most_name_bytes : ℕ
most_name_bytes = 32

-- the most variables of a machine
abbrev pub most_variables : ℕ
most_variables = 128

-- the most states of a machine
abbrev pub most_states : ℕ
most_states = 4096

-- the most branches of a state
abbrev pub most_branches : ℕ
most_branches = 64

-- the most emits of a transition
abbrev pub most_emits : ℕ
most_emits = 16

-- the most bytes of a text
abbrev pub most_text_bytes : ℕ
most_text_bytes = 1048576

-- the largest number of a text
abbrev pub most_number : ℕ
most_number = 2 ^ 127 - 1

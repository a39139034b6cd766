-- Graphs as lists of targets.
use Rattle.std.specs.Prelude.{ℕ, ◌&&◌, nat_lt, nat_le, Bool, List, length}
use Rattle.std.specs.List.{list_all}

-- whether each node has at most 4,096 targets, which are below a number
abbrev pub are_edges : ℕ → List (List ℕ) → Bool
are_edges count E = list_all (λ js. nat_le (length js) 4096 && list_all (λ t. nat_lt t count) js) E

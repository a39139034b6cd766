-- Machines as plain data: variables and states by their numbers.
use Rattle.std.specs.Prelude.{ℕ, List, []}
use Rattle.std.specs.List.{slice_index_or}
use Rattle.fs_model.specs.declared.parts.VarInfo.{VarInfo}
use Rattle.fs_model.specs.Expressions.{Transition}

-- a state: its transitions in order
pub record State : Type 0 where
  pub name : List ℕ
  pub transitions : List (Transition ℕ ℕ)

-- a finite state machine with datapath
pub record Fsmd : Type 0 where
  pub variables : List VarInfo
  pub reset : ℕ
  pub states : List State

-- the transitions of a state, none where there is no such state
abbrev pub transitions_of : Fsmd → ℕ → List (Transition ℕ ℕ)
transitions_of m q = (slice_index_or m.states q (record { name = []; transitions = [] })).transitions

-- What a machine keeps beside its transitions.
use Rattle.std.specs.Prelude.{◌≡◌, ◌^◌, ℕ, ℤ, true, pos, int_lt, List, [], map}
use Rattle.std.specs.List.{list_all, slice_index_or}
use Rattle.fs_model.specs.declared.parts.VarInfo.{VarInfo}
use Rattle.fs_model.specs.Words.{is_name}
use Rattle.fs_model.specs.Machines.{State, Fsmd}
use Rattle.fs_model.specs.Trees.{Branch, branches_of}
use Rattle.fs_model.specs.SoundMachines.{IsSound, numbers_in_states}

-- the name of a state
abbrev pub state_name_of : Fsmd → ℕ → List ℕ
state_name_of m q = (slice_index_or m.states q (record { name = []; transitions = [] })).name

-- what the types of names and numbers promise: names are names, and numbers of 128 bits lie below 2^127
pub record KeepsTypes (variables : List VarInfo) (states : List State) : Type 0 where
  pub variables_named : list_all (λ v. is_name v.name) variables ≡ true
  pub states_named : list_all (λ s. is_name s.name) states ≡ true
  pub numbers_low : list_all (λ n. int_lt n (pos (2 ^ 127))) (numbers_in_states states) ≡ true

-- a sound machine with the branches of its states and its numbers
pub record IsStoredMachine (m : Fsmd) (branches : List (List Branch)) (constants : List ℤ) : Type 0 where
  pub sound : IsSound m
  pub branched : branches ≡ map (λ s. branches_of s.transitions) m.states
  pub numbered : constants ≡ numbers_in_states m.states

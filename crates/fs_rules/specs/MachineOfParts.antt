-- The machine that the parts of a text spell: names become numbers, in order of declaration.
use Rattle.std.specs.Prelude.{ℕ, suc, cond, List, [], ◌∷◌, map}
use Rattle.std.specs.List.{flat_map}
use Rattle.std.specs.Str.{bytes_eq}
use Rattle.fs_model.specs.declared.parts.VarInfo.{VarInfo}
use Rattle.fs_model.specs.Expressions.{Transition}
use Rattle.fs_model.specs.Renamed.{transition_over}
use Rattle.fs_model.specs.Source.{Declaration, SourceTransition, SourceState, Source}
use Rattle.fs_model.specs.Machines.{State, Fsmd}

-- the first place of a name, and the length of the list where it has none
abbrev pub place_or_end : List (List ℕ) → List ℕ → ℕ
place_or_end [] name = 0
place_or_end (n ∷ ns) name = cond (bytes_eq n name) 0 (suc (place_or_end ns name))

abbrev pub declared_by : Declaration → List VarInfo
declared_by d = map (λ n. record { name = n; role = d.role; sort = d.sort }) d.names

-- the variables in order of declaration
abbrev pub variables_of : List Declaration → List VarInfo
variables_of ds = flat_map declared_by ds

abbrev pub names_of : List VarInfo → List (List ℕ)
names_of vs = map (λ v. v.name) vs

abbrev pub state_names : List SourceState → List (List ℕ)
state_names ss = map (λ s. s.name) ss

-- a transition over the places of names
abbrev pub transition_spelled : List (List ℕ) → List (List ℕ) → SourceTransition → Transition ℕ ℕ
transition_spelled vs ss l = transition_over (place_or_end vs) (place_or_end ss) l.content

abbrev pub state_spelled : List (List ℕ) → List (List ℕ) → SourceState → State
state_spelled vs ss s = record { name = s.name; transitions = map (transition_spelled vs ss) s.transitions }

-- the machine that the parts spell
abbrev pub machine_of : Source → Fsmd
machine_of p = record {
  variables = variables_of p.declarations;
  reset = place_or_end (state_names p.states) p.reset;
  states = map (state_spelled (names_of (variables_of p.declarations)) (state_names p.states)) p.states;
}

-- What a step and a run answer.
use Rattle.std.specs.Prelude.{◌≡◌, ℕ, ◌-◌, ◌≤◌, cond, List, [], ◌∷◌, map, filter, Option, Some, None, IsSome}
use Rattle.std.specs.List.{AllByRecursion}
use Rattle.std.specs.Str.{bytes_eq}
use Rattle.fs_model.specs.declared.parts.VarInfo.{VarInfo}
use Rattle.fs_model.specs.Machines.{Fsmd}
use Rattle.fs_model.specs.Stores.{Store}
use Rattle.fs_model.specs.Runs.{Inputs, Content, FirstReturn, Run, start, is_output}
use Rattle.fs_model.specs.Touched.{StaysInRange}
use Rattle.fs_runs.specs.declared.run.RunStop.{RunStop}
use Rattle.fs_runs.specs.declared.run.RunStop.TheVariants as stops
use Rattle.fs_stores.specs.declared.values.Value.{Value}
use Rattle.fs_stores.specs.Values.{content_of}

-- what each output name holds
abbrev pub Outputs : Type 0
Outputs = List ℕ → Option Content

-- the names of the outputs, in order of declaration
abbrev pub output_names : List VarInfo → List (List ℕ)
output_names vs = map (λ v. v.name) (filter (λ v. is_output v.role) vs)

-- of values of variables in order, what those of outputs hold
abbrev pub outs_of : List VarInfo → List Value → List Content
outs_of [] vs = []
outs_of (v ∷ vars) [] = []
outs_of (v ∷ vars) (w ∷ vs) = cond (is_output v.role) (content_of w ∷ outs_of vars vs) (outs_of vars vs)

-- what contents in order say of names in order
abbrev pub outputs_by_name : List (List ℕ) → List Content → Outputs
outputs_by_name [] cs name = None
outputs_by_name (n ∷ ns) [] name = None
outputs_by_name (n ∷ ns) (c ∷ cs) name = cond (bytes_eq n name) (Some c) (outputs_by_name ns cs name)

-- what the values of a machine's outputs say
abbrev pub told_by : Fsmd → List Value → Outputs
told_by m outs name = outputs_by_name (output_names m.variables) (map content_of outs) name

-- each of the names holds something
abbrev pub HoldsEach : Outputs → List (List ℕ) → Type 0
HoldsEach outs names = AllByRecursion (λ name. IsSome (outs name)) names

-- a run ends within a limit of steps, and each number that it touches lies within 128 bits
pub record EndsWith (m : Fsmd) (ins : Inputs) (limit : ℕ) (outs : Outputs) (steps : ℕ) : Type 0 where
  pub within : steps ≤ limit
  pub in_range : StaysInRange m steps m.reset (start m ins)
  pub run : Run m ins outs steps

-- within so many steps there is no return to the reset state, and each number touched lies within 128 bits
pub record RunsOn (m : Fsmd) (ins : Inputs) (limit : ℕ) : Type 0 where
  pub no_return : (n : ℕ) (t : Store) → n ≤ limit → ¬ FirstReturn m n m.reset (start m ins) t
  pub in_range : StaysInRange m limit m.reset (start m ins)

-- the first number outside 128 bits is touched by the step of this number, counted from 1, and no return comes before
pub record LeavesRange (m : Fsmd) (ins : Inputs) (limit step : ℕ) : Type 0 where
  pub counted : 1 ≤ step
  pub within : step ≤ limit
  pub before : StaysInRange m (step - 1) m.reset (start m ins)
  pub here : ¬ StaysInRange m step m.reset (start m ins)

-- why a run stops without an end
abbrev pub IsStopped : Fsmd → Inputs → ℕ → RunStop → Type 0
IsStopped m ins limit (stops.StepsOver n) = (n ≡ limit) × RunsOn m ins limit
IsStopped m ins limit (stops.PastWide step) = LeavesRange m ins limit step
IsStopped m ins limit stops.NoMemory = Unit {0}

-- the run itself is why it stopped: memory did not run out
abbrev pub IsStopOfRun : RunStop → Type 0
IsStopOfRun (stops.StepsOver n) = Unit {0}
IsStopOfRun (stops.PastWide step) = Unit {0}
IsStopOfRun stops.NoMemory = ⊥

-- The chain of first reductions.
use Rattle.std.specs.Prelude.{◌≡◌, ◌⊎◌, ℕ, zero, suc, List, [], ◌∷◌}
use Rattle.std.specs.List.{AllByRecursion}
use Rattle.fs_model.specs.Machines.{Fsmd}
use Rattle.fs_model.specs.Runs.{Content}
use Rattle.fs_stores.specs.InputValues.{input_signatures, signatures_of, inputs_of}
use Rattle.fs_trials.specs.Candidates.{inputs_told}
use Rattle.fs_trials.specs.Differences.{ShowsDifference, AreApart}
use Rattle.hls_shrink.specs.declared.entries.InputEntry.{InputEntry}
use Rattle.hls_shrink.specs.declared.shrinking.Small.{Small}
use Rattle.hls_shrink.specs.InputEntries.{AreEntries}
use Rattle.hls_shrink.specs.Reductions.{reductions}

-- what the left machine's inputs are given in order shows a difference
abbrev pub ShowDifference : Fsmd → Fsmd → (limit : ℕ) → List Content → Type 0
ShowDifference a b limit cs = ShowsDifference a b (inputs_told (input_signatures a.variables) cs) limit

-- x is the first of a list with P
abbrev pub IsFirst : (P : List Content → Type 0) → List (List Content) → List Content → Type 0
IsFirst P [] x = ⊥
IsFirst P (y ∷ ys) x = (P y × (y ≡ x)) ⊎ ((¬ P y) × IsFirst P ys x)

-- none of a list has P
abbrev pub NoneHas : (P : List Content → Type 0) → List (List Content) → Type 0
NoneHas P ys = AllByRecursion (λ y. ¬ P y) ys

-- next is the first reduction of contents with P
pub record IsFirstReduction (P : List Content → Type 0) (cs next : List Content) : Type 0 where
  pub entries : List InputEntry
  pub are_entries : AreEntries 0 cs entries
  pub first : IsFirst P (reductions cs entries) next

-- no reduction of contents has P
pub record IsLeast (P : List Content → Type 0) (cs : List Content) : Type 0 where
  pub entries : List InputEntry
  pub are_entries : AreEntries 0 cs entries
  pub none : NoneHas P (reductions cs entries)

-- contents from which a step leads on
pub record StepLeadsOn (Step Rest : List Content → Type 0) : Type 0 where
  pub next : List Content
  pub step : Step next
  pub rest : Rest next

-- so many first reductions with P lead from contents to an end, and no reduction of it has P
abbrev pub EndsAfter : (P : List Content → Type 0) → ℕ → (cs end : List Content) → Type 0
EndsAfter P zero cs end = (cs ≡ end) × IsLeast P end
EndsAfter P (suc n) cs end = StepLeadsOn (IsFirstReduction P cs) (λ next. EndsAfter P n next end)

-- the chain of first reductions with P ends there
pub record EndsIn (P : List Content → Type 0) (cs end : List Content) : Type 0 where
  pub count : ℕ
  pub ends : EndsAfter P count cs end

-- inputs of the left machine that show a difference, with how both runs end
pub record IsSmall (a b : Fsmd) (limit : ℕ) (s : Small) : Type 0 where
  pub signatures : signatures_of s.inputs ≡ input_signatures a.variables
  pub apart : AreApart a b (inputs_of s.inputs) limit s.left s.right

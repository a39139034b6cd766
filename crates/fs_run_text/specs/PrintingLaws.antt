-- Each thing that prints has one text, and inputs serve machines with one interface.
use Rattle.std.specs.Prelude.{◌≡◌, ℕ, List, None}
use Rattle.fs_model.specs.Machines.{Fsmd}
use Rattle.fs_model.specs.Runs.{Inputs, Content}
use Rattle.fs_runs.specs.declared.run.RunStop.{RunStop}
use Rattle.fs_stores.specs.InputValues.{Signature, input_signatures, Serves}
use Rattle.fs_pair.specs.Interfaces.{interface_fault}
use Rattle.fs_run_text.specs.declared.ends.Side.{Side}
use Rattle.fs_run_text.specs.ContentTexts.{PrintsAs}
use Rattle.fs_runs.specs.Outcomes.{Outputs}
use Rattle.fs_run_text.specs.RunTexts.{IsRunText}
use Rattle.fs_run_text.specs.EndTexts.{IsEndText, IsStopText, IsReplayText, IsCounterexampleText}

-- of all things that have such a text, it is one
abbrev pub IsOne : (List ℕ → Type 0) → Type 0
IsOne P = (t u : List ℕ) → P t → P u → t ≡ u

abbrev pub OneContentText : Type 0
OneContentText = (c : Content) → IsOne (PrintsAs c)

abbrev pub OneEndText : Type 0
OneEndText = (names : List (List ℕ)) (outs : Outputs) (steps : ℕ) → IsOne (IsEndText names outs steps)

abbrev pub OneStopText : Type 0
OneStopText = (side : Side) (stop : RunStop) → IsOne (IsStopText side stop)

-- whatever a run of a machine on inputs answers
abbrev pub OneRunText : Type 0
OneRunText = (m : Fsmd) (ins : Inputs) (limit : ℕ) → IsOne (IsRunText m ins limit)

abbrev pub OneReplayText : Type 0
OneReplayText = (names : List (List ℕ)) (left right : Outputs) → IsOne (IsReplayText names left right)

abbrev pub OneCounterexampleText : Type 0
OneCounterexampleText = (inputs : List (List ℕ)) (contents : List Content) (names : List (List ℕ)) (left right : Outputs)
    → IsOne (IsCounterexampleText inputs contents names left right)

-- of two machines with the same inputs and outputs, values for the inputs of one serve the other
abbrev pub InputsServeBoth : Type 0
InputsServeBoth = (a b : Fsmd) (signatures : List Signature) → interface_fault a b ≡ None
    → signatures ≡ input_signatures a.variables → Serves signatures b

-- Files of a machine's inputs.
use Rattle.std.specs.Prelude.{◌≡◌, ℕ, ◌≤◌, List, length}
use Rattle.fs_model.specs.Limits.{most_text_bytes}
use Rattle.fs_model.specs.Machines.{Fsmd}
use Rattle.fs_model.specs.Runs.{Inputs}
use Rattle.fs_stores.specs.InputValues.{Signature, input_signatures}
use Rattle.fs_inputs.specs.declared.faults.Fault.{Fault}
use Rattle.fs_inputs.specs.declared.faults.Fault.TheVariants as faults
use Rattle.fs_inputs.specs.Refusals.{HasFaultyInput, SpellsInputFile}
use Rattle.fsmd_replies.specs.declared.answer.Operand.{Operand}
use Rattle.fsmd_replies.specs.declared.answer.KeyFault.{KeyFault}
use Rattle.fsmd_replies.specs.declared.answer.KeyFault.TheVariants as keys
use Rattle.fsmd_replies.specs.declared.answer.Answer.{Answer}
use Rattle.fsmd_answers.specs.Readings.{FileContent}
use Rattle.fsmd_answers.specs.JsonKeys.{RefusesKeys}

-- the names and sorts of a machine's inputs
abbrev pub signatures : Fsmd → List Signature
signatures m = input_signatures m.variables

-- what is wrong at the name of an input
abbrev pub input_fault : Fault → KeyFault
input_fault faults.Shape = keys.Shape
input_fault faults.Unknown = keys.UnknownName
input_fault faults.TooBig = keys.NumberTooBig

-- bytes that are read are JSON, whose first fault as inputs of a machine is this, at this name
pub record HasInputFault (m : Fsmd) (fault : KeyFault) (name bytes : List ℕ) : Type 0 where
  pub few : length bytes ≤ most_text_bytes
  pub kind : Fault
  pub is : fault ≡ input_fault kind
  pub faulty : HasFaultyInput (signatures m) bytes name kind

-- bytes that are read spell inputs of a machine
pub record SpellsInputs (m : Fsmd) (ins : Inputs) (bytes : List ℕ) : Type 0 where
  pub few : length bytes ≤ most_text_bytes
  pub spells : SpellsInputFile (signatures m) bytes ins

-- why a file of a machine's inputs is refused
abbrev pub RefusesInputs : Fsmd → Operand → FileContent → Answer → Type 0
RefusesInputs m file content answer = RefusesKeys (HasInputFault m) file content answer

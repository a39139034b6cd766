-- Files of a machine's binding, and which answer one gets.
use Rattle.std.specs.Prelude.{◌≡◌, ℕ, ◌≤◌, List, length}
use Rattle.fs_model.specs.Limits.{most_text_bytes}
use Rattle.fs_model.specs.Machines.{Fsmd}
use Rattle.fs_model.specs.Source.{Source}
use Rattle.hls_bind.specs.declared.faults.Fault.{Fault}
use Rattle.hls_bind.specs.declared.faults.Fault.TheVariants as faults
use Rattle.hls_bind.specs.BindingMembers.{GivesBinding, HasFaultyBinding}
use Rattle.fsmd_synthesis_answers.specs.BindingAnswers.{Binding, IsBoundText, IsConflictLine}
use Rattle.fsmd_replies.specs.declared.answer.Operand.{Operand}
use Rattle.fsmd_replies.specs.declared.answer.KeyFault.{KeyFault}
use Rattle.fsmd_replies.specs.declared.answer.KeyFault.TheVariants as keys
use Rattle.fsmd_replies.specs.declared.answer.Answer.{Answer}
use Rattle.fsmd_replies.specs.declared.answer.Answer.TheVariants.{Text, Differs}
use Rattle.fsmd_answers.specs.LineAnswers.{HasLines}
use Rattle.fsmd_answers.specs.Readings.{FileContent}
use Rattle.fsmd_answers.specs.JsonKeys.{RefusesKeys}

-- what is wrong at the name of a local
abbrev pub binding_fault : Fault → KeyFault
binding_fault faults.Unknown = keys.UnknownName
binding_fault faults.Shape = keys.Shape
binding_fault faults.BadName = keys.BadName
binding_fault faults.Taken = keys.Taken

-- bytes that are read are JSON, whose first fault as a binding of a machine is this, at this name
pub record HasBindingFault (m : Fsmd) (fault : KeyFault) (name bytes : List ℕ) : Type 0 where
  pub few : length bytes ≤ most_text_bytes
  pub kind : Fault
  pub is : fault ≡ binding_fault kind
  pub faulty : HasFaultyBinding m.variables bytes name kind

-- bytes that are read give a machine this binding
pub record SpellsBinding (m : Fsmd) (b : Binding) (bytes : List ℕ) : Type 0 where
  pub few : length bytes ≤ most_text_bytes
  pub gives : GivesBinding m.variables bytes b

-- why a file of a machine's binding is refused
abbrev pub RefusesBinding : Fsmd → Operand → FileContent → Answer → Type 0
RefusesBinding m file content answer = RefusesKeys (HasBindingFault m) file content answer

-- the answer to a binding of the machine of these parts: the text of the parts with registers, or the first branch that loses a
-- local
pub data IsOfBinding (p : Source) (b : Binding) (answer : Answer) : Type 0 where
  IsBound : HasLines (IsBoundText p b) Text answer → IsOfBinding p b answer
  Loses : HasLines (IsConflictLine p b) Differs answer → IsOfBinding p b answer

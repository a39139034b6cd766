-- Files of unit counts, and which answer a machine gets under them.
use Rattle.std.specs.Prelude.{◌≡◌, ℕ, ◌≤◌, List, length, Some}
use Rattle.fs_model.specs.Limits.{most_text_bytes}
use Rattle.fs_model.specs.Source.{Source}
use Rattle.fs_rules.specs.MachineOfParts.{machine_of}
use Rattle.fs_ast.specs.StoredBranches.{state_name_of}
use Rattle.hls_unit_counts.specs.declared.units.Unit.{Unit as Kind}
use Rattle.hls_unit_counts.specs.declared.faults.Fault.{Fault}
use Rattle.hls_unit_counts.specs.declared.faults.Fault.TheVariants as faults
use Rattle.hls_unit_counts.specs.Counts.{Units}
use Rattle.hls_unit_counts.specs.Refusals.{SpellsCounts, HasFaultyCount}
use Rattle.hls_block_filling.specs.Over.{over_in}
use Rattle.fsmd_synthesis_answers.specs.ScheduleAnswers.{IsScheduleText}
use Rattle.fsmd_replies.specs.declared.answer.Operand.{Operand}
use Rattle.fsmd_replies.specs.AskedFiles.{operand}
use Rattle.fsmd_replies.specs.declared.answer.KeyFault.{KeyFault}
use Rattle.fsmd_replies.specs.declared.answer.KeyFault.TheVariants as keys
use Rattle.fsmd_replies.specs.declared.answer.Answer.{Answer}
use Rattle.fsmd_replies.specs.declared.answer.Answer.TheVariants.{Text, Over}
use Rattle.fsmd_answers.specs.LineAnswers.{HasLines}
use Rattle.fsmd_answers.specs.Readings.{FileContent}
use Rattle.fsmd_answers.specs.JsonKeys.{RefusesKeys}

-- what is wrong at the key of a kind of unit
abbrev pub unit_fault : Fault → KeyFault
unit_fault faults.Shape = keys.Shape
unit_fault faults.Unknown = keys.UnknownName

-- bytes that are read are JSON, whose first fault as unit counts is this, at this key
pub record HaveUnitFault (fault : KeyFault) (key bytes : List ℕ) : Type 0 where
  pub few : length bytes ≤ most_text_bytes
  pub kind : Fault
  pub is : fault ≡ unit_fault kind
  pub faulty : HasFaultyCount bytes key kind

-- bytes that are read spell these unit counts
pub record SpellUnits (units : Units) (bytes : List ℕ) : Type 0 where
  pub few : length bytes ≤ most_text_bytes
  pub spells : SpellsCounts bytes units

-- why a file of unit counts is refused
abbrev pub RefusesUnits : Operand → FileContent → Answer → Type 0
RefusesUnits file content answer = RefusesKeys HaveUnitFault file content answer

-- the answer to the machine of these parts under these units: its schedule, or the first state of which a transition uses more of
-- a unit
pub data IsOfSchedule (p : Source) (units : Units) (answer : Answer) : Type 0 where
  IsOver : (q : ℕ) (k : Kind) → over_in units (machine_of p) ≡ Some (q, k)
      → answer ≡ Over (operand 1) (state_name_of (machine_of p) q) k
      → IsOfSchedule p units answer
  InRows : HasLines (IsScheduleText units p) Text answer → IsOfSchedule p units answer

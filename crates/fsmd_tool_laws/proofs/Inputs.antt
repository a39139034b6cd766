-- Bytes are one thing as inputs of a machine.
use Rattle.std.proofs.Common.{◌≡◌, ℕ, List, Option, Some, sym, ◌∙◌, ap, subst}
use Rattle.std.proofs.lemmas.Option.{same_Some}
use Rattle.fs_model.specs.Machines.{Fsmd}
use Rattle.fs_model.specs.Runs.{Inputs}
use Rattle.fs_stores.specs.InputValues.{Signature}
use Rattle.fs_inputs.specs.declared.faults.Fault.{Fault}
use Rattle.fs_inputs.specs.InputMembers.{input_file_fault, inputs_in}
use Rattle.base_json_files.proofs.Once.{one_value}
use Rattle.fs_inputs.specs.Refusals.{HasFaultyInput, ValueSpellsInputs, SpellsInputFile}
use Rattle.serde_json.specs.Data.{Data}
use Rattle.serde_json.specs.Find.{as_object}
use Rattle.fsmd_tool.specs.InputFiles.{signatures, input_fault, HasInputFault, SpellsInputs, RefusesInputs}
use Rattle.fsmd_tool_laws.proofs.Contents.{some_none, OpensInOneWay}
use Rattle.fsmd_tool_laws.proofs.Keys.{AreOneThing, keys_open}

spelled_once : (fs : List Signature) (d : Data) (x y : Inputs) → ValueSpellsInputs fs d x → ValueSpellsInputs fs d y → x ≡ y
spelled_once fs d x y p q = p.inputs ∙ ap inputs_in (same_Some p.members q.members (sym p.object ∙ q.object)) ∙ sym q.inputs

inputs_once : (fs : List Signature) (bytes : List ℕ) (x y : Inputs) → SpellsInputFile fs bytes x → SpellsInputFile fs bytes y → x ≡ y
inputs_once fs bytes x y p q = spelled_once fs q.value x y
    (subst (λ d. ValueSpellsInputs fs d x) (one_value bytes p.value q.value p.json q.json) p.spelled) q.spelled

faulty_once : (fs : List Signature) (bytes n k : List ℕ) (f g : Fault) → HasFaultyInput fs bytes n f → HasFaultyInput fs bytes k g
    → Path (List ℕ × Fault) (n, f) (k, g)
faulty_once fs bytes n k f g p q =
    let value : p.value ≡ q.value = one_value bytes p.value q.value p.json q.json in
    let first : Path (Option (List ℕ × Fault)) (Some (n, f)) (Some (k, g)) = sym p.first ∙ ap (λ d. input_file_fault fs (as_object d)) value ∙ q.first in
    same_Some (n, f) (k, g) first

faultless : (fs : List Signature) (d : Data) (ins : Inputs) (name : List ℕ) (f : Fault) → ValueSpellsInputs fs d ins
    → input_file_fault fs (as_object d) ≡ Some (name, f) → ⊥
faultless fs d ins name f p e = some_none (name, f) (input_file_fault fs (as_object d)) e (ap (input_file_fault fs) p.object ∙ p.faultless)

spelled_or_faulty : (fs : List Signature) (bytes : List ℕ) (ins : Inputs) (name : List ℕ) (f : Fault) → SpellsInputFile fs bytes ins
    → HasFaultyInput fs bytes name f → ⊥
spelled_or_faulty fs bytes ins name f p q =
    faultless fs q.value ins name f (subst (λ d. ValueSpellsInputs fs d ins) (one_value bytes p.value q.value p.json q.json) p.spelled) q.first

-- bytes are one thing as inputs of a machine
inputs_are_one : (m : Fsmd) → AreOneThing Inputs (HasInputFault m) (SpellsInputs m)
inputs_are_one m = record {
  few_without = λ b p. p.few;
  few_faulty = λ b f k p. p.few;
  few_spelled = λ b v p. p.few;
  without_or_faulty = λ b f k p q. p.refused q.faulty.value q.faulty.json;
  without_or_spelled = λ b v p q. p.refused q.spells.value q.spells.json;
  faulty_or_spelled = λ b f k v p q. spelled_or_faulty (signatures m) b v k p.kind q.spells p.faulty;
  one_fault = λ b f g k j p q.
      let same = faulty_once (signatures m) b k j p.kind q.kind p.faulty q.faulty in
      ap (λ h. (h, k)) p.is ∙ ap (λ (t : List ℕ × Fault). (input_fault t.1, t.0)) same ∙ ap (λ h. (h, j)) (sym q.is);
  one_value = λ b v w p q. inputs_once (signatures m) b v w p.spells q.spells;
}

-- the file of a machine's inputs is one thing
pub inputs_open : (m : Fsmd) → OpensInOneWay Inputs (RefusesInputs m) (SpellsInputs m)
inputs_open m = keys_open Inputs (HasInputFault m) (SpellsInputs m) (inputs_are_one m)

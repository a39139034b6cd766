-- Bytes are one thing as unit counts, and a machine gets one answer under them.
use Rattle.std.proofs.Common.{◌≡◌, ℕ, List, Option, Some, sym, ◌∙◌, ap, subst}
use Rattle.std.proofs.lemmas.Option.{same_Some}
use Rattle.serde_json.specs.Data.{Data}
use Rattle.serde_json.specs.Find.{as_object}
use Rattle.fs_model.specs.Source.{Source}
use Rattle.fs_rules.specs.MachineOfParts.{machine_of}
use Rattle.fs_ast.specs.StoredBranches.{state_name_of}
use Rattle.hls_unit_counts.specs.declared.units.Unit.{Unit as Kind}
use Rattle.hls_unit_counts.specs.declared.faults.Fault.{Fault}
use Rattle.hls_unit_counts.specs.Counts.{Units, count_file_fault, counts_in}
use Rattle.base_json_files.proofs.Once.{one_value}
use Rattle.hls_unit_counts.specs.Refusals.{ValueSpellsCounts, SpellsCounts, HasFaultyCount}
use Rattle.hls_block_filling.specs.Over.{over_in}
use Rattle.fsmd_replies.specs.declared.answer.Answer.{Answer}
use Rattle.fsmd_replies.specs.declared.answer.Answer.TheVariants.{Text, Over}
use Rattle.fsmd_replies.specs.AskedFiles.{operand}
use Rattle.fsmd_tool.specs.ScheduleFiles.{unit_fault, HaveUnitFault, SpellUnits, RefusesUnits, IsOfSchedule, IsOver, InRows}
use Rattle.fsmd_tool_laws.proofs.Contents.{some_none, OpensInOneWay}
use Rattle.fsmd_tool_laws.proofs.Keys.{AreOneThing, keys_open}

units_once : (bytes : List ℕ) (u v : Units) → SpellsCounts bytes u → SpellsCounts bytes v → u ≡ v
units_once bytes u v p q = p.spelled.counts ∙ ap counts_in (one_value bytes p.value q.value p.json q.json) ∙ sym q.spelled.counts

faulty_once : (bytes k j : List ℕ) (f g : Fault) → HasFaultyCount bytes k f → HasFaultyCount bytes j g → Path (List ℕ × Fault) (k, f) (j, g)
faulty_once bytes k j f g p q =
    let value : p.value ≡ q.value = one_value bytes p.value q.value p.json q.json in
    let first : Path (Option (List ℕ × Fault)) (Some (k, f)) (Some (j, g)) = sym p.first ∙ ap (λ d. count_file_fault (as_object d)) value ∙ q.first in
    same_Some (k, f) (j, g) first

faultless : (d : Data) (units : Units) (key : List ℕ) (f : Fault) → ValueSpellsCounts d units → count_file_fault (as_object d) ≡ Some (key, f) → ⊥
faultless d units key f p e = some_none (key, f) (count_file_fault (as_object d)) e (ap count_file_fault p.object ∙ p.faultless)

spelled_or_faulty : (bytes : List ℕ) (units : Units) (key : List ℕ) (f : Fault) → SpellsCounts bytes units → HasFaultyCount bytes key f → ⊥
spelled_or_faulty bytes units key f p q = faultless q.value units key f
    (subst (λ d. ValueSpellsCounts d units) (one_value bytes p.value q.value p.json q.json) p.spelled) q.first

-- bytes are one thing as unit counts
units_are_one : AreOneThing Units HaveUnitFault SpellUnits
units_are_one = record {
  few_without = λ b p. p.few;
  few_faulty = λ b f k p. p.few;
  few_spelled = λ b v p. p.few;
  without_or_faulty = λ b f k p q. p.refused q.faulty.value q.faulty.json;
  without_or_spelled = λ b v p q. p.refused q.spells.value q.spells.json;
  faulty_or_spelled = λ b f k v p q. spelled_or_faulty b v k p.kind q.spells p.faulty;
  one_fault = λ b f g k j p q.
      let same = faulty_once b k j p.kind q.kind p.faulty q.faulty in
      ap (λ h. (h, k)) p.is ∙ ap (λ (t : List ℕ × Fault). (unit_fault t.1, t.0)) same ∙ ap (λ h. (h, j)) (sym q.is);
  one_value = λ b v w p q. units_once b v w p.spells q.spells;
}

-- the file of unit counts is one thing
pub units_open : OpensInOneWay Units RefusesUnits SpellUnits
units_open = keys_open Units HaveUnitFault SpellUnits units_are_one

-- the machine of parts gets one answer under unit counts
pub schedule_once : (p : Source) (units : Units) (x y : Answer) → IsOfSchedule p units x → IsOfSchedule p units y → x ≡ y
schedule_once p units x y (IsOver q k o e) (IsOver r j u h) =
    let same : Path (ℕ × Kind) (q, k) (r, j) = same_Some (q, k) (r, j) (sym o ∙ u) in
    e ∙ ap (λ (t : ℕ × Kind). Over (operand 1) (state_name_of (machine_of p) t.0) t.1) same ∙ sym h
schedule_once p units x y (IsOver q k o e) (InRows l) = absurd (some_none (q, k) (over_in units (machine_of p)) o l.holds.fits)
schedule_once p units x y (InRows l) (IsOver q k o h) = absurd (some_none (q, k) (over_in units (machine_of p)) o l.holds.fits)
schedule_once p units x y (InRows l) (InRows n) = l.is ∙ ap Text (l.holds.is ∙ sym n.holds.is) ∙ sym n.is

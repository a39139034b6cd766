-- A schedule of a machine is one of the machine of its parts.
use Rattle.std.proofs.Common.{◌≡◌, ◌∙◌, ◌++◌, ℕ, List, None, length, map, sym, ap₂, subst}
use Rattle.std.specs.List.{All, flat_map}
use Rattle.std.proofs.lemmas.List.Elements.{All-map}
use Rattle.fs_model.specs.Machines.{Fsmd}
use Rattle.fs_model.specs.Runs.{SameBehaviour}
use Rattle.fs_model.specs.Source.{Source}
use Rattle.fs_ast.specs.MachineOfParts.{machine_of}
use Rattle.fs_ast.specs.Rules.{BreaksNoRule}
use Rattle.fs_lex.specs.MachineTexts.{TextSpells}
use Rattle.fs_write.specs.Canonical.{canonical}
use Rattle.fs_write.specs.CanonicalLines.{with_canonical_lines, without_lines}
use Rattle.fs_write.proofs.Again.{only_lines}
use Rattle.fs_write.specs.CommentLines.{lines_moved}
use Rattle.fs_write.proofs.Unlined.{same_machine, same_law, moved_same}
use Rattle.hls_unit_counts.specs.Counts.{Units}
use Rattle.hls_block_filling.specs.Over.{over_in}
use Rattle.hls_block_filling.specs.Schedules.{IsWithin, schedule_of}
use Rattle.hls_block_filling.specs.Sources.{scheduled_source}
use Rattle.hls_sched.specs.declared.scheduling.LineReport.{LineReport}
use Rattle.hls_sched.specs.Reports.{Report, report_of, reports, KeepsLengths}
use Rattle.fsmd_synthesis_answers.specs.ScheduleAnswers.{report_text, IsScheduleText}

-- the same of any machine
record IsScheduleFrom (units : Units) (p : Source) (m : Fsmd) (text : List ℕ) : Type 0 where
  fits : over_in units m ≡ None
  is : text ≡ flat_map (report_text m) (reports units m) ++ canonical (scheduled_source units p m)
  spelled : Source
  spells : TextSpells text spelled
  lawful : BreaksNoRule spelled
  machine : machine_of spelled ≡ schedule_of units m
  same : SameBehaviour m (schedule_of units m)
  within : IsWithin units (schedule_of units m)
  lengths : All (KeepsLengths units m) (reports units m)

of_machine : (units : Units) (p : Source) (text : List ℕ) → IsScheduleFrom units p (machine_of p) text → IsScheduleText units p text
of_machine units p text s =
    record {
      fits = s.fits;
      is = s.is;
      spelled = s.spelled;
      spells = s.spells;
      lawful = s.lawful;
      machine = s.machine;
      same = s.same;
      within = s.within;
      lengths = s.lengths;
    }

pub is_schedule : (units : Units) (p : Source) (m : Fsmd) (q : Source) (k : Fsmd) (lines : List LineReport) (text : List ℕ) → m ≡ machine_of p
    → over_in units m ≡ None → q ≡ scheduled_source units p m → BreaksNoRule q → k ≡ machine_of q
    → k ≡ schedule_of units m → SameBehaviour m k → IsWithin units k → map report_of lines ≡ reports units m
    → All (λ r. KeepsLengths units m (report_of r)) lines → text ≡ flat_map (report_text m) (map report_of lines) ++ canonical q
    → TextSpells text (lines_moved (length lines) (with_canonical_lines q)) → IsScheduleText units p text
is_schedule units p m q k lines text e fits parts lawful built scheduled same within told lengths text_is spells =
    let z = lines_moved (length lines) (with_canonical_lines q) in
    let lines_alone : without_lines z ≡ without_lines q = moved_same (length lines) (with_canonical_lines q) ∙ only_lines q in
    let s : IsScheduleFrom units p m text = record {
      fits = fits;
      is = text_is ∙ ap₂ (λ (rs : List Report) (r : Source). flat_map (report_text m) rs ++ canonical r) told parts;
      spelled = z;
      spells = spells;
      lawful = same_law q z lines_alone lawful;
      machine = same_machine q z lines_alone ∙ sym built ∙ scheduled;
      same = subst (λ n. SameBehaviour m n) scheduled same;
      within = subst (λ n. IsWithin units n) scheduled within;
      lengths = subst (λ (rs : List Report). All (KeepsLengths units m) rs) told (All-map (KeepsLengths units m) report_of lines lengths);
    } in
    of_machine units p text (subst (λ n. IsScheduleFrom units p n text) e s)

-- What a machine gets under unit counts.
use Rattle.std.specs.Prelude.{◌≡◌, ℕ, List, ◌++◌, None}
use Rattle.std.specs.List.{All, flat_map}
use Rattle.fs_model.specs.Machines.{Fsmd}
use Rattle.fs_model.specs.Runs.{SameBehaviour}
use Rattle.fs_model.specs.Source.{Source}
use Rattle.fs_ast.specs.MachineOfParts.{machine_of}
use Rattle.fs_ast.specs.Rules.{BreaksNoRule}
use Rattle.fs_ast.specs.StoredBranches.{state_name_of}
use Rattle.fs_lex.specs.MachineTexts.{TextSpells}
use Rattle.fs_write.specs.Canonical.{canonical}
use Rattle.hls_unit_counts.specs.Counts.{Units}
use Rattle.hls_block_filling.specs.Over.{over_in}
use Rattle.hls_block_filling.specs.Schedules.{IsWithin, schedule_of}
use Rattle.hls_block_filling.specs.Sources.{scheduled_source}
use Rattle.hls_sched.specs.Reports.{Report, reports, KeepsLengths}
use Rattle.fsmd_replies.specs.ScheduleTexts.{report_line}

-- what is told of a line: its first state, its length before and now, and its chain
abbrev pub report_text : Fsmd → Report → List ℕ
report_text m r = report_line (state_name_of m r.first) r.before r.after r.chain

-- what is told of each line, in a comment, and the canonical text of the parts with their lines in rows
abbrev pub schedule_text : Units → Source → List ℕ
schedule_text units p = flat_map (report_text (machine_of p)) (reports units (machine_of p))
    ++ canonical (scheduled_source units p (machine_of p))

-- no transition uses more of a unit than is given, and this text tells of each line; what it spells breaks no rule, and its
-- machine is the schedule of the machine, which behaves as before, is within the units, and has lines of the lengths that it
-- should have
pub record IsScheduleText (units : Units) (p : Source) (text : List ℕ) : Type 0 where
  pub fits : over_in units (machine_of p) ≡ None
  pub is : text ≡ schedule_text units p
  pub spelled : Source
  pub spells : TextSpells text spelled
  pub lawful : BreaksNoRule spelled
  pub machine : machine_of spelled ≡ schedule_of units (machine_of p)
  pub same : SameBehaviour (machine_of p) (schedule_of units (machine_of p))
  pub within : IsWithin units (schedule_of units (machine_of p))
  pub lengths : All (KeepsLengths units (machine_of p)) (reports units (machine_of p))

use Rattle.std.proofs.Common.{sym, subst}
use Rattle.fs_base.specs.Outside.{AreHeld}
use Rattle.fsmd_answers.specs.ScheduleFiles.{RefusesUnits}
use Rattle.fsmd_tool.proofs.FromFiles.{bytes_given}
use Rattle.fsmd_tool.proofs.load.load_units.Goals as goal

pub returns-clause-refused : goal.returns-clause-refused
returns-clause-refused g c =
    bytes_given _ _ c.as_slice.result.now (RefusesUnits c.args.file) c.read_units.result
    (subst (AreHeld _) (sym c.as_slice.ensures.value) c.in_ok-bytes.ensures.held) c.read_units.ensures.refused

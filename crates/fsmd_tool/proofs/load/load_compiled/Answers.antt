use Rattle.std.proofs.Common.{sym, subst}
use Rattle.fs_base.specs.Outside.{AreHeld}
use Rattle.fsmd_answers.specs.ProgramFiles.{RefusesProgram}
use Rattle.fsmd_tool.proofs.FromFiles.{bytes_given, compiled_held}
use Rattle.fsmd_tool.proofs.load.load_compiled.Goals as goal

pub returns-clause-refused : goal.returns-clause-refused
returns-clause-refused g c =
    bytes_given _ _ c.as_slice.result.now (RefusesProgram c.args.file) c.compile_program.result
    (subst (AreHeld _) (sym c.as_slice.ensures.value) c.in_ok-bytes.ensures.held) c.compile_program.ensures.refused

pub returns-clause-compiled : goal.returns-clause-compiled
returns-clause-compiled g c = compiled_held _ c.as_slice.result.now c.compile_program.result
    (subst (AreHeld _) (sym c.as_slice.ensures.value) c.in_ok-bytes.ensures.held) c.compile_program.ensures.compiled

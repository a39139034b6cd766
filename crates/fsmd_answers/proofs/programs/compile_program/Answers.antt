use Rattle.std.proofs.Common.{refl}
use Rattle.hls_program_parts.specs.View.{program_of}
use Rattle.fsmd_answers.specs.ProgramFiles.{ProgramByRule}
use Rattle.fsmd_answers.proofs.ProgramAnswers.{program_answer}
use Rattle.fsmd_answers.proofs.programs.compile_program.Goals as goal

pub returns-in-Ok-clause-compiled : goal.returns-in-Ok-clause-compiled
returns-in-Ok-clause-compiled c =
    let program = program_of c.in_ok-program.program in
    let spells = c.in_ok-program.ensures.spells in
    program_answer c.args.bytes.now c.in-Ok.text.items c.of.result program c.requires spells c.in-Ok.ensures.compiled c.of.ensures

pub returns-in-Err-Check-clause-refused : goal.returns-in-Err-Check-clause-refused
returns-in-Err-Check-clause-refused c =
    let broken = rw c.in-Err-Check.field-0-is at c.in-Err-Check.ensures.refused in
    ProgramByRule c.in-Err-Check.fault
    (record { program = program_of c.in_ok-program.program; few = c.requires; spells = c.in_ok-program.ensures.spells; broken = broken }) refl

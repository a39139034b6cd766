use Rattle.std.proofs.Common.{refl}
use Rattle.fsmd_answers.specs.ProgramFiles.{ProgramByText}
use Rattle.fsmd_answers.proofs.programs.read_program.Goals as goal

pub returns-in-Err-Text-clause-refused : goal.returns-in-Err-Text-clause-refused
returns-in-Err-Text-clause-refused c =
    let stops = rw c.in-Err-Text.field-0-is at c.in-Err-Text.ensures.faulty in
    ProgramByText c.in-Err-Text.fault (record { few = c.requires; stops = stops }) refl

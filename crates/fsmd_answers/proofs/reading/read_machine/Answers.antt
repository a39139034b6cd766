use Rattle.std.proofs.Common.{ap, refl}
use Rattle.fs_model.specs.View.{source_of}
use Rattle.fsmd_replies.specs.declared.answer.Answer.TheVariants.{TextRefused}
use Rattle.fsmd_answers.specs.Refusals.{ByText, ByRule}
use Rattle.fsmd_answers.proofs.reading.read_machine.Goals as goal

pub returns-in-Err-Text-clause-refused : goal.returns-in-Err-Text-clause-refused
returns-in-Err-Text-clause-refused c =
    let t = rw c.in-Err-Text.field-0-is at c.in-Err-Text.ensures.faulty in
    ByText c.in-Err-Text.fault (record { few = c.requires; stops = t }) (ap (TextRefused c.args.file) c.in-Err-Text.fault-is)

pub returns-in-Err-Check-clause-refused : goal.returns-in-Err-Check-clause-refused
returns-in-Err-Check-clause-refused c =
    let b = rw c.in-Err-Check.field-0-is at c.in-Err-Check.ensures.first in
    ByRule _ (record { parts = source_of c.in-Ok.parts; few = c.requires; spells = c.in-Ok.ensures.text; broken = b }) refl

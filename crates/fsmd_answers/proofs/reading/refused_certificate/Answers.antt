use Rattle.std.proofs.Common.{refl}
use Rattle.fsmd_answers.specs.Refusals.{ByCertificate}
use Rattle.fsmd_answers.proofs.reading.refused_certificate.Goals as goal

pub returns-in_default : goal.returns-in_default
returns-in_default c = λ a b bytes few h. ByCertificate c.args.error (record { few = few; told = c.in_default.not-NoMemory; refused = h }) refl

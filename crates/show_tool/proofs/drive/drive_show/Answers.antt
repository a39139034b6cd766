use Rattle.std.proofs.Common.{refl}
use Rattle.show_tool.specs.ViewCalls.{Starves}
use Rattle.show_tool.proofs.drive.drive_show.Goals as goal

pub returns-in-Err-clause-outcome : goal.returns-in-Err-clause-outcome
returns-in-Err-clause-outcome g c = Starves refl c.in-Err.ensures.err

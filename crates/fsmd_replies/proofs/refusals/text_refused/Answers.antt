use Rattle.std.proofs.Common.{rules, sym}
use Rattle.fsmd_replies.proofs.refusals.text_refused.Goals as goal

pub returns : goal.returns
returns c = rw (sym c.kind_name-kind.ensures) (search rules)

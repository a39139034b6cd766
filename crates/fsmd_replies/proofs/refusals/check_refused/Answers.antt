use Rattle.std.proofs.Common.{rules, sym}
use Rattle.fsmd_replies.proofs.refusals.check_refused.Goals as goal

pub returns : goal.returns
returns c = rw (sym c.rule_name-rule.ensures) (search rules)

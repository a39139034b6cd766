use Rattle.fs_write.proofs.BareTexts.{bare_expression, bare_condition}
use Rattle.fs_write.proofs.laws.no_bracket_can_be_left_out.Goals as goal

pub returns-clause-expressions : goal.returns-clause-expressions
returns-clause-expressions c = bare_expression

pub returns-clause-guards : goal.returns-clause-guards
returns-clause-guards c = bare_condition

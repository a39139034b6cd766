use Rattle.fs_lex.proofs.Limit.{mark_counts, operators_alone}
use Rattle.fs_lex.proofs.text_laws.the_mark_counts_the_expression.Goals as goal

pub returns-clause-counts : goal.returns-clause-counts
returns-clause-counts c = mark_counts

pub returns-clause-alone : goal.returns-clause-alone
returns-clause-alone c = operators_alone

use Rattle.fs_lex.proofs.Exact.{bad, only_bad}
use Rattle.fs_lex.proofs.token_laws.a_byte_is_bad_where_nothing_begins.Goals as goal

pub returns-clause-bad : goal.returns-clause-bad
returns-clause-bad c = bad

pub returns-clause-only : goal.returns-clause-only
returns-clause-only c = only_bad

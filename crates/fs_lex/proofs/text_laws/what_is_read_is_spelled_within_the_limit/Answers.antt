use Rattle.fs_lex.proofs.Limit.{spelled_found, spelled_only}
use Rattle.fs_lex.proofs.text_laws.what_is_read_is_spelled_within_the_limit.Goals as goal

pub returns-clause-found : goal.returns-clause-found
returns-clause-found c = spelled_found

pub returns-clause-only : goal.returns-clause-only
returns-clause-only c = spelled_only

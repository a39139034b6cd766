use Rattle.fs_lex.proofs.Counted.{tokens_end}
use Rattle.fs_lex.proofs.text_laws.tokens_end_once.Goals as goal

pub returns : goal.returns
returns c = tokens_end

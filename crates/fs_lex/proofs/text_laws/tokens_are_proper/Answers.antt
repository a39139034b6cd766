use Rattle.fs_lex.proofs.Counted.{tokens_proper}
use Rattle.fs_lex.proofs.text_laws.tokens_are_proper.Goals as goal

pub returns : goal.returns
returns c = tokens_proper

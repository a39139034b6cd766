use Rattle.fs_lex.proofs.Tokenized.{tokenized}
use Rattle.fs_lex.proofs.token_laws.a_text_is_its_tokens.Goals as goal

pub returns : goal.returns
returns c = tokenized

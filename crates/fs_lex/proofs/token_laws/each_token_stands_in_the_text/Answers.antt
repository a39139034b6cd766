use Rattle.fs_lex.proofs.Stood.{stands_in_text}
use Rattle.fs_lex.proofs.token_laws.each_token_stands_in_the_text.Goals as goal

pub returns : goal.returns
returns c = stands_in_text

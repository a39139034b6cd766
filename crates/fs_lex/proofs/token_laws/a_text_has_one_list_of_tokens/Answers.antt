use Rattle.std.specs.Prelude.{[]}
use Rattle.fs_lex.specs.Scan.{tokens_of}
use Rattle.fs_lex.proofs.Tokenized.{tokenized}
use Rattle.fs_lex.proofs.Unique.{one_list}
use Rattle.fs_lex.proofs.token_laws.a_text_has_one_list_of_tokens.Goals as goal

pub returns : goal.returns
returns c = λ bytes ts h. one_list ts (tokens_of bytes) [] bytes h (tokenized bytes)

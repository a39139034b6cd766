use Rattle.fs_phrase_text.proofs.ExactExpressions.{read_stands}
use Rattle.fs_phrase_text.proofs.expression_laws.what_is_read_stands_first.Goals as goal

pub returns : goal.returns
returns c = λ e w ts rest q. read_stands e w ts rest q

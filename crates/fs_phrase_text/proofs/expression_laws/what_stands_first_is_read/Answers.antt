use Rattle.fs_phrase_text.proofs.ExactExpressions.{stands_read}
use Rattle.fs_phrase_text.proofs.expression_laws.what_stands_first_is_read.Goals as goal

pub returns : goal.returns
returns c = λ e w ts rest h. stands_read e w ts rest h

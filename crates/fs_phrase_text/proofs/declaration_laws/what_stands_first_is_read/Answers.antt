use Rattle.fs_phrase_text.proofs.ExactDeclarations.{stands_read}
use Rattle.fs_phrase_text.proofs.declaration_laws.what_stands_first_is_read.Goals as goal

pub returns : goal.returns
returns c = λ f o d ts rest h. stands_read f o d ts rest h

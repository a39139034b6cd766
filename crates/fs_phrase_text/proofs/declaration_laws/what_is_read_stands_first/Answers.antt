use Rattle.fs_phrase_text.proofs.ExactDeclarations.{read_stands}
use Rattle.fs_phrase_text.proofs.declaration_laws.what_is_read_stands_first.Goals as goal

pub returns : goal.returns
returns c = λ f o d ts rest i q. read_stands f o d ts rest i q

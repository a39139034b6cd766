use Rattle.cert_terms.proofs.Readings.{texts_are_read}
use Rattle.cert_text.proofs.laws.texts_are_read.Goals as goal

pub returns : goal.returns
returns c = texts_are_read

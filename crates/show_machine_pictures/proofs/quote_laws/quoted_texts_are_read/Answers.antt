use Rattle.show_machine_pictures.proofs.QuoteReading.{reads_back}
use Rattle.show_machine_pictures.proofs.quote_laws.quoted_texts_are_read.Goals as goal

pub returns : goal.returns
returns c = reads_back

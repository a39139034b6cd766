use Rattle.term_writer.proofs.LiteralTexts.{literal_bound}
use Rattle.term_writer.proofs.laws.written_literals_are_short.Goals as goal

pub returns : goal.returns
returns c = λ name l h n. literal_bound name l h n

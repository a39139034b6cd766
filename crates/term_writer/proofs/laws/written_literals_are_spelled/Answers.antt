use Rattle.term_writer.proofs.LiteralTexts.{literal_spells}
use Rattle.term_writer.proofs.laws.written_literals_are_spelled.Goals as goal

pub returns : goal.returns
returns c = λ name find l h n. literal_spells name find l h n

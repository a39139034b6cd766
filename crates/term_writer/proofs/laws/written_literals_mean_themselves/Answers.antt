use Rattle.term_writer.proofs.LiteralTexts.{literal_back}
use Rattle.term_writer.proofs.laws.written_literals_mean_themselves.Goals as goal

pub returns : goal.returns
returns c = λ name find l h n o. literal_back name find l h n o

use Rattle.fs_grammar.proofs.Formats.{none_in_one}
use Rattle.fs_grammar.proofs.laws.ports_need_format_two.Goals as goal

pub returns : goal.returns
returns c = λ i j k n t ws h b. none_in_one i j k n t ws h b

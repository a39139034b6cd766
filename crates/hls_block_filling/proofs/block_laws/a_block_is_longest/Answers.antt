use Rattle.hls_block_filling.proofs.Covering.{none_before, none_behind}
use Rattle.hls_block_filling.proofs.block_laws.a_block_is_longest.Goals as goal

pub returns-clause-before : goal.returns-clause-before
returns-clause-before c = λ m p h sound e lt. none_before m sound p h e lt

pub returns-clause-behind : goal.returns-clause-behind
returns-clause-behind c = λ m q r a sound l. none_behind m sound q r a l

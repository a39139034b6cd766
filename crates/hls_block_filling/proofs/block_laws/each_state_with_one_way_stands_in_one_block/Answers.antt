use Rattle.hls_block_filling.proofs.Covering.{stands, stands_once}
use Rattle.hls_block_filling.proofs.block_laws.each_state_with_one_way_stands_in_one_block.Goals as goal

pub returns-clause-some : goal.returns-clause-some
returns-clause-some c = λ m q sound h e. stands m sound q h e

pub returns-clause-line : goal.returns-clause-line
returns-clause-line c = λ m q a b sound. (stands_once m sound q a b).0

pub returns-clause-place : goal.returns-clause-place
returns-clause-place c = λ m q a b sound. (stands_once m sound q a b).1

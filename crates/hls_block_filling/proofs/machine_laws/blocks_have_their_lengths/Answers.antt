use Rattle.hls_block_filling.proofs.Schedules.{no_longer, at_least_chain, chain_where_ample}
use Rattle.hls_block_filling.proofs.machine_laws.blocks_have_their_lengths.Goals as goal

pub returns-clause-no_longer : goal.returns-clause-no_longer
returns-clause-no_longer c = λ m units q sound within h e. no_longer m units sound within q h e

pub returns-clause-chain : goal.returns-clause-chain
returns-clause-chain c = λ m units q sound within h e. at_least_chain m units sound within q h e

pub returns-clause-ample : goal.returns-clause-ample
returns-clause-ample c = λ m units q sound within h e a. chain_where_ample m units sound within q h e a

use Rattle.hls_block_filling.proofs.NewBlocks.{has_rows, is_first, name_kept}
use Rattle.hls_block_filling.proofs.block_laws.rows_are_blocks_of_the_new_machine.Goals as goal

pub returns-clause-first : goal.returns-clause-first
returns-clause-first c = λ m rows q sound keeps h f. is_first m sound rows keeps q h f

pub returns-clause-length : goal.returns-clause-length
returns-clause-length c = λ m rows q sound keeps h f. has_rows m sound rows keeps q h f

pub returns-clause-name : goal.returns-clause-name
returns-clause-name c = λ m rows q sound keeps h f. name_kept m sound rows keeps q h f

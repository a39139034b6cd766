use Rattle.hls_block_filling.proofs.IntoRows.{rows_keep_the_store}
use Rattle.hls_block_filling.proofs.placing_laws.a_valid_placing_keeps_the_store.Goals as goal

pub returns : goal.returns
returns c = rows_keep_the_store

use Rattle.hls_block_filling.proofs.Found.{text_by_rows}
use Rattle.hls_block_filling.proofs.source_laws.rows_decide_the_text.Goals as goal

pub returns : goal.returns
returns c = text_by_rows

use Rattle.hls_block_filling.proofs.Once.{assigns_once}
use Rattle.hls_block_filling.proofs.placing_laws.a_row_assigns_no_scalar_twice.Goals as goal

pub returns : goal.returns
returns c = assigns_once

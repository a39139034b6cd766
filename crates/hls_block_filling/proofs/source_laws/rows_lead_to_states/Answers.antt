use Rattle.hls_block_filling.proofs.Found.{found_leads_in}
use Rattle.hls_block_filling.proofs.source_laws.rows_lead_to_states.Goals as goal

pub returns : goal.returns
returns c = λ units p m q d sound e. found_leads_in m sound units p q d e

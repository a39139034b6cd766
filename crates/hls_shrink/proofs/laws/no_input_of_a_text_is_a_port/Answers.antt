use Rattle.hls_shrink.proofs.ByName.{no_input_ports}
use Rattle.hls_shrink.proofs.laws.no_input_of_a_text_is_a_port.Goals as goal

pub returns : goal.returns
returns c = no_input_ports

use Rattle.hls_program_parts.proofs.StateNames.{is_state_name}
use Rattle.hls_program_parts.proofs.laws.states_are_named.Goals as goal

pub returns : goal.returns
returns c = λ n h. is_state_name n h

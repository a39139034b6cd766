use Rattle.show_traces.proofs.Once.{one_trace}
use Rattle.show_traces.proofs.laws.a_run_has_one_trace.Goals as goal

pub returns : goal.returns
returns c = one_trace

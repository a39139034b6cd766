use Rattle.fs_run_text.proofs.Serving.{serves_both}
use Rattle.fs_run_text.proofs.laws.inputs_serve_both.Goals as goal

pub returns : goal.returns
returns c = serves_both

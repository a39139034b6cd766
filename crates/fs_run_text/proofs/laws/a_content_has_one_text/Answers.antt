use Rattle.fs_run_text.proofs.Once.{content_once}
use Rattle.fs_run_text.proofs.laws.a_content_has_one_text.Goals as goal

pub returns : goal.returns
returns c = content_once

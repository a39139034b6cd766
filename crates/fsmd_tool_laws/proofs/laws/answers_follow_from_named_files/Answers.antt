use Rattle.fsmd_tool_laws.proofs.Named.{named_only}
use Rattle.fsmd_tool_laws.proofs.laws.answers_follow_from_named_files.Goals as goal

pub returns : goal.returns
returns c = λ o r x f. named_only o 0 r x f

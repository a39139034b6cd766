use Rattle.fs_runs.proofs.Steps.{touched_by_taken}
use Rattle.fs_runs.proofs.laws.touched_numbers_are_those_of_the_branch.Goals as goal

pub returns : goal.returns
returns c = touched_by_taken

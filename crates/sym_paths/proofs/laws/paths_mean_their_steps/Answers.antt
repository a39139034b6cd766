use Rattle.fs_cut.specs.Paths.{steps_in}
use Rattle.sym_paths.proofs.Arrivals.{conditions_mean}
use Rattle.sym_paths.proofs.Changes.{steps_done, steps_stay}
use Rattle.sym_paths.proofs.laws.paths_mean_their_steps.Goals as goal

pub returns-clause-conditions : goal.returns-clause-conditions
returns-clause-conditions c = conditions_mean

pub returns-clause-end : goal.returns-clause-end
returns-clause-end c = λ m p side v u w e. steps_done w side m (steps_in p) v u e

pub returns-clause-stays : goal.returns-clause-stays
returns-clause-stays c = λ m p side v u w e. steps_stay w side m (steps_in p) v u e

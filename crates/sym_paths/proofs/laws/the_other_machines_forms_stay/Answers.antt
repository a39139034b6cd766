use Rattle.sym_paths.proofs.Changes.{steps_keep, executed_keeps}
use Rattle.sym_paths.proofs.laws.the_other_machines_forms_stay.Goals as goal

pub returns-clause-steps : goal.returns-clause-steps
returns-clause-steps c = λ m steps side v u s x e. steps_keep side m steps v u e x s

pub returns-clause-executed : goal.returns-clause-executed
returns-clause-executed c = λ m p side v post s x e. executed_keeps side m p v post e x s

use Rattle.fs_model.proofs.Determined.{goes_once}
use Rattle.fs_model.proofs.laws.a_run_is_determined.Goals as goal

pub returns-clause-steps : goal.returns-clause-steps
returns-clause-steps c = λ m s t u n k a b. (goes_once m m.reset s t u n k a b).0

pub returns-clause-end : goal.returns-clause-end
returns-clause-end c = λ m s t u n k a b. (goes_once m m.reset s t u n k a b).1

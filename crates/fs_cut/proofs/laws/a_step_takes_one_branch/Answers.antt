use Rattle.fs_cut.proofs.Branches.{step_taken, takes_branch, taken_holds, taken_is, target_in}
use Rattle.fs_cut.proofs.laws.a_step_takes_one_branch.Goals as goal

pub returns-clause-step : goal.returns-clause-step
returns-clause-step c = λ m q s sound h. step_taken m sound q s h

pub returns-clause-in_range : goal.returns-clause-in_range
returns-clause-in_range c = λ m q s sound h. (takes_branch m sound q s h).within

pub returns-clause-holds : goal.returns-clause-holds
returns-clause-holds c = λ m q s sound h. taken_holds m sound q s h

pub returns-clause-only : goal.returns-clause-only
returns-clause-only c = λ m q k s sound h i e. taken_is m sound q k s h i e

pub returns-clause-leads : goal.returns-clause-leads
returns-clause-leads c = λ m q k sound h. target_in m sound q k h

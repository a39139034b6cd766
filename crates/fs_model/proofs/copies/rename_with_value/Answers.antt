use Rattle.std.proofs.lemmas.Result.{IfOk-at_ok, IfOk-weaker}
use Rattle.fs_model.proofs.copies.rename_with_value.Goals as goal

pub returns-clause-variable : goal.returns-clause-variable
returns-clause-variable g c = IfOk-weaker c.both.result _ _ (λ p e. IfOk-at_ok _ e c.rename.ensures) c.both.ensures.left

pub returns-clause-value : goal.returns-clause-value
returns-clause-value g c = IfOk-weaker c.both.result _ _ (λ p e. IfOk-at_ok _ e c.copy_renamed.ensures) c.both.ensures.right

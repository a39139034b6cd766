use Rattle.std.proofs.Common.{rules}
use Rattle.std.proofs.lemmas.Result.{IfOk-at_ok, IfOk-weaker}
use Rattle.fs_model.proofs.parts.Expr.+copy_renamed.Goals as goal

pub returns-in-Read : goal.returns-in-Read
returns-in-Read g t c = let made = c.renamed_element.ensures _ c.copy_renamed.ensures in search rules

pub returns-in-Add : goal.returns-in-Add
returns-in-Add g t c =
    let made = c.same_operator.ensures _ _
    (IfOk-weaker c.made_in_box-left.result _ _ (λ b e. IfOk-at_ok _ e c.copy_renamed-in-Add.ensures) c.made_in_box-left.ensures)
    (IfOk-weaker c.made_in_box-right.result _ _ (λ b e. IfOk-at_ok _ e c.copy_renamed-in-Add-2.ensures) c.made_in_box-right.ensures) in
    search rules

pub returns-in-Neg : goal.returns-in-Neg
returns-in-Neg g t c = let made = c.negative.ensures _ c.copy_renamed-in-Neg.ensures in search rules

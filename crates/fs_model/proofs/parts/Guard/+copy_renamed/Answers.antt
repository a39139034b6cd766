use Rattle.std.proofs.Common.{rules}
use Rattle.std.proofs.lemmas.Result.{IfOk-at_ok, IfOk-weaker}
use Rattle.fs_model.proofs.parts.Guard.+copy_renamed.Goals as goal

pub returns-in-Lit : goal.returns-in-Lit
returns-in-Lit g t c = rw c.in-Lit.is (c.test.ensures _ c.copy_renamed.ensures)

pub returns-in-Not : goal.returns-in-Not
returns-in-Not g t c = let made = c.denial.ensures _ c.copy_renamed-in-Not.ensures in search rules

pub returns-in-And : goal.returns-in-And
returns-in-And g t c =
    let made = c.same_connective.ensures _ _
    (IfOk-weaker c.made_in_box-left.result _ _ (λ b e. IfOk-at_ok _ e c.copy_renamed-in-And.ensures) c.made_in_box-left.ensures)
    (IfOk-weaker c.made_in_box-right.result _ _ (λ b e. IfOk-at_ok _ e c.copy_renamed-in-And-2.ensures) c.made_in_box-right.ensures) in
    search rules

use Rattle.std.proofs.lemmas.Result.{IfOk-at_ok}
use Rattle.fs_model.proofs.copies.Lit+VarId.negation.Goals as goal

pub returns : goal.returns
returns c =
    let left = IfOk-at_ok _ c.in_ok-left.ensures.left c.try_clone.ensures in
    let right = IfOk-at_ok _ c.in_ok-left.ensures.right c.try_clone-2.ensures in
    λ j. record { relation = c.opposite.ensures j; left = left j; right = right j }

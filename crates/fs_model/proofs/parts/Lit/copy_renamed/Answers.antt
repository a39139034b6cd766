use Rattle.std.proofs.Common.{ap₂}
use Rattle.std.proofs.lemmas.Result.{IfOk-at_ok}
use Rattle.fs_model.specs.Expressions.{Expression}
use Rattle.fs_model.proofs.parts.Lit.copy_renamed.Goals as goal

pub returns : goal.returns
returns g c =
    ap₂ (λ (a b : Expression _). record { relation = c.args.self.now.rel; left = a; right = b }) (IfOk-at_ok _ c.in_ok-left.ensures.left c.copy_renamed.ensures)
    (IfOk-at_ok _ c.in_ok-left.ensures.right c.copy_renamed-2.ensures)

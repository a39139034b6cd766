use Rattle.fs_model.specs.View.{named_guard}
use Rattle.fs_expression_text.specs.Inside.{guard_alone}
use Rattle.hls_program_text.proofs.Hosted.{guard_goes}
use Rattle.hls_program_text.proofs.expressions.guard.Goals as goal

pub returns-clause-goes : goal.returns-clause-goes
returns-clause-goes c = λ h. guard_goes h c.guard.result c.args.tokens.now (λ x. x.1.now) (λ x. named_guard x.0)
    (c.guard.ensures.goes guard_alone) c.guard.ensures.ends

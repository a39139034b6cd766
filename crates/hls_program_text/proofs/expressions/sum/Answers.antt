use Rattle.fs_model.specs.View.{named_expression}
use Rattle.fs_expression_text.specs.Inside.{sum_alone}
use Rattle.hls_program_text.proofs.Hosted.{sum_goes}
use Rattle.hls_program_text.proofs.expressions.sum.Goals as goal

pub returns-clause-goes : goal.returns-clause-goes
returns-clause-goes c = λ h. sum_goes h c.sum.result c.args.tokens.now (λ x. x.1.now) (λ x. named_expression x.0) (c.sum.ensures.goes sum_alone)
    c.sum.ensures.ends

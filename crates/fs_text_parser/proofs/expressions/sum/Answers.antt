use Rattle.fs_model.specs.View.{named_expression}
use Rattle.fs_grammar.specs.Grammar.{reading}
use Rattle.fs_expression_text.specs.Inside.{at_sum, after_sum, sum_alone}
use Rattle.fs_expression_text.proofs.Hosted.{carried}
use Rattle.fs_text_parser.proofs.Placed.{placed, behind, hosts, sums_at}
use Rattle.fs_text_parser.proofs.expressions.sum.Goals as goal

pub returns-clause-goes : goal.returns-clause-goes
returns-clause-goes c =
    λ k. carried reading (placed (sums_at k)) (behind (sums_at k)) (hosts (sums_at k)) c.sum.result c.args.tokens.now (at_sum sum_alone) (λ x. x.1.now)
    (λ x. after_sum (named_expression x.0) sum_alone) (c.sum.ensures.goes sum_alone)

use Rattle.fs_model.specs.View.{named_guard}
use Rattle.fs_grammar.specs.Grammar.{reading}
use Rattle.fs_expression_text.specs.Inside.{at_guard, after_guard, guard_alone}
use Rattle.fs_expression_text.proofs.Hosted.{carried}
use Rattle.fs_text_parser.proofs.Placed.{placed, behind, hosts, guards_at}
use Rattle.fs_text_parser.proofs.expressions.guard.Goals as goal

pub returns-clause-goes : goal.returns-clause-goes
returns-clause-goes c =
    λ k. carried reading (placed (guards_at k)) (behind (guards_at k)) (hosts (guards_at k)) c.guard.result c.args.tokens.now (at_guard guard_alone)
    (λ x. x.1.now) (λ x. after_guard (named_guard x.0) guard_alone) (c.guard.ensures.goes guard_alone)

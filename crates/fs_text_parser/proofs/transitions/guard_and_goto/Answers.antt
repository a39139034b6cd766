use Rattle.std.proofs.Common.{Some, option_map, arith}
use Rattle.fs_model.specs.View.{named_guard}
use Rattle.fs_grammar.specs.Grammar.{reading, at_target, transition_guard}
use Rattle.fs_phrase_text.proofs.Joined.{joined, if_joined}
use Rattle.fs_text_parser.proofs.transitions.guard_and_goto.Goals as goal

pub returns-clause-goes : goal.returns-clause-goes
returns-clause-goes c =
    let guard = c.in_ok-guard.guard in
    λ d n. joined c.join.result (Some guard) c.goto.result (λ x. reading x.1.now (at_target d n (option_map named_guard x.0))) c.join.ensures
    (c.in_ok-guard.ensures.goes (transition_guard d n)) (c.goto.ensures.goes (named_guard guard) d n)

pub returns-clause-shorter : goal.returns-clause-shorter
returns-clause-shorter c =
    if_joined c.join.result (Some c.in_ok-guard.guard) c.goto.result _ _ c.join.ensures c.goto.ensures.shorter
    (λ y h. omega (arith, h, c.in_ok-guard.ensures.shorter))

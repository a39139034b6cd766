use Rattle.std.proofs.Common.{[], ◌∷◌, cond, arith}
use Rattle.fs_model.specs.View.{named_expression}
use Rattle.fs_grammar.specs.Grammar.{reading, destination_assignment, with_assignments, at_assignment, at_transition, close_transition, value}
use Rattle.fs_phrase_text.proofs.Joined.{joined, if_joined}
use Rattle.fs_text_parser.proofs.transitions.listed_value.Goals as goal

pub returns-clause-goes : goal.returns-clause-goes
returns-clause-goes c =
    let v = c.in_ok-value.value in
    λ o d. joined c.join.result v c.separator.result
    (λ x.
    let next = with_assignments o (destination_assignment d (named_expression x.0) ∷ []) in
    reading x.1.1.now (cond x.1.0 (at_assignment next) (at_transition (close_transition next)))) c.join.ensures (c.in_ok-value.ensures.goes (value o d))
    (c.separator.ensures.goes o d (named_expression v))

pub returns-clause-shorter : goal.returns-clause-shorter
returns-clause-shorter c =
    if_joined c.join.result c.in_ok-value.value c.separator.result _ _ c.join.ensures c.separator.ensures.shorter
    (λ y h. omega (arith, h, c.in_ok-value.ensures.shorter))

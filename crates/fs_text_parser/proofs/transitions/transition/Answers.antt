use Rattle.std.proofs.Common.{◌<◌, length, refl, ap, sym, map, option_map, ◌∙◌, arith}
use Rattle.fs_model.specs.View.{named_guard, named_assignment}
use Rattle.fs_grammar.specs.Tokens.{line_at}
use Rattle.fs_phrase_text.proofs.PassedOn.{refused}
use Rattle.fs_phrase_text.proofs.Joined.{joined, if_joined}
use Rattle.fs_text_parser.proofs.ReadParts.{read_line}
use Rattle.fs_text_parser.proofs.transitions.transition.Goals as goal

pub returns-in_err-guard-clause-goes : goal.returns-in_err-guard-clause-goes
returns-in_err-guard-clause-goes c =
    λ d e. refused c.from_residual.result c.in_err-guard.field-0.0 _ c.from_residual.ensures.1 refl (c.in_err-guard.ensures.goes d)

pub returns-in_err-guard-2-clause-goes : goal.returns-in_err-guard-2-clause-goes
returns-in_err-guard-2-clause-goes c =
    let n = line_at c.args.tokens.now in
    let guard = c.in_ok-guard.guard in
    λ d e. refused c.from_residual-in_err-guard-2.result c.in_err-guard-2.field-0.0 _ c.from_residual-in_err-guard-2.ensures.1
    (c.in_ok-guard.ensures.goes d)
    (joined _ guard c.target.result
    (λ x. read_line d n (option_map named_guard x.0) x.1.0 (map named_assignment x.1.1.0.items) x.1.1.1)
    c.in_err-guard-2.ensures refl (c.target.ensures.goes d n (option_map named_guard guard) e))

pub returns-clause-goes : goal.returns-clause-goes
returns-clause-goes c =
    let guard = c.in_ok-guard.guard in
    let after = c.in_ok-guard-2 in
    λ d e. c.in_ok-guard.ensures.goes d
    ∙ joined _ guard c.target.result
    (λ x. read_line d (line_at c.args.tokens.now) (option_map named_guard x.0) x.1.0 (map named_assignment x.1.1.0.items) x.1.1.1)
    after.ensures refl (c.target.ensures.goes d (line_at c.args.tokens.now) (option_map named_guard guard) e)
    ∙ ap (λ n. read_line d n (option_map named_guard after.guard) after.target (map named_assignment after.assigns.items) after.rest)
    (sym c.line_of-line.ensures)

pub returns-clause-shorter : goal.returns-clause-shorter
returns-clause-shorter c =
    if_joined _ c.in_ok-guard.guard c.target.result (λ x. length x.1.1.1.now < length c.args.tokens.now) _ c.in_ok-guard-2.ensures c.target.ensures.shorter
    (λ y h. omega (arith, h, c.in_ok-guard.ensures.shorter))

use Rattle.std.proofs.Common.{[], ap, ◌∙◌}
use Rattle.fs_grammar.specs.PartEnds.{name_in}
use Rattle.fs_grammar.specs.Tokens.{◌>>=◌}
use Rattle.fs_grammar.specs.Grammar.{reading, after_reset, at_state}
use Rattle.fs_text_parser.proofs.Steps.{name_reset}
use Rattle.fs_phrase_text.proofs.PassedOn.{stopped}
use Rattle.fs_phrase_text.proofs.Joined.{joined}
use Rattle.fs_text_parser.proofs.declarations.reset.Goals as goal

pub returns-in_err-name : goal.returns-in_err-name
returns-in_err-name c =
    let ts = c.args.tokens.now in
    λ f ds n. stopped c.from_residual.result c.in_err-name.field-0.0 (name_in ts)
    (λ x. reading x.1 (after_reset f (record { declarations = ds; reset_line = n; reset = x.0; states = [] }))) _
    c.from_residual.ensures.1 (name_reset ts f ds n) c.in_err-name.ensures

pub returns : goal.returns
returns c =
    let ts = c.args.tokens.now in
    let name = c.in_ok-name.name in
    λ f ds n. joined c.join.result name c.semicolon.result
    (λ x. reading x.1.now (at_state f (record { declarations = ds; reset_line = n; reset = x.0; states = [] }))) c.join.ensures
    (name_reset ts f ds n
    ∙ ap (λ q. q >>= λ x. reading x.1 (after_reset f (record { declarations = ds; reset_line = n; reset = x.0; states = [] }))) c.in_ok-name.ensures)
    (c.semicolon.ensures.reset f (record { declarations = ds; reset_line = n; reset = name; states = [] }))

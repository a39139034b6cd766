use Rattle.std.proofs.Common.{◌≡◌, Some, ap, sym, ◌∙◌}
use Rattle.fs_grammar.specs.declared.token.TokenKind.{TokenKind}
use Rattle.fs_grammar.specs.declared.token.TokenKind.TheVariants.{OpenBracket}
use Rattle.fs_grammar.specs.Tokens.{tokens_after, kind_at, ◌>>=◌}
use Rattle.fs_expression_text.specs.Inside.{at_sum, sum_alone}
use Rattle.hls_program_parts.specs.ProgramGrammar.{program_reading, inside, for_index}
use Rattle.hls_program_text.proofs.Readings.{bracket_taken}
use Rattle.fs_phrase_text.proofs.PassedOn.{refused, stopped}
use Rattle.hls_program_text.proofs.assignments.optional_index.Goals as goal

pub returns-in_err-rest-in-Some-OpenBracket-clause-goes : goal.returns-in_err-rest-in-Some-OpenBracket-clause-goes
returns-in_err-rest-in-Some-OpenBracket-clause-goes c =
    let ts = c.args.tokens.now in
    let is : kind_at ts ≡ Some OpenBracket = sym c.in-Some-OpenBracket.ensures ∙ ap (λ (w : TokenKind). Some w) c.in-Some-OpenBracket.field-0-is in
    λ o b n x. stopped c.from_residual.result c.in_err-rest-in-Some-OpenBracket.field-0.0 (tokens_after ts)
    (λ r. program_reading r (inside (for_index o b n x) (at_sum sum_alone))) _
    c.from_residual.ensures.1 (bracket_taken ts o b n x is) c.in_err-rest-in-Some-OpenBracket.ensures.gives

pub returns-in_err-index-in-Some-OpenBracket-clause-goes : goal.returns-in_err-index-in-Some-OpenBracket-clause-goes
returns-in_err-index-in-Some-OpenBracket-clause-goes c =
    let ts = c.args.tokens.now in
    let is : kind_at ts ≡ Some OpenBracket = sym c.in-Some-OpenBracket.ensures ∙ ap (λ (w : TokenKind). Some w) c.in-Some-OpenBracket.field-0-is in
    λ o b n x. refused c.from_residual-in_err-index-in-Some-OpenBracket.result c.in_err-index-in-Some-OpenBracket.field-0.0 _
    c.from_residual-in_err-index-in-Some-OpenBracket.ensures.1 (bracket_taken ts o b n x is
    ∙ ap (λ q. q >>= λ r. program_reading r (inside (for_index o b n x) (at_sum sum_alone))) c.in_ok-rest-in-Some-OpenBracket.ensures.gives)
    (c.in_err-index-in-Some-OpenBracket.ensures.goes o b n x)

pub returns-in_ok-index-in-Some-OpenBracket-clause-goes : goal.returns-in_ok-index-in-Some-OpenBracket-clause-goes
returns-in_ok-index-in-Some-OpenBracket-clause-goes c =
    let ts = c.args.tokens.now in
    let is : kind_at ts ≡ Some OpenBracket = sym c.in-Some-OpenBracket.ensures ∙ ap (λ (w : TokenKind). Some w) c.in-Some-OpenBracket.field-0-is in
    λ o b n x. bracket_taken ts o b n x is
    ∙ ap (λ q. q >>= λ r. program_reading r (inside (for_index o b n x) (at_sum sum_alone))) c.in_ok-rest-in-Some-OpenBracket.ensures.gives
    ∙ c.in_ok-index-in-Some-OpenBracket.ensures.goes o b n x

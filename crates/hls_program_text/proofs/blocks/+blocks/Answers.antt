use Rattle.std.proofs.Common.{◌≡◌, ◌<◌, ◌+◌, suc, Some, length, refl, ap, sym, ◌∙◌, arith}
use Rattle.fs_model.specs.View.{named_guard}
use Rattle.fs_grammar.specs.declared.token.TokenKind.{TokenKind}
use Rattle.fs_grammar.specs.declared.token.TokenKind.TheVariants.{Else}
use Rattle.fs_grammar.specs.Tokens.{tokens_after, kind_at, line_at, ◌>>=◌}
use Rattle.hls_program_parts.specs.Programs.{If, While, End, join_blocks}
use Rattle.hls_program_parts.specs.View.{block_of}
use Rattle.hls_program_parts.specs.ProgramGrammar.{depth_of, in_yes, in_no, in_body, program_reading, at_block, at_statement, at_no, close_block}
use Rattle.hls_program_text.specs.Fronts.{tokens_behind_brace}
use Rattle.hls_program_text.proofs.Readings.{opens_yes, opens_no, opens_body, else_taken}
use Rattle.fs_phrase_text.proofs.Joined.{joined, if_joined}
use Rattle.fs_phrase_text.proofs.PassedOn.{refused, stopped, goes_after}
use Rattle.hls_program_text.proofs.blocks.+blocks.Goals as goal

pub block-returns-in_err-rest-clause-goes : goal.block-returns-in_err-rest-clause-goes
block-returns-in_err-rest-clause-goes t c =
    let ts = c.args.tokens.now in
    λ o e. stopped c.from_residual.result c.in_err-rest.field-0.0 (tokens_behind_brace c.args.depth ts)
    (λ r. program_reading r (at_block o)) _ c.from_residual.ensures.1
    (ap (λ d. tokens_behind_brace d ts >>= λ r. program_reading r (at_block o)) e) c.in_err-rest.ensures.gives

pub block-returns-clause-goes : goal.block-returns-clause-goes
block-returns-clause-goes t c =
    let ts = c.args.tokens.now in
    λ o e. goes_after c.statements.result _ (ap (λ d. tokens_behind_brace d ts >>= λ r. program_reading r (at_block o)) e
    ∙ ap (λ q. q >>= λ r. program_reading r (at_block o)) c.in_ok-rest.ensures.gives) (c.statements.ensures.goes o e)

pub statements-returns-clause-goes : goal.statements-returns-clause-goes
statements-returns-clause-goes t c =
    let l = c.each in
    λ o e. joined c.join.result l.all c.close_brace.result (λ x. program_reading x.1.now (close_block o (block_of x.0.items)))
    c.join.ensures (l.invariant.0 o e) (c.close_brace.ensures.goes o (block_of l.all.items))

pub statements-returns-clause-shorter : goal.statements-returns-clause-shorter
statements-returns-clause-shorter t c =
    let l = c.each in
    if_joined c.join.result l.all c.close_brace.result _ _ c.join.ensures c.close_brace.ensures.shorter (λ y h. omega (arith, h, l.invariant.1))

pub both_blocks-returns-in_err-yes-clause-goes : goal.both_blocks-returns-in_err-yes-clause-goes
both_blocks-returns-in_err-yes-clause-goes t c =
    λ o b n g e. let d : suc (depth_of o) ≡ c.args.depth + 1 = omega (arith, e) in
    refused c.from_residual.result c.in_err-yes.field-0.0 _ c.from_residual.ensures.1 (opens_yes c.args.tokens.now o b n g)
    (c.in_err-yes.ensures.goes (in_yes o b n g) d)

pub otherwise-returns-in_err-rest-in-Some-Else-clause-goes : goal.otherwise-returns-in_err-rest-in-Some-Else-clause-goes
otherwise-returns-in_err-rest-in-Some-Else-clause-goes t c =
    let is : kind_at c.args.tokens.now ≡ Some Else = sym c.in-Some-Else.ensures ∙ ap (λ (w : TokenKind). Some w) c.in-Some-Else.field-0-is in
    λ o b n g y e. stopped c.from_residual.result c.in_err-rest-in-Some-Else.field-0.0 (tokens_after c.args.tokens.now)
    (λ r. program_reading r (at_no o b n g y)) _
    c.from_residual.ensures.1 (else_taken c.args.tokens.now o b n g y is) c.in_err-rest-in-Some-Else.ensures.gives

pub otherwise-returns-in_ok-rest-in-Some-Else-clause-goes : goal.otherwise-returns-in_ok-rest-in-Some-Else-clause-goes
otherwise-returns-in_ok-rest-in-Some-Else-clause-goes t c =
    let is : kind_at c.args.tokens.now ≡ Some Else = sym c.in-Some-Else.ensures ∙ ap (λ (w : TokenKind). Some w) c.in-Some-Else.field-0-is in
    λ o b n g y e. let d : suc (depth_of o) ≡ c.args.depth + 1 = omega (arith, e) in
    goes_after c.block.result _ (else_taken c.args.tokens.now o b n g y is
    ∙ ap (λ q. q >>= λ r. program_reading r (at_no o b n g y)) c.in_ok-rest-in-Some-Else.ensures.gives
    ∙ opens_no c.in_ok-rest-in-Some-Else.rest.now o b n g y) (c.block.ensures.goes (in_no o b n g y) d)

pub both_blocks-returns-clause-goes : goal.both_blocks-returns-clause-goes
both_blocks-returns-clause-goes t c =
    let yes = c.in_ok-yes.yes in
    λ o b n g e.
    let deeper : suc (depth_of o) ≡ c.args.depth + 1 = omega (arith, e) in
    joined c.join.result yes c.otherwise.result
    (λ x. program_reading x.1.1.now (at_statement o (join_blocks b (If n g (block_of x.0.items) (block_of x.1.0.items) End))))
    c.join.ensures (opens_yes c.args.tokens.now o b n g ∙ c.in_ok-yes.ensures.goes (in_yes o b n g) deeper)
    (c.otherwise.ensures.goes o b n g (block_of yes.items) e)

pub both_blocks-returns-clause-shorter : goal.both_blocks-returns-clause-shorter
both_blocks-returns-clause-shorter t c =
    if_joined c.join.result c.in_ok-yes.yes c.otherwise.result _ _ c.join.ensures c.otherwise.ensures.shorter
    (λ y h. omega (arith, h, c.in_ok-yes.ensures.shorter))

pub choice-returns-in_err-test-clause-goes : goal.choice-returns-in_err-test-clause-goes
choice-returns-in_err-test-clause-goes t c =
    λ o b e. refused c.from_residual.result c.in_err-test.field-0.0 _ c.from_residual.ensures.1 refl (c.in_err-test.ensures.goes o b)

pub choice-returns-in_err-guard-clause-goes : goal.choice-returns-in_err-guard-clause-goes
choice-returns-in_err-guard-clause-goes t c =
    let n = line_at c.args.tokens.now in
    let test = c.in_ok-test.test in
    λ o b e. refused c.from_residual-in_err-guard.result c.in_err-guard.field-0.0 _ c.from_residual-in_err-guard.ensures.1 refl
    (joined _ test c.both_blocks.result
    (λ x. program_reading x.1.1.1.now
    (at_statement o (join_blocks b (If n (named_guard x.0) (block_of x.1.0.items) (block_of x.1.1.0.items) End))))
    c.in_err-guard.ensures (c.in_ok-test.ensures.goes o b) (c.both_blocks.ensures.goes o b n (named_guard test) e))

pub choice-returns-clause-goes : goal.choice-returns-clause-goes
choice-returns-clause-goes t c =
    let n = line_at c.args.tokens.now in
    let test = c.in_ok-test.test in
    let r = c.in_ok-guard in
    let yes = block_of r.yes.items in
    let no = block_of r.no.items in
    λ o b e. joined _ test c.both_blocks.result
    (λ x. program_reading x.1.1.1.now
    (at_statement o (join_blocks b (If n (named_guard x.0) (block_of x.1.0.items) (block_of x.1.1.0.items) End))))
    r.ensures (c.in_ok-test.ensures.goes o b) (c.both_blocks.ensures.goes o b n (named_guard test) e)
    ∙ ap (λ m. program_reading r.rest.now (at_statement o (join_blocks b (If m (named_guard r.guard) yes no End)))) (sym c.line_of-line.ensures)
    ∙ ap (λ s. program_reading r.rest.now (at_statement o (join_blocks b s))) (sym c.if_statement.ensures)

pub choice-returns-clause-shorter : goal.choice-returns-clause-shorter
choice-returns-clause-shorter t c =
    if_joined _ c.in_ok-test.test c.both_blocks.result (λ x. length x.1.1.1.now < length c.args.tokens.now) _ c.in_ok-guard.ensures
    c.both_blocks.ensures.shorter (λ y h. omega (arith, h, c.in_ok-test.ensures.shorter))

pub repetition-returns-in_err-test-clause-goes : goal.repetition-returns-in_err-test-clause-goes
repetition-returns-in_err-test-clause-goes t c =
    λ o b e. refused c.from_residual.result c.in_err-test.field-0.0 _ c.from_residual.ensures.1 refl (c.in_err-test.ensures.goes o b)

pub repetition-returns-in_err-guard-clause-goes : goal.repetition-returns-in_err-guard-clause-goes
repetition-returns-in_err-guard-clause-goes t c =
    let n = line_at c.args.tokens.now in
    let test = c.in_ok-test.test in
    let g = named_guard test in
    λ o b e.
    let deeper : suc (depth_of o) ≡ c.args.depth + 1 = omega (arith, e) in
    refused c.from_residual-in_err-guard.result c.in_err-guard.field-0.0 _ c.from_residual-in_err-guard.ensures.1 refl
    (joined _ test c.block.result
    (λ x. program_reading x.1.1.now (at_statement o (join_blocks b (While n (named_guard x.0) (block_of x.1.0.items) End))))
    c.in_err-guard.ensures (c.in_ok-test.ensures.goes o b ∙ opens_body c.in_ok-test.rest.now o b n g)
    (c.block.ensures.goes (in_body o b n g) deeper))

pub repetition-returns-clause-goes : goal.repetition-returns-clause-goes
repetition-returns-clause-goes t c =
    let n = line_at c.args.tokens.now in
    let test = c.in_ok-test.test in
    let g = named_guard test in
    let r = c.in_ok-guard in
    λ o b e.
    let deeper : suc (depth_of o) ≡ c.args.depth + 1 = omega (arith, e) in
    joined _ test c.block.result
    (λ x. program_reading x.1.1.now (at_statement o (join_blocks b (While n (named_guard x.0) (block_of x.1.0.items) End))))
    r.ensures (c.in_ok-test.ensures.goes o b ∙ opens_body c.in_ok-test.rest.now o b n g)
    (c.block.ensures.goes (in_body o b n g) deeper)
    ∙ ap (λ m. program_reading r.rest.now (at_statement o (join_blocks b (While m (named_guard r.guard) (block_of r.body.items) End))))
    (sym c.line_of-line.ensures)
    ∙ ap (λ s. program_reading r.rest.now (at_statement o (join_blocks b s))) (sym c.while_statement.ensures)

pub repetition-returns-clause-shorter : goal.repetition-returns-clause-shorter
repetition-returns-clause-shorter t c =
    if_joined _ c.in_ok-test.test c.block.result (λ x. length x.1.1.now < length c.args.tokens.now) _ c.in_ok-guard.ensures
    c.block.ensures.shorter (λ y h. omega (arith, h, c.in_ok-test.ensures.shorter))

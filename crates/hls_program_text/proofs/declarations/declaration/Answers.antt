use Rattle.std.proofs.Common.{[], ap, sym, ◌∙◌}
use Rattle.fs_grammar.specs.Tokens.{tokens_after, line_at, ◌>>=◌}
use Rattle.fs_phrase_text.specs.Declaring as declaring
use Rattle.hls_program_parts.specs.ProgramGrammar.{program_reading, at_declaration, in_declaration, with_declaration}
use Rattle.hls_program_text.proofs.Readings.{role_taken}
use Rattle.fs_phrase_text.proofs.PassedOn.{refused, stopped}
use Rattle.hls_program_text.proofs.declarations.declaration.Goals as goal

pub returns-in_err-rest-clause-goes : goal.returns-in_err-rest-clause-goes
returns-in_err-rest-clause-goes c =
    let ts = c.args.tokens.now in
    λ ds. stopped c.from_residual.result c.in_err-rest.field-0.0 (tokens_after ts)
    (λ v. program_reading v (in_declaration ds (declaring.at_sort (line_at ts) c.args.role))) _
    c.from_residual.ensures.1 (role_taken ts c.args.role ds c.requires) c.in_err-rest.ensures.gives

pub returns-in_err-sort-clause-goes : goal.returns-in_err-sort-clause-goes
returns-in_err-sort-clause-goes c =
    let ts = c.args.tokens.now in
    λ ds. refused c.from_residual-in_err-sort.result c.in_err-sort.field-0.0 _ c.from_residual-in_err-sort.ensures.1
    (role_taken ts c.args.role ds c.requires
    ∙ ap (λ q. q >>= λ v. program_reading v (in_declaration ds (declaring.at_sort (line_at ts) c.args.role))) c.in_ok-rest.ensures.gives)
    (c.in_err-sort.ensures.goes ds (line_at ts) c.args.role)

pub returns-in_err-names-clause-goes : goal.returns-in_err-names-clause-goes
returns-in_err-names-clause-goes c =
    let ts = c.args.tokens.now in
    λ ds. refused c.from_residual-in_err-names.result c.in_err-names.field-0.0 _ c.from_residual-in_err-names.ensures.1
    (role_taken ts c.args.role ds c.requires
    ∙ ap (λ q. q >>= λ v. program_reading v (in_declaration ds (declaring.at_sort (line_at ts) c.args.role))) c.in_ok-rest.ensures.gives
    ∙ c.in_ok-sort.ensures.goes ds (line_at ts) c.args.role)
    (c.in_err-names.ensures.goes ds (record { line = line_at ts; role = c.args.role; sort = c.in_ok-sort.sort; names = [] }))

pub returns-clause-goes : goal.returns-clause-goes
returns-clause-goes c =
    let ts = c.args.tokens.now in
    let xs = c.in_ok-names.names.items in
    λ ds. role_taken ts c.args.role ds c.requires
    ∙ ap (λ q. q >>= λ v. program_reading v (in_declaration ds (declaring.at_sort (line_at ts) c.args.role))) c.in_ok-rest.ensures.gives
    ∙ c.in_ok-sort.ensures.goes ds (line_at ts) c.args.role
    ∙ c.in_ok-names.ensures.goes ds (record { line = line_at ts; role = c.args.role; sort = c.in_ok-sort.sort; names = [] })
    ∙ ap (λ m. program_reading c.in_ok-names.rest.now
    (at_declaration (with_declaration ds (record { line = m; role = c.args.role; sort = c.in_ok-sort.sort; names = xs })))) (sym c.line_of-line.ensures)

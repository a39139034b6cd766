use Rattle.std.proofs.Common.{subst, refl, ◌∙◌, arith}
use Rattle.term_text.specs.Machine.{in_atom, at_symbol, IsNoArray}
use Rattle.term_text.proofs.Steps.{atom_ends, array_goes}
use Rattle.term_text.proofs.PassedOn.{refused, none_left}
use Rattle.term_text.proofs.starts.begin_symbol.Goals as goal

pub returns-in_err-expect-clause-goes : goal.returns-in_err-expect-clause-goes
returns-in_err-expect-clause-goes c = λ k. refused c.from_residual.result c.in_err-expect.field-0.0 _ _ c.from_residual.ensures.1 refl
    (c.in_err-expect.ensures.goes (at_symbol c.args.side (in_atom k)))

pub returns-in_err-name-clause-goes : goal.returns-in_err-name-clause-goes
returns-in_err-name-clause-goes c = λ k. refused c.from_residual-in_err-name.result c.in_err-name.field-0.0 _ _ c.from_residual-in_err-name.ensures.1
    (c.in_ok-expect.ensures.goes (at_symbol c.args.side (in_atom k))) (c.in_err-name.ensures.symbol c.args.side (in_atom k))

pub returns-then-goes_on_as_array-clause-goes : goal.returns-then-goes_on_as_array-clause-goes
returns-then-goes_on_as_array-clause-goes c =
    let rest = c.in_ok-name.rest.now in
    let goes_on = subst (IsNoArray rest) c.if-goes_on_as_array.true c.goes_on_as_array.ensures in
    λ k. c.in_ok-expect.ensures.goes (at_symbol c.args.side (in_atom k)) ∙ c.in_ok-name.ensures.symbol c.args.side (in_atom k)
    ∙ array_goes rest c.args.side c.in_ok-name.name.now k goes_on

pub returns-else-goes_on_as_array-clause-goes : goal.returns-else-goes_on_as_array-clause-goes
returns-else-goes_on_as_array-clause-goes c =
    let rest = c.in_ok-name.rest.now in
    let ends = subst (IsNoArray rest) c.if-goes_on_as_array.false c.goes_on_as_array.ensures in
    λ k. c.in_ok-expect.ensures.goes (at_symbol c.args.side (in_atom k)) ∙ c.in_ok-name.ensures.symbol c.args.side (in_atom k)
    ∙ atom_ends rest c.args.side c.in_ok-name.name.now k ends

pub returns-in_err-expect-clause-shorter : goal.returns-in_err-expect-clause-shorter
returns-in_err-expect-clause-shorter c = none_left c.from_residual.result c.in_err-expect.field-0.0 _ c.from_residual.ensures.1

pub returns-in_err-name-clause-shorter : goal.returns-in_err-name-clause-shorter
returns-in_err-name-clause-shorter c = none_left c.from_residual-in_err-name.result c.in_err-name.field-0.0 _ c.from_residual-in_err-name.ensures.1

pub returns-then-goes_on_as_array-clause-shorter : goal.returns-then-goes_on_as_array-clause-shorter
returns-then-goes_on_as_array-clause-shorter c = omega (arith, c.in_ok-name.ensures.shorter, c.in_ok-expect.ensures.shorter)

pub returns-else-goes_on_as_array-clause-shorter : goal.returns-else-goes_on_as_array-clause-shorter
returns-else-goes_on_as_array-clause-shorter c = omega (arith, c.in_ok-name.ensures.shorter, c.in_ok-expect.ensures.shorter)

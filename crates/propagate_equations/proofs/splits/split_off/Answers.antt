use Rattle.std.proofs.Common.{ap, sym, ◌∙◌, map, take, Some}
use Rattle.nf_trees.specs.View.{term_in}
use Rattle.propagate_equations.specs.Equations.{split_off_symbol}
use Rattle.propagate_equations.proofs.Splitting.{split_here, none_split}
use Rattle.propagate_equations.proofs.SplitTurns.{splits_in_turn}
use Rattle.propagate_equations.proofs.splits.split_off.Goals as goal

pub returns-in-Some : goal.returns-in-Some
returns-in-Some c =
    let ms = c.args.meanings.now in
    let ts = c.monos-terms.result.now in
    ap (λ p. Some (record { symbol = c.in-Some.found.symbol; positive = c.in-Some.found.positive; rest = p })) c.in_ok-without.ensures
    ∙ sym
    (split_here ms (map term_in (take c.loop-place.place ts)) c.index-terms-place.result c.loop-place.place ts c.in-Some.found c.loop-place-test.true
    c.index-terms-place.is c.in-Some.ensures)
    ∙ c.loop-place.invariant ∙ splits_in_turn ms (map term_in ts) ∙ ap (split_off_symbol ms) c.monos-terms.ensures.same

pub returns : goal.returns
returns c =
    let ms = c.args.meanings.now in
    let ts = c.monos-terms.result.now in
    sym (none_split ms (map term_in (take c.loop-place.place ts)) c.loop-place.place ts c.loop-place-test.false)
    ∙ c.loop-place.invariant ∙ splits_in_turn ms (map term_in ts) ∙ ap (split_off_symbol ms) c.monos-terms.ensures.same

use Rattle.std.proofs.Common.{◌+◌, List, [], ◌∷◌, ◌++◌, map, drop, Option, Err, ap, sym, subst, ◌∙◌}
use Rattle.nf_terms.specs.Computed.{Answers}
use Rattle.nf_terms.specs.declared.form.Nf.{Nf}
use Rattle.sym_paths.proofs.Loops.{followed}
use Rattle.sym_facts.specs.Facts.{FactPosition}
use Rattle.sym_facts.specs.View.{position_in}
use Rattle.propagate.specs.JoinSteps.{equation_joined, freed_by_join, joined_from}
use Rattle.propagate_equations.specs.View.{freed_in}
use Rattle.propagate.proofs.PassTurns.{told_stop, pushed_map, join_goes, join_stops, join_ends}
use Rattle.propagate.proofs.joins.positions_joined.Goals as goal

pub loop-place-preserved : goal.loop-place-preserved
loop-place-preserved c =
    let v = c.args.v.now in
    let xs = c.args.positions.now in
    let i = c.loop-place.place in
    let x = c.index-positions-place.result in
    let left = c.loop-place.left.now in
    let done = map position_in c.loop-place.out.items in
    let fs = map freed_in c.loop-place.freed.items in
    let new = map freed_in c.equation_joined.new.freed.items in
    let fails = c.is_first-fails.ensures in
    let o = c.in_ok-equation.equation in
    record {
      vector = c.in_ok-equation.ensures.vector ∙ c.loop-place.invariant.vector;
      rest = ap (λ ds. followed ds (joined_from v (i + 1) c.left_behind-left.result.now new (map position_in (drop (i + 1) xs))))
          (pushed_map position_in _ _ _ c.in_ok-push.ensures.items)
          ∙ ap (λ js. followed (done ++ record { pos = x.pos; sort = x.sort; equation = o } ∷ [])
          (joined_from v (i + 1) js new (map position_in (drop (i + 1) xs))))
          c.left_behind-left.ensures
          ∙ join_goes position_in v xs i x c.loop-place-test.true c.index-positions-place.is left done o fs new
          (ap (λ b. equation_joined v b x.pos x.equation fs) (sym fails) ∙ c.in_ok-equation.ensures.answers)
          (c.in_ok-equation.ensures.freed ∙ ap (λ b. freed_by_join b x.pos x.equation o fs) fails)
          ∙ c.loop-place.invariant.rest;
    }

pub returns-in_err-equation : goal.returns-in_err-equation
returns-in_err-equation c =
    let v = c.args.v.now in
    let x = c.index-positions-place.result in
    let fs = map freed_in c.loop-place.freed.items in
    let event = c.in_err-equation.field-0.0 in
    told_stop (λ out. map position_in out.items) c.from_residual.result event _ c.from_residual.ensures.1
    (subst (Answers {T = List FactPosition} (Err event)) c.loop-place.invariant.rest
    (join_stops position_in v c.args.positions.now c.loop-place.place x c.loop-place-test.true c.index-positions-place.is c.loop-place.left.now
    (map position_in c.loop-place.out.items) fs event
    (subst (λ b. Answers {T = Option Nf} (Err event) (equation_joined v b x.pos x.equation fs)) c.is_first-fails.ensures c.in_err-equation.ensures.answers)))

pub returns : goal.returns
returns c =
    sym c.loop-place.invariant.rest
    ∙ join_ends position_in c.args.v.now c.args.positions.now c.loop-place.place _ (map position_in c.loop-place.out.items) _ c.loop-place-test.false

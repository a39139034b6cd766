use Rattle.std.proofs.Common.{◌+◌, List, map, drop, Err, ap, sym, subst, ◌∙◌}
use Rattle.nf_terms.specs.Computed.{Answers}
use Rattle.fs_model.proofs.Lists.{same_there}
use Rattle.sym_paths.proofs.Loops.{followed}
use Rattle.sym_facts.specs.Facts.{FactPosition}
use Rattle.sym_facts.specs.View.{position_in}
use Rattle.propagate.specs.RebaseSteps.{third_from}
use Rattle.propagate.proofs.PassTurns.{told_stop, pushed_map, third_goes, third_stops, third_ends}
use Rattle.propagate.proofs.rebases.third_pass.Goals as goal

pub loop-marked-preserved : goal.loop-marked-preserved
loop-marked-preserved c =
    let v = c.args.v.now in
    let ms = c.args.meanings.now in
    let xs = c.args.positions.now in
    let i = c.loop-marked.marked-index in
    let done = map position_in c.loop-marked.out.items in
    let new = c.equation_given.new.freed.items in
    record {
      vector = c.in_ok-equation.ensures.vector ∙ c.loop-marked.invariant.vector;
      rest = ap (λ ds. followed ds (third_from v ms (map (λ m. m.position) (drop (i + 1) xs)) (map (λ m. m.is_free) (drop (i + 1) xs)) new))
          (pushed_map position_in _ _ _ c.in_ok-push.ensures.items)
          ∙ third_goes v xs i _ c.loop-marked-test.true
          (same_there _ _ _ _ c.loop-marked-test.true) ms done c.in_ok-equation.equation c.loop-marked.freed.items _
          c.in_ok-equation.ensures.answers c.in_ok-equation.ensures.freed
          ∙ c.loop-marked.invariant.rest;
    }

pub returns-in_err-equation-clause-answers : goal.returns-in_err-equation-clause-answers
returns-in_err-equation-clause-answers c =
    let event = c.in_err-equation.field-0.0 in
    told_stop (λ out. map position_in out.items) c.from_residual.result event _ c.from_residual.ensures.1
    (subst (Answers {T = List FactPosition} (Err event)) c.loop-marked.invariant.rest
    (third_stops c.args.v.now c.args.positions.now c.loop-marked.marked-index _ c.loop-marked-test.true
    (same_there _ _ _ _ c.loop-marked-test.true)
    c.args.meanings.now (map position_in c.loop-marked.out.items) c.loop-marked.freed.items event c.in_err-equation.ensures.answers))

pub returns-clause-answers : goal.returns-clause-answers
returns-clause-answers c =
    sym c.loop-marked.invariant.rest
    ∙ third_ends c.args.v.now c.args.meanings.now c.args.positions.now c.loop-marked.marked-index (map position_in c.loop-marked.out.items)
    c.loop-marked.freed.items c.loop-marked-test.false

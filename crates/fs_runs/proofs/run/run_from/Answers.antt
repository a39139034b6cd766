use Rattle.std.proofs.Common.{◌∙◌, ◌+◌, sym, refl, subst, arith}
use Rattle.std.proofs.lemmas.Bool.{eqb-false, eqb-true}
use Rattle.fs_model.specs.Runs.{FirstReturn}
use Rattle.fs_model.specs.Touched.{StaysInRange}
use Rattle.fs_stores.specs.Values.{store_of}
use Rattle.fs_runs.proofs.Turns.{At, at_next, ended_goes, ended_range, leaves_range, runs_on, run_ended, range_ended}
use Rattle.fs_runs.proofs.run.run_from.Goals as goal

pub returns-in-Err-PastWide-clause-stopped : goal.returns-in-Err-PastWide-clause-stopped
returns-in-Err-PastWide-clause-stopped c = λ ins e.
    let m = c.args.m.now in
    leaves_range m ins c.args.limit c.loop-done.done c.loop-done.at.0 (store_of c.loop-done.store)
    (subst (λ s. At m c.loop-done.done c.loop-done.at.0 (store_of c.loop-done.store) m.reset s) e c.loop-done.invariant.at)
    c.loop-done-test.true (rw c.in-Err-PastWide.field-0-is at c.in-Err-PastWide.ensures.past)

pub returns-then-is_reset-clause-ended : goal.returns-then-is_reset-clause-ended
returns-then-is_reset-clause-ended c = λ ins e.
    let m = c.args.m.now in
    run_ended c.end_after.result m ins (c.loop-done.done + 1) (store_of c.step_with.new.store)
    (subst (λ s. FirstReturn m (c.loop-done.done + 1) m.reset s (store_of c.step_with.new.store)) e
    (ended_goes m c.loop-done.done c.loop-done.at.0 c.in-Ok.next.0 (store_of c.loop-done.store)
    (store_of c.step_with.new.store) m.reset (store_of c.args.store.now) c.loop-done.invariant.at c.in-Ok.ensures.step
    (eqb-true c.in-Ok.next.0 m.reset (sym c.is_reset.ensures ∙ c.if-is_reset.true))))
    c.end_after.ensures.outputs c.end_after.ensures.steps

pub returns-then-is_reset-clause-in_range : goal.returns-then-is_reset-clause-in_range
returns-then-is_reset-clause-in_range c = λ ins e.
    let m = c.args.m.now in
    range_ended c.end_after.result m ins (c.loop-done.done + 1)
    (subst (λ s. StaysInRange m (c.loop-done.done + 1) m.reset s) e
    (ended_range m c.loop-done.done c.loop-done.at.0 c.in-Ok.next.0 (store_of c.loop-done.store)
    (store_of c.step_with.new.store) m.reset (store_of c.args.store.now) c.loop-done.invariant.at c.in-Ok.ensures.step c.in-Ok.ensures.in_range))
    c.end_after.ensures.steps

pub loop-done-preserved : goal.loop-done-preserved
loop-done-preserved c =
    let m = c.args.m.now in
    record {
      at = at_next m c.loop-done.done c.loop-done.at.0 c.in-Ok.next.0 (store_of c.loop-done.store)
          (store_of c.step_with.new.store) m.reset (store_of c.args.store.now) c.loop-done.invariant.at c.in-Ok.ensures.step c.in-Ok.ensures.in_range
          (eqb-false c.in-Ok.next.0 m.reset (sym c.is_reset.ensures ∙ c.if-is_reset.false));
      store = c.in-Ok.ensures.kept;
      within = c.in-Ok.ensures.target;
    }

pub returns-clause-stopped : goal.returns-clause-stopped
returns-clause-stopped c = λ ins e.
    let m = c.args.m.now in (
      refl,
      runs_on m ins c.args.limit c.loop-done.done c.loop-done.at.0 (store_of c.loop-done.store)
          (subst (λ s. At m c.loop-done.done c.loop-done.at.0 (store_of c.loop-done.store) m.reset s) e c.loop-done.invariant.at) (omega arith),
    )

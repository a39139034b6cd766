use Rattle.std.proofs.Common.{◌∙◌, sym, subst, arith}
use Rattle.std.proofs.lemmas.Bool.{eqb-false, eqb-true}
use Rattle.fs_stores.specs.Values.{store_of}
use Rattle.show_traces.specs.Traces.{IsTrace}
use Rattle.show_traces.proofs.Tracing.{Goes, goes_next, returned, left, ended}
use Rattle.show_traces.proofs.traces.trace_from.Goals as goal

pub returns-in-None : goal.returns-in-None
returns-in-None c = λ ins e.
    let m = c.args.m.now in
    let l = c.loop-done in
    let step = rw c.in-None.is at c.in_ok-next.ensures.step in
    subst (IsTrace m ins c.args.limit) (sym step.1)
    (left m ins c.args.limit l.done l.at.0 (store_of l.store) l.text.items
    (subst (λ s. Goes m s l.done l.at.0 (store_of l.store) l.text.items) e l.invariant.goes) step.0 c.loop-done-test.true)

pub loop-done-preserved : goal.loop-done-preserved
loop-done-preserved c =
    let m = c.args.m.now in
    let l = c.loop-done in
    let step = rw c.in-Some.is at c.in_ok-next.ensures.step in
    record {
      goes = goes_next m l.done l.at.0 c.in-Some.next.0 (store_of l.store) (store_of c.add_step.new.store) l.text.items c.add_step.new.out.items
          (store_of c.args.store.now) l.invariant.goes step (eqb-false c.in-Some.next.0 m.reset (sym c.is_reset.ensures ∙ c.if-is_reset.false));
      store = c.in_ok-next.ensures.kept;
      within = step.within;
    }

pub returns-then-is_reset : goal.returns-then-is_reset
returns-then-is_reset c = λ ins e.
    let m = c.args.m.now in
    let l = c.loop-done in
    let step = rw c.in-Some.is at c.in_ok-next.ensures.step in
    returned m l.done l.at.0 c.in-Some.next.0 (store_of l.store) (store_of c.add_step.new.store) l.text.items c.add_step.new.out.items
    ins c.args.limit (subst (λ s. Goes m s l.done l.at.0 (store_of l.store) l.text.items) e l.invariant.goes) step
    (eqb-true c.in-Some.next.0 m.reset (sym c.is_reset.ensures ∙ c.if-is_reset.true)) c.loop-done-test.true

pub returns : goal.returns
returns c = λ ins e.
    let m = c.args.m.now in
    let l = c.loop-done in
    ended m ins c.args.limit l.done l.at.0 (store_of l.store) l.text.items
    (subst (λ s. Goes m s l.done l.at.0 (store_of l.store) l.text.items) e l.invariant.goes) (omega arith)

use Rattle.std.proofs.Common.{◌∷◌, ◌++◌, [], sym, ◌∙◌, ap, subst}
use Rattle.base_laws.proofs.Lists.{map_drop_next}
use Rattle.fs_model.specs.View.{assignment_of}
use Rattle.fs_stores.specs.Values.{store_from}
use Rattle.fs_stores.specs.Changes.{change_by, AssignmentsFit}
use Rattle.fs_stores.proofs.Valued.{valued_more}
use Rattle.fs_stores.proofs.changes.value_changes.Goals as goal

pub returns-in_default-clause-past : goal.returns-in_default-clause-past
returns-in_default-clause-past c =
    let parts = map_drop_next assignment_of c.args.assigns.now c.loop-assign.assign-index c.assign-item.result c.loop-assign-test.true c.assign-item.is in
    λ p. c.in_default.ensures (subst (λ l. AssignmentsFit (store_from c.args.values.now) l) parts (c.loop-assign.invariant.back p)).0

pub loop-assign-preserved : goal.loop-assign-preserved
loop-assign-preserved c =
    let s = store_from c.args.values.now in
    let out = c.loop-assign.changes.items in
    let parts = map_drop_next assignment_of c.args.assigns.now c.loop-assign.assign-index c.assign-item.result c.loop-assign-test.true c.assign-item.is in
    record {
      done = valued_more assignment_of (change_by s) c.args.assigns.now c.loop-assign.assign-index c.assign-item.result out c.push.new.out.items
          c.loop-assign-test.true c.assign-item.is (c.in_ok-push.ensures.pushed ∙ ap (λ z. out ++ z ∷ []) c.in-Some.ensures.1) c.loop-assign.invariant.done;
      there = λ p. c.loop-assign.invariant.there (subst (λ l. AssignmentsFit s l) (sym parts) (c.in-Some.ensures.0, p));
      back = λ p. (subst (λ l. AssignmentsFit s l) parts (c.loop-assign.invariant.back p)).1;
    }

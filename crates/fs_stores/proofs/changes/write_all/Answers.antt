use Rattle.std.proofs.Common.{◌≡◌, ◌∙◌, ap, sym, subst, drop, get_or, length, true, ◌+◌, List}
use Rattle.std.specs.Prelude.{pos}
use Rattle.std.specs.List.{list_all}
use Rattle.fs_stores.specs.declared.changes.Change.{Change}
use Rattle.fs_stores.specs.declared.changes.Change.TheVariants.{Set}
use Rattle.fs_stores.specs.Values.{store_from}
use Rattle.fs_stores.specs.Changes.{changed_all, is_ready_change}
use Rattle.fs_stores.proofs.Slots.{left_cons, ready_first, ready_rest}
use Rattle.fs_stores.proofs.changes.write_all.Goals as goal

pub write-requires : goal.write-requires
write-requires c =
    let cs = c.args.changes.now in
    let i = c.loop-change.change-index in
    let old = c.loop-change.values in
    let parts = left_cons cs i (Set 0 (pos 0)) c.loop-change-test.true in
    ready_first old (get_or cs i (Set 0 (pos 0))) (drop (i + 1) cs)
    (subst (λ (l : List Change). list_all (is_ready_change (length l) old) l ≡ true) parts c.loop-change.invariant.ready)

pub loop-change-preserved : goal.loop-change-preserved
loop-change-preserved c =
    let cs = c.args.changes.now in
    let i = c.loop-change.change-index in
    let old = c.loop-change.values in
    let new = c.write.new.values in
    let parts = left_cons cs i (Set 0 (pos 0)) c.loop-change-test.true in
    record {
      changed = ap (λ s. changed_all s (drop (i + 1) cs)) c.write.ensures.changed ∙ sym (ap (changed_all (store_from old)) parts)
          ∙ c.loop-change.invariant.changed;
      sorts = c.write.ensures.sorts ∙ c.loop-change.invariant.sorts;
      ready = ready_rest old new (get_or cs i (Set 0 (pos 0))) (drop (i + 1) cs) c.write.ensures.keeps
          (subst (λ (l : List Change). list_all (is_ready_change (length l) old) l ≡ true) parts c.loop-change.invariant.ready);
    }

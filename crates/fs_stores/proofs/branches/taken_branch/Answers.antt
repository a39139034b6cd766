use Rattle.std.proofs.Common.{◌≡◌, true, false, sym, ◌∙◌}
use Rattle.base_laws.proofs.Lists.{map_drop_next}
use Rattle.fs_model.specs.View.{branch_of}
use Rattle.fs_stores.specs.Values.{store_from}
use Rattle.fs_model.specs.Trees.{literals_hold}
use Rattle.fs_stores.proofs.Tries.{branch_in_front, branch_there, branch_back, branch_ends, open_more, open_here}
use Rattle.fs_stores.proofs.branches.taken_branch.Goals as goal

pub returns-in_err-literals_hold : goal.returns-in_err-literals_hold
returns-in_err-literals_hold c =
    let parts = map_drop_next branch_of c.args.branches.now c.loop-branch.branch-index c.branch-item.result c.loop-branch-test.true c.branch-item.is in
    let no = rw c.as_slice.ensures.value at c.in_err-literals_hold.ensures in
    rw c.from_residual.ensures (λ p. no (branch_in_front _ _ _ (store_from c.args.values.now) parts (c.loop-branch.invariant.back p)))

pub loop-branch-preserved : goal.loop-branch-preserved
loop-branch-preserved c =
    let parts = map_drop_next branch_of c.args.branches.now c.loop-branch.branch-index c.branch-item.result c.loop-branch-test.true c.branch-item.is in
    let held = rw c.as_slice.ensures.value at c.in_ok-literals_hold.ensures in
    let h : literals_hold (branch_of c.branch-item.result).literals (store_from c.args.values.now) ≡ false = sym held.1 ∙ c.if-branch.false in
    record {
      there = λ p. c.loop-branch.invariant.there (branch_there _ _ _ _ parts h held.0 p);
      back = λ p. branch_back _ _ _ _ parts h (c.loop-branch.invariant.back p);
      first = sym (open_more _ _ _ _ parts h) ∙ c.loop-branch.invariant.first;
    }

pub returns-then-branch : goal.returns-then-branch
returns-then-branch c =
    let parts = map_drop_next branch_of c.args.branches.now c.loop-branch.branch-index c.branch-item.result c.loop-branch-test.true c.branch-item.is in
    let held = rw c.as_slice.ensures.value at c.in_ok-literals_hold.ensures in
    let h : literals_hold (branch_of c.branch-item.result).literals (store_from c.args.values.now) ≡ true = sym held.1 ∙ c.if-branch.true in
    (c.loop-branch.invariant.there (branch_ends _ _ _ _ parts h held.0), sym c.loop-branch.invariant.first ∙ open_here _ _ _ _ parts h)

use Rattle.std.proofs.Common.{◌≡◌, length, sym, subst}
use Rattle.std.proofs.Common.{rules}
use Rattle.std.proofs.lemmas.List.{with_items_is}
use Rattle.fs_model.specs.View.{branch_of}
use Rattle.fs_model.specs.Runs.{Step}
use Rattle.fs_stores.specs.Values.{store_from, values_of}
use Rattle.fs_runs.proofs.Steps.{takes, one_open, is_open, past_taken}
use Rattle.fs_runs.proofs.step.step_with.Goals as goal

pub taken_branch-requires : goal.taken_branch-requires
taken_branch-requires c = rw (c.branches.ensures.branches, c.as_slice.ensures.value)
    (is_open c.args.m.now c.args.s.0 (store_from (values_of c.args.store.now)) c.branches.ensures.sound c.requires.state)

pub returns-in_default-clause-past : goal.returns-in_default-clause-past
returns-in_default-clause-past c =
    let s = store_from (values_of c.args.store.now) in
    let no = rw (c.branches.ensures.branches, c.as_slice.ensures.value) at c.in_default.ensures in
    let t = takes c.args.m.now c.args.s.0 s _ c.branches.ensures.sound c.requires.state
    (one_open c.args.m.now c.args.s.0 s c.branches.ensures.sound c.requires.state) in
    λ p. no (t.touched_there p).0

pub returns-in-Err-clause-past : goal.returns-in-Err-clause-past
returns-in-Err-clause-past c =
    let s = store_from (values_of c.args.store.now) in
    let o = rw (c.branches.ensures.branches, c.as_slice.ensures.value) at c.in-Some.ensures in
    let t = takes c.args.m.now c.args.s.0 s (branch_of c.in-Some.branch.now) c.branches.ensures.sound c.requires.state o.1 in
    past_taken _ c.args.m.now c.args.s.0 s (branch_of c.in-Some.branch.now) t
    (rw (c.as_slice-2.ensures.value, c.deref.ensures, c.as_mut_slice.ensures.value) at c.in-Err.ensures.past)

pub assign_all-requires : goal.assign_all-requires
assign_all-requires c =
    let s = store_from (values_of c.args.store.now) in
    let o = rw (c.branches.ensures.branches, c.as_slice.ensures.value) at c.in-Some.ensures in
    let t = takes c.args.m.now c.args.s.0 s (branch_of c.in-Some.branch.now) c.branches.ensures.sound c.requires.state o.1 in
    rw (c.as_slice-2.ensures.value, c.deref.ensures, c.as_mut_slice.ensures.value) (t.suit (values_of c.args.store.now) c.requires.store)

pub returns-in-Ok-clause-step : goal.returns-in-Ok-clause-step
returns-in-Ok-clause-step c =
    let s = store_from (values_of c.args.store.now) in
    let o = rw (c.branches.ensures.branches, c.as_slice.ensures.value) at c.in-Some.ensures in
    let t = takes c.args.m.now c.args.s.0 s (branch_of c.in-Some.branch.now) c.branches.ensures.sound c.requires.state o.1 in
    let done = rw (c.as_slice-2.ensures.value, c.deref.ensures, c.as_mut_slice.ensures.value) at c.in-Ok.ensures.changed in
    let long : length c.assign_all.new.values ≡ c.args.store.now.values.len = search rules in
    subst (λ vs. Step c.args.m.now c.args.s.0 s c.in-Some.branch.now.target.0 (store_from vs))
    (sym (with_items_is c.args.store.now.values c.assign_all.new.values long))
    (subst (λ u. Step c.args.m.now c.args.s.0 s c.in-Some.branch.now.target.0 u) (sym done) t.step)

pub returns-in-Ok-clause-target : goal.returns-in-Ok-clause-target
returns-in-Ok-clause-target c =
    let s = store_from (values_of c.args.store.now) in
    let o = rw (c.branches.ensures.branches, c.as_slice.ensures.value) at c.in-Some.ensures in
    (takes c.args.m.now c.args.s.0 s (branch_of c.in-Some.branch.now) c.branches.ensures.sound c.requires.state o.1).target

pub returns-in-Ok-clause-in_range : goal.returns-in-Ok-clause-in_range
returns-in-Ok-clause-in_range c =
    let o = rw (c.branches.ensures.branches, c.as_slice.ensures.value) at c.in-Some.ensures in
    let fit = rw (c.as_slice-2.ensures.value, c.deref.ensures, c.as_mut_slice.ensures.value) at c.in-Ok.ensures.fit in
    (takes c.args.m.now c.args.s.0 _ (branch_of c.in-Some.branch.now) c.branches.ensures.sound c.requires.state o.1).touched_back o.0 fit

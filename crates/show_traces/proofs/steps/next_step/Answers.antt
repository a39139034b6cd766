use Rattle.std.proofs.Common.{sym, subst}
use Rattle.fs_model.specs.View.{branch_of}
use Rattle.fs_stores.specs.Values.{store_of}
use Rattle.fs_runs.proofs.Steps.{takes, one_open, is_open}
use Rattle.show_traces.specs.Traces.{place_at}
use Rattle.show_traces.specs.Stepping.{IsStepAt}
use Rattle.show_traces.proofs.Following.{step_at}
use Rattle.show_traces.proofs.steps.next_step.Goals as goal

pub taken_branch-requires : goal.taken_branch-requires
taken_branch-requires c = rw (c.branches.ensures.branches, c.as_slice.ensures.value)
    (is_open c.args.m.now c.args.s.0 (store_of c.args.store.now) c.branches.ensures.sound c.requires)

pub returns-in_default : goal.returns-in_default
returns-in_default c =
    let s = store_of c.args.store.now in
    let no = rw (c.branches.ensures.branches, c.as_slice.ensures.value) at c.in_default.ensures in
    let t = takes c.args.m.now c.args.s.0 s _ c.branches.ensures.sound c.requires
    (one_open c.args.m.now c.args.s.0 s c.branches.ensures.sound c.requires) in
    λ p. no (t.touched_there p).0

pub returns-in-Ok : goal.returns-in-Ok
returns-in-Ok c =
    let m = c.args.m.now in
    let s = store_of c.args.store.now in
    let b = branch_of c.in-Some.branch.now in
    let o = rw (c.branches.ensures.branches, c.as_slice.ensures.value) at c.in-Some.ensures in
    let made = rw (c.as_slice-2.ensures.value, c.deref.ensures, c.as_slice-3.ensures.value) at c.in-Ok.ensures.changes in
    let fit = rw (c.as_slice-2.ensures.value, c.deref.ensures, c.as_slice-3.ensures.value) at c.in-Ok.ensures.fit in
    let range = (takes m c.args.s.0 s b c.branches.ensures.sound c.requires o.1).touched_back o.0 fit in
    subst (λ cs. IsStepAt m (place_at c.args.s.0 s) b.target cs) (sym made)
    (step_at m (place_at c.args.s.0 s) b c.branches.ensures.sound c.requires o.1 range)

pub returns-in-Err-PastWide : goal.returns-in-Err-PastWide
returns-in-Err-PastWide c =
    let s = store_of c.args.store.now in
    let o = rw (c.branches.ensures.branches, c.as_slice.ensures.value) at c.in-Some.ensures in
    let t = takes c.args.m.now c.args.s.0 s (branch_of c.in-Some.branch.now) c.branches.ensures.sound c.requires o.1 in
    let out = rw (c.as_slice-2.ensures.value, c.deref.ensures, c.as_slice-3.ensures.value, c.in-Err-PastWide.field-0-is) at c.in-Err-PastWide.ensures.past in
    λ p. out (t.touched_there p).1

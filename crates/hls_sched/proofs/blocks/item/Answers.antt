use Rattle.std.proofs.Common.{◌∙◌, ap, map}
use Rattle.fs_model.specs.View.{assignment_of}
use Rattle.fs_cut.proofs.Loops.{has_first}
use Rattle.hls_sched.proofs.Tracing.{first_item_at}
use Rattle.hls_sched.proofs.blocks.item.Goals as goal

pub bounds-branches-0 : goal.bounds-branches-0
bounds-branches-0 c = has_first c.args.m.now c.args.state.0 c.branches.result.now c.branches.ensures.sound c.requires c.branches.ensures.branches

pub returns : goal.returns
returns c =
    ap (map assignment_of) (c.as_slice.ensures.value ∙ ap (λ v. v.items) c.deref.ensures)
    ∙ first_item_at c.args.m.now c.args.state.0 c.branches.result.now c.index-branches-0.result c.branches.ensures.sound c.requires c.branches.ensures.branches

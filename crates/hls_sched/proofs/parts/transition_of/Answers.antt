use Rattle.std.proofs.Common.{◌≡◌, ◌∙◌, get_or, ap}
use Rattle.fs_model.specs.Source.{SourceState}
use Rattle.fs_model.specs.View.{source_of}
use Rattle.hls_sched.specs.RowMoves.{joined_items, done_by}
use Rattle.hls_sched.proofs.Copied.{state_is, transition_is}
use Rattle.hls_sched.proofs.parts.transition_of.Goals as goal

pub returns : goal.returns
returns c =
    let p = source_of c.args.parts.now in
    let states = c.args.parts.now.states.items in
    let q = c.args.by.now.target.0 in
    let own : c.index.result.now ≡ get_or states q c.index.result.now = c.index.ensures in
    let target = c.in_ok-target.ensures ∙ ap (λ (s : SourceState). s.name) (state_is states q c.index.result.now c.requires.target own) in
    transition_is p c.args.line (done_by p c.args.by.now) c.in_ok-target.target _ target (c.in_ok-assigns.ensures ∙ ap (joined_items p) c.deref.ensures.value)

use Rattle.std.proofs.Common.{◌∙◌}
use Rattle.fs_stores.specs.InputValues.{signatures_of}
use Rattle.fs_run_text.proofs.Serving.{serves_both}
use Rattle.hls_shrink.proofs.Changed.{serve_own}
use Rattle.hls_shrink.proofs.Smalls.{same_show}
use Rattle.hls_shrink.proofs.shrinking.inputs_with_ends.Goals as goal

pub differing_ends-requires-clause-left : goal.differing_ends-requires-clause-left
differing_ends-requires-clause-left c = serve_own c.args.a.now c.in_ok-copy.copy c.vars-vars.ensures.sound (c.in_ok-copy.ensures.signatures ∙ c.requires.inputs)

pub differing_ends-requires-clause-right : goal.differing_ends-requires-clause-right
differing_ends-requires-clause-right c = serves_both c.args.a.now c.args.b.now (signatures_of c.in_ok-copy.copy) c.requires.interfaces
    (c.in_ok-copy.ensures.signatures ∙ c.requires.inputs)

pub unreachable-requires : goal.unreachable-requires
unreachable-requires c =
    c.in_ok-left.ensures.none c.in-None.is
    (same_show c.args.a.now c.args.b.now c.args.steps c.in_ok-copy.copy c.args.inputs.now
    (c.in_ok-copy.ensures.signatures ∙ c.requires.inputs) c.requires.inputs c.in_ok-copy.ensures.contents c.requires.shows)

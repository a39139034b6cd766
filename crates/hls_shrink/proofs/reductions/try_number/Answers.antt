use Rattle.fs_stores.specs.InputValues.{signatures_of}
use Rattle.fs_run_text.proofs.Serving.{serves_both}
use Rattle.hls_shrink.specs.InputEntries.{contents_in}
use Rattle.hls_shrink.specs.Reductions.{contents_with}
use Rattle.hls_shrink.proofs.Smalls.{none_shown}
use Rattle.hls_shrink.proofs.reductions.try_number.Goals as goal

pub differing_ends-requires-clause-right : goal.differing_ends-requires-clause-right
differing_ends-requires-clause-right c = serves_both c.args.a.now c.args.b.now
    (signatures_of c.in_ok-changed.changed) c.requires.interfaces c.in_ok-changed.ensures.signatures

pub returns-in-None-clause-none : goal.returns-in-None-clause-none
returns-in-None-clause-none c =
    λ _. none_shown c.args.a.now c.args.b.now c.args.steps c.in_ok-changed.changed
    (contents_with (contents_in c.args.inputs.now) c.args.entry.now c.args.number.now) c.in_ok-changed.ensures.signatures c.in_ok-changed.ensures.contents
    (c.in_ok-left.ensures.none c.in-None.is)

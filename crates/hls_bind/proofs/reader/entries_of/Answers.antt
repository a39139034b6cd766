use Rattle.std.proofs.Common.{◌∙◌}
use Rattle.serde_json.specs.View.{members_view}
use Rattle.hls_bind.proofs.Loops.{entry_more}
use Rattle.hls_bind.proofs.Given.{named_if}
use Rattle.hls_bind.proofs.reader.entries_of.Goals as goal

pub add_entry-requires : goal.add_entry-requires
add_entry-requires c = named_if (λ r. r.now) c.register_given-register.result c.args.vars.now
    (members_view c.args.members.now.entries) c.index-vars-k.result.name c.requires.fine c.register_given-register.ensures

pub loop-k-preserved : goal.loop-k-preserved
loop-k-preserved c =
    entry_more c.args.vars.now (members_view c.args.members.now.entries) c.loop-k.k c.index-vars-k.result _ _ _ c.loop-k-test.true c.index-vars-k.is
    c.register_given-register.ensures c.in_ok-add_entry.ensures ∙ c.loop-k.invariant

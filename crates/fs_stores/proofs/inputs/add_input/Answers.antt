use Rattle.std.proofs.Common.{sym, ◌∙◌, ap}
use Rattle.fs_stores.specs.Values.{zero_content}
use Rattle.fs_stores.proofs.InputValues.{zero_more}
use Rattle.fs_stores.proofs.inputs.add_input.Goals as goal

pub returns-clause-zero : goal.returns-clause-zero
returns-clause-zero c = rw c.in_ok-push.ensures.items
    (zero_more c.args.items.now.items _ c.requires (c.zero.ensures.content ∙ ap zero_content (sym c.zero.ensures.sort)))

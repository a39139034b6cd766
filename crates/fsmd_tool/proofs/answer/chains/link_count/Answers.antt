use Rattle.std.proofs.Common.{◌/◌, ap, string_bytes}
use Rattle.fsmd_tool.proofs.Linked.{link_count_is}
use Rattle.fsmd_tool.proofs.answer.chains.link_count.Goals as goal

pub returns-clause-links : goal.returns-clause-links
returns-clause-links c = link_count_is string_bytes c.args.words.now _ (ap (λ i. i / 2) c.saturating_sub.ensures)

use Rattle.std.proofs.Common.{Some}
use Rattle.fsmd_words.specs.AskedWords.{asked_of_ask}
use Rattle.fsmd_tool.proofs.Linked.{LinksLead}
use Rattle.fsmd_tool.proofs.answer.chains.links_from.Given as goal

abbrev pub invariant-loop-held : goal.invariant-loop-held
invariant-loop-held g l =
    LinksLead (Some (asked_of_ask l.ask)) l.fn.first l.links (g.F.Files.told l.initial.files) l.chain.first l.chain.last l.held (g.F.Files.told l.files)

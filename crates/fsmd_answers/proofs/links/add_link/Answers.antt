use Rattle.std.proofs.Common.{◌∙◌, map, Some}
use Rattle.cert_model.specs.View.{node_of}
use Rattle.fsmd_words.specs.AskedWords.{asked_of_ask}
use Rattle.fsmd_answers.proofs.LinkAnswers.{link_fails}
use Rattle.fsmd_answers.proofs.links.add_link.Goals as goal

pub returns-clause-fails : goal.returns-clause-fails
returns-clause-fails c =
    let nodes = map node_of c.args.cert.now.nodes.items in
    link_fails (Some (asked_of_ask c.args.ask.now)) c.args.link c.args.chain.last c.args.next _ _ nodes c.in-Err.stop c.refused_link.result
    (c.in_ok-last.ensures.left ∙ c.last.ensures.last) c.in_ok-last.ensures.right (c.refused_link.ensures nodes) c.in-Err.ensures.verdict

use Rattle.std.proofs.Common.{◌+◌, ◌*◌, Some}
use Rattle.std.specs.Prelude.{map}
use Rattle.fsmd_words.specs.AskedWords.{asked_of_ask}
use Rattle.cert_model.specs.View.{node_of}
use Rattle.fsmd_tool.specs.Loading.{NothingFollows}
use Rattle.fsmd_tool.proofs.Linked.{link_refused, link_made, link_unmade}
use Rattle.fsmd_tool.proofs.answer.chains.add_next.Goals as goal

pub returns-in-Err-clause-refused : goal.returns-in-Err-clause-refused
returns-in-Err-clause-refused g c =
    let h = rw c.last.ensures.last at c.in-Err.ensures.refused in
    link_refused (Some (asked_of_ask c.args.ask.now)) (c.args.held + 1) c.args.chain.last (λ b. NothingFollows) (2 * c.args.held + 1)
    _ c.in-Err.refused c.at_link.result h c.at_link.ensures

pub add_link-requires-clause-paired : goal.add_link-requires-clause-paired
add_link-requires-clause-paired g c = rw c.last.ensures.last at c.in-Ok.ensures.paired

pub add_link-requires-clause-interface : goal.add_link-requires-clause-interface
add_link-requires-clause-interface g c = rw c.last.ensures.last at c.in-Ok.ensures.alike

pub add_link-requires-clause-lawful : goal.add_link-requires-clause-lawful
add_link-requires-clause-lawful g c = rw c.last.ensures.last at c.in-Ok.ensures.certificate.meet.lawful

pub returns-in-Ok-clause-holds : goal.returns-in-Ok-clause-holds
returns-in-Ok-clause-holds g c =
    link_made (2 * c.args.held + 1) _ c.args.chain.last c.last.result.now c.in-Ok.link.next.machine (map node_of c.in-Ok.link.cert.nodes.items)
    c.last.ensures.last c.in-Ok.ensures.spells c.in-Ok.ensures.alike c.in-Ok.ensures.certificate
    c.add_link.result c.add_link.ensures.holds c.add_link.ensures.last

pub returns-in-Ok-clause-refused : goal.returns-in-Ok-clause-refused
returns-in-Ok-clause-refused g c =
    link_unmade (Some (asked_of_ask c.args.ask.now)) (c.args.held + 1) (2 * c.args.held + 1) _ c.args.chain.last c.last.result.now c.in-Ok.link.next.machine
    (map node_of c.in-Ok.link.cert.nodes.items) c.last.ensures.last c.in-Ok.ensures.spells c.in-Ok.ensures.alike c.in-Ok.ensures.certificate
    c.in-Ok.ensures.loads c.add_link.result c.add_link.ensures.fails

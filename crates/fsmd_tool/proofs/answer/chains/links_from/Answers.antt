use Rattle.std.proofs.Common.{◌≡◌, Some, rules, arith}
use Rattle.fsmd_words.specs.AskedWords.{asked_of_ask}
use Rattle.fsmd_answers.specs.Refusing.{WhereAnswered}
use Rattle.fsmd_answers.specs.Links.{IsOfChain}
use Rattle.fsmd_answers.specs.Follows.{OpensLinks}
use Rattle.fsmd_tool.specs.Calls.{call, IsCorrectInOrder}
use Rattle.fsmd_tool.proofs.InOrder.{made_answers}
use Rattle.fsmd_tool.proofs.Loads.{at_most_none}
use Rattle.fsmd_tool.proofs.Linked.{links_begin, links_next, links_stop, links_end, links_most, links_most_on}
use Rattle.fsmd_tool.proofs.answer.chains.links_from.Goals as goal

pub loop-held-init : goal.loop-held-init
loop-held-init g c = links_begin (Some (asked_of_ask c.args.ask.now)) c.args.first c.args.links (g.F.Files.told c.args.files.now)
    c.in_ok-chain.chain.first c.in_ok-chain.chain.last c.in_ok-chain.ensures.first c.in_ok-chain.ensures.last

pub loop-held-preserved : goal.loop-held-preserved
loop-held-preserved g c =
    links_next (Some (asked_of_ask c.args.ask.now)) c.args.first c.args.links (g.F.Files.told c.args.files.now)
    c.loop-held.chain.first c.loop-held.chain.last c.loop-held.held (g.F.Files.told c.loop-held.files) c.loop-held.invariant c.loop-held-test.true
    (g.F.Files.told c.add_next.new.files)
    c.in_ok-chain-2.chain.first c.in_ok-chain-2.chain.last c.in_ok-chain-2.ensures.first c.in_ok-chain-2.ensures.holds
    c.add_next.ensures.only_read c.in_ok-chain-2.ensures.loads

pub returns-in_err-chain-2-clause-answers : goal.returns-in_err-chain-2-clause-answers
returns-in_err-chain-2-clause-answers g c =
    let h : WhereAnswered (IsCorrectInOrder (OpensLinks (Some (asked_of_ask c.args.ask.now)) c.args.first c.args.first 0 c.args.links) 1
    (call (Some (asked_of_ask c.args.ask.now)) (g.F.Files.told c.args.files.now) (g.F.Files.told c.add_next.new.files))) c.in_err-chain-2.field-0.0 =
    links_stop (Some (asked_of_ask c.args.ask.now)) c.args.first c.args.links (g.F.Files.told c.args.files.now)
    c.loop-held.chain.first c.loop-held.chain.last c.loop-held.held (g.F.Files.told c.loop-held.files)
    c.loop-held.invariant c.loop-held-test.true _ _ c.in_err-chain-2.ensures.refused in
    search rules

pub returns-clause-answers : goal.returns-clause-answers
returns-clause-answers g c =
    let all : c.loop-held.held ≡ c.args.links = omega (arith, c.loop-held-test.false, c.loop-held.invariant.count) in
    made_answers (IsOfChain c.loop-held.chain.first c.loop-held.chain.last c.args.links)
    (IsCorrectInOrder (OpensLinks (Some (asked_of_ask c.args.ask.now)) c.args.first c.args.first 0 c.args.links) 1 _)
    (links_end (Some (asked_of_ask c.args.ask.now)) c.args.first c.args.links (g.F.Files.told c.args.files.now)
    c.loop-held.chain.first c.loop-held.chain.last c.loop-held.held (g.F.Files.told c.loop-held.files)
    c.loop-held.invariant all) c.chain_answer.result c.made_answer.result c.made_answer.ensures c.chain_answer.ensures

pub returns-in_err-chain-clause-at_most : goal.returns-in_err-chain-clause-at_most
returns-in_err-chain-clause-at_most g c = at_most_none _ 1 _ _

pub returns-in_err-chain-2-clause-at_most : goal.returns-in_err-chain-2-clause-at_most
returns-in_err-chain-2-clause-at_most g c =
    links_most_on (Some (asked_of_ask c.args.ask.now)) c.args.first c.args.links (g.F.Files.told c.args.files.now)
    c.loop-held.chain.first c.loop-held.chain.last c.loop-held.held (g.F.Files.told c.loop-held.files) c.loop-held.invariant
    c.loop-held-test.true _ c.add_next.ensures.at_most

pub returns-clause-at_most : goal.returns-clause-at_most
returns-clause-at_most g c = links_most (Some (asked_of_ask c.args.ask.now)) c.args.first c.args.links (g.F.Files.told c.args.files.now)
    c.loop-held.chain.first c.loop-held.chain.last c.loop-held.held (g.F.Files.told c.loop-held.files) c.loop-held.invariant

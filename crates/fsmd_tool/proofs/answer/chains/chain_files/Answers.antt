use Rattle.std.proofs.Common.{◌+◌, ◌*◌, Some, sym, ap, subst, map, string_bytes, arith, refl}
use Rattle.fsmd_words.specs.AskedWords.{asked_of_ask}
use Rattle.fs_model.specs.Machines.{Fsmd}
use Rattle.fsmd_answers.specs.MachineFiles.{SpellsMachine}
use Rattle.fsmd_answers.specs.Refusals.{RefusesMachine}
use Rattle.fsmd_answers.specs.Links.{links_of}
use Rattle.fsmd_answers.specs.Follows.{OpensLinks}
use Rattle.fsmd_tool.specs.Calls.{call, IsCorrectInOrder, AnswersBy}
use Rattle.fsmd_tool.proofs.Later.{read_both}
use Rattle.fsmd_tool.proofs.Loads.{fewer, at_most_on}
use Rattle.fsmd_tool.proofs.FromFiles.{machine_held}
use Rattle.fsmd_tool.proofs.InOrder.{passed_on, refused_in_order, spelled_in_order}
use Rattle.fsmd_tool.proofs.answer.chains.chain_files.Goals as goal

pub returns-in_err-machine-clause-answers : goal.returns-in_err-machine-clause-answers
returns-in_err-machine-clause-answers g c =
    passed_on _ c.from_residual.result _ c.from_residual.ensures.1
    (refused_in_order Fsmd RefusesMachine SpellsMachine
    (λ m. OpensLinks (Some (asked_of_ask c.args.ask.now)) m m 0 (links_of (map string_bytes c.args.words.now)))
    0 _ _ c.load.ensures.loads c.in_err-machine.ensures.refused)

pub returns-clause-answers : goal.returns-clause-answers
returns-clause-answers g c =
    let m = c.in_ok-machine.field-0.machine in
    let h = subst (λ n. AnswersBy (IsCorrectInOrder (OpensLinks (Some (asked_of_ask c.args.ask.now)) m m 0 n) 1
    (call (Some (asked_of_ask c.args.ask.now)) (g.F.Files.told c.load.new.files) (g.F.Files.told c.links_from.new.files))) c.links_from.result)
    c.link_count.ensures.links c.links_from.ensures.answers in
    spelled_in_order Fsmd RefusesMachine SpellsMachine
    (λ v. OpensLinks (Some (asked_of_ask c.args.ask.now)) v v 0 (links_of (map string_bytes c.args.words.now)))
    0 _ _ _ (g.F.Files.told c.links_from.new.files) c.load.ensures.only_read c.load.ensures.loads m (machine_held _ _ _ _ refl c.in_ok-machine.ensures.loaded)
    c.links_from.result h

pub returns-in_err-machine-clause-at_most : goal.returns-in_err-machine-clause-at_most
returns-in_err-machine-clause-at_most g c = fewer _ 0 1 _ _ _ (omega arith) c.load.ensures.at_most

pub returns-clause-at_most : goal.returns-clause-at_most
returns-clause-at_most g c = at_most_on _ 0 1 (2 * c.link_count.result) 1 _ _ _ _ (omega arith) (ap (λ n. 1 + 2 * n) (sym c.link_count.ensures.links))
    c.load.ensures.loads
    c.links_from.ensures.at_most

pub returns-clause-only_read : goal.returns-clause-only_read
returns-clause-only_read g c = read_both _ _ _ c.load.ensures.only_read c.links_from.ensures.only_read

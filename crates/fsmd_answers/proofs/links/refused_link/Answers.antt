use Rattle.std.proofs.Common.{Some}
use Rattle.fsmd_words.specs.AskedWords.{asked_of_ask}
use Rattle.cert_check.specs.View.{verdict_in}
use Rattle.fsmd_answers.proofs.LinkAnswers.{told_stop}
use Rattle.fsmd_answers.proofs.links.refused_link.Goals as goal

pub returns-in-Ok : goal.returns-in-Ok
returns-in-Ok c = λ nodes h.
    let told = rw c.in-Verdict.is at h in
    told_stop (Some (asked_of_ask c.args.ask.now)) c.args.link c.args.last.now c.args.next.now nodes
    (verdict_in c.in-Verdict.verdict) c.in-Ok.answer c.at_link.result told.0 told.1 c.in-Ok.ensures c.at_link.ensures

use Rattle.std.proofs.Common.{Some}
use Rattle.fsmd_words.specs.AskedWords.{asked_of_ask}
use Rattle.fsmd_tool.specs.SinkReplies.{put_between}
use Rattle.fsmd_tool.specs.CertificateStores.{file_change}
use Rattle.fsmd_tool.proofs.Putting.{done_given, leaves_given, not_stored_given}
use Rattle.fsmd_tool.proofs.put.put_reply.Goals as goal

pub returns-clause-ok : goal.returns-clause-ok
returns-clause-ok g c =
    done_given _ _ c.in_ok-answer.answer _ c.put_answer.result (λ s. put_between s (g.S.Sink.told c.args.out.now) (g.S.Sink.told c.put_answer.new.out))
    c.in_ok-answer.ensures.ok c.put_answer.ensures.ok

pub returns-clause-leaves : goal.returns-clause-leaves
returns-clause-leaves g c = leaves_given (Some (asked_of_ask c.args.ask.now)) _ c.in_ok-answer.answer _ c.in_ok-answer.ensures.ok c.put_answer.ensures.leaves

pub returns-clause-unstored : goal.returns-clause-unstored
returns-clause-unstored g c = not_stored_given (Some (asked_of_ask c.args.ask.now)) _ c.in_ok-answer.answer
    (file_change (g.F.Files.told c.args.files.now) (g.F.Files.told c.put_answer.new.files)) c.put_answer.result
    c.in_ok-answer.ensures.ok c.put_answer.ensures.unstored

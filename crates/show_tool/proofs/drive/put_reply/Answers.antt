use Rattle.std.proofs.Common.{map, string_bytes, sym, subst}
use Rattle.std.specs.Prelude.{IfOk}
use Rattle.fsmd_tool.specs.SinkReplies.{put_between}
use Rattle.show_words.specs.ViewWords as words
use Rattle.show_tool.specs.ViewCalls.{PutsOf}
use Rattle.show_tool.proofs.Putting.{to_words, no_certificate}
use Rattle.show_tool.proofs.drive.put_reply.Goals as goal

pub put_reply_to-requires-clause-certificate : goal.put_reply_to-requires-clause-certificate
put_reply_to-requires-clause-certificate g c = no_certificate (map string_bytes c.args.words.now) _ c.in-Ok.ensures.ok

pub returns-in-Ok-clause-shown : goal.returns-in-Ok-clause-shown
returns-in-Ok-clause-shown g c =
    to_words (words.shown_view c.in-Ok.show) _ _ _ c.put_reply_to.result
    (λ s. put_between s (g.S.Sink.told c.args.out.now) (g.S.Sink.told c.put_reply_to.new.out)) c.in-Ok.ensures.ok c.put_reply_to.ensures.shown

pub returns-in-Err-Usage-clause-shown : goal.returns-in-Err-Usage-clause-shown
returns-in-Err-Usage-clause-shown g c =
    let none = c.in-Err-Usage.ensures.none c.in-Err-Usage.field-0-is in
    subst
    (λ w. IfOk c.put_usage.result
    (λ t. PutsOf w (g.F.Files.told c.args.files.now) (g.F.Files.told c.args.files.now)
    (put_between t (g.S.Sink.told c.args.out.now) (g.S.Sink.told c.put_usage.new.out)))) (sym none) c.put_usage.ensures.ok

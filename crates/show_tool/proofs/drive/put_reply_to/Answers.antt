use Rattle.std.proofs.Common.{Some}
use Rattle.fsmd_tool.specs.Calls.{call, IsCorrectFrom}
use Rattle.fsmd_tool.specs.SinkReplies.{put_between}
use Rattle.fsmd_tool.proofs.InOrder.{in_answer}
use Rattle.show_words.specs.ViewWords as words
use Rattle.show_tool.specs.Views.{ShownFrom}
use Rattle.show_tool.proofs.Putting.{shown, kept}
use Rattle.show_tool.proofs.drive.put_reply_to.Goals as goal

pub returns-clause-shown : goal.returns-clause-shown
returns-clause-shown g c =
    shown (words.shown_view c.args.show.now) (g.F.Files.told c.args.files.now) (g.F.Files.told c.answer_view.new.files)
    (g.F.Files.told c.put_answer.new.files) c.in_ok-answer.answer c.put_answer.result
    (λ s. put_between s (g.S.Sink.told c.args.out.now) (g.S.Sink.told c.put_answer.new.out)) c.requires.certificate c.answer_view.ensures.only_read
    c.put_answer.ensures.counts
    (in_answer
    (IsCorrectFrom (ShownFrom (words.shown_view c.args.show.now).view) 0
    (call (Some (words.shown_view c.args.show.now).asked) (g.F.Files.told c.args.files.now) (g.F.Files.told c.answer_view.new.files)))
    c.answer_view.result _ c.in_ok-answer.ensures.ok c.answer_view.ensures.answers) c.put_answer.ensures.ok

pub returns-clause-kept : goal.returns-clause-kept
returns-clause-kept g c =
    kept (words.shown_view c.args.show.now) (g.F.Files.told c.args.files.now) (g.F.Files.told c.answer_view.new.files)
    (g.F.Files.told c.put_answer.new.files) c.in_ok-answer.answer c.requires.certificate c.answer_view.ensures.only_read c.put_answer.ensures.leaves

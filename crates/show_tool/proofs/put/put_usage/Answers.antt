use Rattle.std.proofs.Common.{subst}
use Rattle.std.specs.Prelude.{IfOk}
use Rattle.fsmd_replies.specs.declared.answer.Status.TheVariants.{Usage}
use Rattle.fsmd_tool.specs.SinkReplies.{IsPut, put_between}
use Rattle.show_tool.proofs.put.put_usage.Goals as goal

pub returns-clause-ok : goal.returns-clause-ok
returns-clause-ok g c =
    subst (λ bytes. IfOk c.put_whole.result (λ s. IsPut bytes Usage (put_between s (g.S.Sink.told c.args.out.now) (g.S.Sink.told c.put_whole.new.out))))
    c.as_bytes.ensures.value c.put_whole.ensures.ok

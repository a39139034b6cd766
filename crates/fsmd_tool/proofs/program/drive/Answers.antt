use Rattle.fsmd_tool.proofs.Driven.{driven, driven_usage, driven_nowhere}
use Rattle.fsmd_tool.proofs.program.drive.Goals as goal

pub returns-in-Ok : goal.returns-in-Ok
returns-in-Ok g c =
    rw c.end_status.ensures
    (driven _ c.answer.result _ _ _ (g.S.Sink.told c.args.out.now) (g.S.Sink.told c.put_reply.new.out)
    c.answer.ensures.only_read c.answer.ensures.answers c.answer.ensures.loads
    c.put_reply.ensures.leaves c.put_reply.ensures.counts c.put_reply.ensures.store_counts c.put_reply.ensures.loaded c.put_reply.ensures.sink_counts
    _ c.put_reply.result c.in-Ok.ensures.ok c.put_reply.ensures.ok c.put_reply.ensures.err c.put_reply.ensures.unstored)

pub returns-in-Err-Usage : goal.returns-in-Err-Usage
returns-in-Err-Usage g c =
    rw c.end_status-in-Err-Usage.ensures
    (driven_usage _ _ c.put_usage.result (g.S.Sink.told c.args.out.now) (g.S.Sink.told c.put_usage.new.out)
    (c.in-Err-Usage.ensures.none c.in-Err-Usage.field-0-is) c.put_usage.ensures.ok c.put_usage.ensures.err
    c.put_usage.ensures.sink_counts)

pub returns-in-Err-NoMemory : goal.returns-in-Err-NoMemory
returns-in-Err-NoMemory g c = driven_nowhere _ _ (g.S.Sink.told c.args.out.now)

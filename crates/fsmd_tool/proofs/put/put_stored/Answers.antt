use Rattle.std.proofs.Common.{refl}
use Rattle.fsmd_tool.specs.SinkReplies.{put_between}
use Rattle.fsmd_tool.specs.CertificateStores.{file_to_store, LeftStored, LeftUnstored, Failed}
use Rattle.fsmd_tool.specs.Correct.{Stored}
use Rattle.fsmd_tool.proofs.Putting.{unstored, on_err}
use Rattle.fsmd_tool.proofs.put.put_stored.Goals as goal

pub returns-in-Ok-clause-ok : goal.returns-in-Ok-clause-ok
returns-in-Ok-clause-ok g c =
    Stored (file_to_store c.args.item.now.name.now c.args.item.now.bytes.now) refl
    (record { stored = c.in-Ok.ensures.stored; others = c.in-Ok.ensures.others }) c.put_fitting.ensures.put

pub returns-in-Ok-clause-leaves : goal.returns-in-Ok-clause-leaves
returns-in-Ok-clause-leaves g c = LeftStored (file_to_store c.args.item.now.name.now c.args.item.now.bytes.now) refl
    (record { stored = c.in-Ok.ensures.stored; others = c.in-Ok.ensures.others })

pub returns-in-Err-Failed-clause-ok : goal.returns-in-Err-Failed-clause-ok
returns-in-Err-Failed-clause-ok g c =
    let failed = rw c.in-Err-Failed.field-0-is at c.in-Err-Failed.ensures.failed in
    unstored (file_to_store c.args.item.now.name.now c.args.item.now.bytes.now) _ _ _ c.put_unstored.result
    (λ s. put_between s (g.S.Sink.told c.args.out.now) (g.S.Sink.told c.put_unstored.new.out))
    (record { failed = failed; others = c.in-Err-Failed.ensures.others }) c.put_unstored.ensures.ok

pub returns-in-Err-Failed-clause-leaves : goal.returns-in-Err-Failed-clause-leaves
returns-in-Err-Failed-clause-leaves g c =
    let failed = rw c.in-Err-Failed.field-0-is at c.in-Err-Failed.ensures.failed in
    LeftUnstored (file_to_store c.args.item.now.name.now c.args.item.now.bytes.now) refl (record { failed = failed; others = c.in-Err-Failed.ensures.others })

pub returns-in-Err-Failed-clause-unstored : goal.returns-in-Err-Failed-clause-unstored
returns-in-Err-Failed-clause-unstored g c =
    let failed = rw c.in-Err-Failed.field-0-is at c.in-Err-Failed.ensures.failed in
    on_err c.put_unstored.result _
    (Failed (file_to_store c.args.item.now.name.now c.args.item.now.bytes.now) refl (record { failed = failed; others = c.in-Err-Failed.ensures.others }))

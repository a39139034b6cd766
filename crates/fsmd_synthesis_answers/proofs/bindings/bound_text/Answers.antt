use Rattle.std.proofs.Common.{subst}
use Rattle.fs_model.specs.View.{source_of}
use Rattle.hls_bind.specs.Results.{IsYes, IsRight}
use Rattle.fsmd_synthesis_answers.proofs.Registers.{is_bound}
use Rattle.fsmd_synthesis_answers.proofs.bindings.bound_text.Goals as goal

pub returns-in-Ok : goal.returns-in-Ok
returns-in-Ok c =
    let p = source_of c.args.parts.now in
    let m = c.args.machine.now in
    let b = c.args.binding.now in
    let right : IsYes p m b (source_of c.in-Ok-Yes.parts) c.in-Ok-Yes.field-0-1 = subst (IsRight p m b) c.in-Ok-Yes.field-0-is c.in-Ok-Yes.ensures in
    is_bound p m b (source_of c.in-Ok-Yes.parts) c.in-Ok-Yes.field-0-1 c.in-Ok.text.items c.requires.built.spelled right c.in-Ok.ensures.text
    c.in-Ok.ensures.reads_back

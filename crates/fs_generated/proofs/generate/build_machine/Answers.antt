use Rattle.fs_model.specs.View.{source_of}
use Rattle.fs_generated.proofs.generate.build_machine.Goals as goal
use Rattle.fs_rules.proofs.Unbroken.{unbroken}

pub unreachable-requires : goal.unreachable-requires
unreachable-requires c =
    unbroken (source_of c.args.parts.now) c.in-Err-Check.field-0-0 c.requires.lawful (rw c.in-Err-Check.field-0-is at c.in-Err-Check.ensures.broken)

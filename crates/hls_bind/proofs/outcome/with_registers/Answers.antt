use Rattle.fs_model.specs.View.{source_of}
use Rattle.hls_bind.proofs.Yes.{formed, lawful, is_yes}
use Rattle.hls_bind.proofs.outcome.with_registers.Goals as goal

pub build_lawful-requires-clause-formed : goal.build_lawful-requires-clause-formed
build_lawful-requires-clause-formed c = formed (source_of c.args.parts.now)
    (source_of c.in_ok-new_parts.new_parts) c.args.m.now c.args.b.now c.requires.built c.requires.binding c.requires.free c.vars-vars.ensures.sound
    c.in_ok-new_parts.ensures

pub build_lawful-requires-clause-lawful : goal.build_lawful-requires-clause-lawful
build_lawful-requires-clause-lawful c = lawful (source_of c.args.parts.now)
    (source_of c.in_ok-new_parts.new_parts) c.args.m.now c.args.b.now c.requires.built c.requires.binding c.requires.free c.vars-vars.ensures.sound
    c.in_ok-new_parts.ensures

pub returns : goal.returns
returns c =
    is_yes (source_of c.args.parts.now) (source_of c.in_ok-new_parts.new_parts) c.args.m.now c.args.b.now c.requires.built c.requires.binding c.requires.free
    c.vars-vars.ensures.sound c.in_ok-new_parts.ensures
    c.in_ok-machine.machine c.in_ok-machine.ensures.spelled c.in_ok-machine.ensures.sound

use Rattle.std.proofs.Common.{ap, ◌∙◌}
use Rattle.fs_model.specs.View.{source_of}
use Rattle.fs_model.specs.WellFormed.{is_well_formed}
use Rattle.hls_program_parts.specs.View.{program_of}
use Rattle.fsmd_synthesis_answers.proofs.Compiled.{is_compiled}
use Rattle.fsmd_synthesis_answers.proofs.programs.compiled_text.Goals as goal

pub write_parts-requires : goal.write_parts-requires
write_parts-requires c =
    ap is_well_formed c.in_ok-parts.ensures.parts ∙ c.parts_of_programs_are_well_formed.ensures (program_of c.args.program.now) c.requires.formed

pub returns-in-Ok-clause-compiled : goal.returns-in-Ok-clause-compiled
returns-in-Ok-clause-compiled c =
    let m = c.in_ok-parts.ensures in
    is_compiled (program_of c.args.program.now) (source_of c.in_ok-parts.field-0.parts) c.in_ok-parts.field-0.machine c.in-Ok.text.items m.parts m.machine
    m.lawful m.does c.in-Ok.ensures.text c.in-Ok.ensures.reads_back

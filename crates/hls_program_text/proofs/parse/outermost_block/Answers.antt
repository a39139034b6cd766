use Rattle.std.proofs.Common.{refl}
use Rattle.hls_program_parts.specs.ProgramGrammar.{outermost}
use Rattle.hls_program_text.proofs.Readings.{opens_outermost}
use Rattle.fs_phrase_text.proofs.PassedOn.{goes_after}
use Rattle.hls_program_text.proofs.parse.outermost_block.Goals as goal

pub returns : goal.returns
returns c = λ ds. goes_after c.block.result _ (opens_outermost c.args.tokens.now ds c.requires) (c.block.ensures.goes (outermost ds) refl)

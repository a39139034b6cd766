-- What a program is compiled to.
use Rattle.std.specs.Prelude.{◌≡◌, ℕ, List}
use Rattle.fs_model.specs.Source.{Source}
use Rattle.fs_ast.specs.MachineOfParts.{machine_of}
use Rattle.fs_ast.specs.Rules.{BreaksNoRule}
use Rattle.fs_lex.specs.MachineTexts.{TextSpells}
use Rattle.fs_write.specs.Canonical.{canonical}
use Rattle.fs_write.specs.CanonicalLines.{without_lines}
use Rattle.hls_program_parts.specs.Programs.{Program}
use Rattle.hls_program_parts.specs.Compiled.{parts_of}
use Rattle.hls_program_parts.specs.ProgramMeaning.{DoesAs}

-- the canonical text of the parts to which a program is compiled: what it spells is these parts, but for lines; it breaks no
-- rule, and its machine does what the program does
pub record IsCompiledText (program : Program) (text : List ℕ) : Type 0 where
  pub is_canonical : text ≡ canonical (parts_of program)
  pub spelled : Source
  pub spells : TextSpells text spelled
  pub same_parts : without_lines spelled ≡ without_lines (parts_of program)
  pub lawful : BreaksNoRule spelled
  pub does : DoesAs program (machine_of spelled)

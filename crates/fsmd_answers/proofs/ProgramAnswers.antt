-- The answers to programs.
use Rattle.std.proofs.Common.{◌≡◌, ℕ, ◌≤◌, List, length, refl, sym, subst}
use Rattle.fs_model.specs.Limits.{most_text_bytes}
use Rattle.hls_program_parts.specs.Programs.{Program}
use Rattle.hls_program_parts.specs.ProgramTexts.{TextSpellsProgram as ProgramSpells}
use Rattle.fsmd_synthesis_answers.specs.ProgramAnswers.{IsCompiledText}
use Rattle.fsmd_synthesis_answers.proofs.Compiled.{parts_lawful}
use Rattle.fsmd_replies.specs.declared.answer.Answer.TheVariants.{Text}
use Rattle.fsmd_answers.specs.ProgramFiles.{IsOfProgramIn}

-- bytes that spell a program, and the text of what it is compiled to
pub program_answer : (bytes text lines : List ℕ) (program : Program) → length bytes ≤ most_text_bytes
    → ProgramSpells bytes program → IsCompiledText program text → lines ≡ text → IsOfProgramIn bytes (Text lines)
program_answer bytes text lines program few spells compiled e = record {
  program = program;
  spells = record { few = few; spells = spells; lawful = parts_lawful program text compiled };
  is = record { lines = lines; holds = subst (IsCompiledText program) (sym e) compiled; is = refl };
}

-- What the bytes of a file spell as a program, and the machine to which it is compiled.
use Rattle.std.specs.Prelude.{◌≡◌, ℕ, ◌≤◌, List, length}
use Rattle.fs_model.specs.Limits.{most_text_bytes}
use Rattle.fs_grammar.specs.declared.fault.TextFault.{TextFault}
use Rattle.fs_rules.specs.declared.check.CheckFault.{CheckFault}
use Rattle.fs_rules.specs.Rules.{IsFirstBroken, BreaksNoRule}
use Rattle.hls_program_parts.specs.Programs.{Program}
use Rattle.hls_program_parts.specs.Compiled.{parts_of}
use Rattle.hls_program_parts.specs.ProgramTexts.{TextSpellsProgram as ProgramSpells, ProgramTextStops as ProgramStops}
use Rattle.fsmd_synthesis_answers.specs.ProgramAnswers.{IsCompiledText}
use Rattle.fsmd_replies.specs.declared.answer.Operand.{Operand}
use Rattle.fsmd_replies.specs.declared.answer.Answer.{Answer}
use Rattle.fsmd_replies.specs.declared.answer.Answer.TheVariants.{Text, TextRefused, CheckRefused}
use Rattle.fsmd_answers.specs.LineAnswers.{HasLines}
use Rattle.fsmd_answers.specs.Readings.{FileContent, OfBytes}
use Rattle.fsmd_answers.specs.Unread.{IsUnread}

-- the bytes spell this program, whose parts break no rule
pub record SpellsProgram (program : Program) (bytes : List ℕ) : Type 0 where
  pub few : length bytes ≤ most_text_bytes
  pub spells : ProgramSpells bytes program
  pub lawful : BreaksNoRule (parts_of program)

-- the answer to a program: the text of what it is compiled to
abbrev pub IsOfProgram : Program → Answer → Type 0
IsOfProgram program answer = HasLines (IsCompiledText program) Text answer

-- the bytes spell a program, which gets this answer
pub record IsOfProgramIn (bytes : List ℕ) (answer : Answer) : Type 0 where
  pub program : Program
  pub spells : SpellsProgram program bytes
  pub is : IsOfProgram program answer

-- the bytes spell no program: they are faulty here
pub record HasProgramFault (fault : TextFault) (bytes : List ℕ) : Type 0 where
  pub few : length bytes ≤ most_text_bytes
  pub stops : ProgramStops bytes fault

-- the bytes spell a program, and this is the rule that its parts break first
pub record BreaksRule (fault : CheckFault) (bytes : List ℕ) : Type 0 where
  pub program : Program
  pub few : length bytes ≤ most_text_bytes
  pub spells : ProgramSpells bytes program
  pub broken : IsFirstBroken (parts_of program) fault

-- why the file of a program is refused: by its text, or by the rules of machines
pub data RefusesProgram (file : Operand) (content : FileContent) (answer : Answer) : Type 0 where
  UnreadProgram : IsUnread most_text_bytes file content answer → RefusesProgram file content answer
  ProgramByText : (fault : TextFault) → OfBytes content (HasProgramFault fault) → answer ≡ TextRefused file fault
      → RefusesProgram file content answer
  ProgramByRule : (fault : CheckFault) → OfBytes content (BreaksRule fault) → answer ≡ CheckRefused file fault
      → RefusesProgram file content answer

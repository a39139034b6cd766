-- Why a program is not read.
use Rattle.std.specs.Prelude.{ℕ, List}
use Rattle.hls_program_parts.specs.ProgramTexts.{ProgramTextStops}
use Rattle.hls_program_text.specs.declared.fault.LangError.{LangError}
use Rattle.hls_program_text.specs.declared.fault.LangError.TheVariants.{Text, Check, NoMemory}

-- the bytes are faulty where the refusal says, or memory was refused; no rule of parts is looked at
abbrev pub IsTextRefusal : List ℕ → LangError → Type 0
IsTextRefusal bytes (Text f) = ProgramTextStops bytes f
IsTextRefusal bytes (Check f) = ⊥
IsTextRefusal bytes NoMemory = Unit {0}

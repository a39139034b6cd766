-- Why a program is not compiled.
use Rattle.std.specs.Prelude.{◌≡◌}
use Rattle.fs_model.specs.Source.{Source}
use Rattle.fs_rules.specs.Rules.{IsFirstBroken}
use Rattle.hls_program_text.specs.declared.fault.LangError.{LangError}
use Rattle.hls_program_text.specs.declared.fault.LangError.TheVariants.{Text, Check, NoMemory}

-- the refusal names the first rule that the parts break, or memory was refused
abbrev pub IsRefusalOf : Source → LangError → Type 0
IsRefusalOf p (Text f) = ⊥
IsRefusalOf p (Check f) = IsFirstBroken p f
IsRefusalOf p NoMemory = Unit {0}

-- memory was refused
abbrev pub IsNoMemory : LangError → Type 0
IsNoMemory e = e ≡ NoMemory

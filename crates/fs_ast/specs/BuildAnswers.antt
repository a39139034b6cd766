-- The broken rule that is answered.
use Rattle.fs_rules.specs.declared.check.CheckFault.{CheckFault}
use Rattle.fs_ast.specs.declared.build.BuildError.{BuildError}
use Rattle.fs_ast.specs.declared.build.BuildError.TheVariants.{Check, NoMemory}

-- a fact on the broken rule that is answered
abbrev pub IfCheck : BuildError → (CheckFault → Type 0) → Type 0
IfCheck (Check f) P = P f
IfCheck NoMemory P = Unit {0}

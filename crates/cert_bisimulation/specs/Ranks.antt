-- Ranks along moves.
use Rattle.std.specs.Prelude.{Bool, true, false}
use Rattle.cert_bisimulation.specs.declared.mode.Mode.{Mode}
use Rattle.cert_bisimulation.specs.declared.mode.Mode.TheVariants.{Left, Right}

-- whether one machine moves alone in both modes, and it is the same
abbrev pub same_alone : Mode → Mode → Bool
same_alone Left Left = true
same_alone Right Right = true
same_alone _ _ = false

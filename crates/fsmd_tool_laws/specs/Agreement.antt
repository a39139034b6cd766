-- When two readings of the files of a call agree.
use Rattle.std.specs.Prelude.{◌≡◌, [], ◌∷◌}
use Rattle.fsmd_tool.specs.Readings.{Reading}

-- two readings agree on each file that both opened
abbrev pub Agree : Reading → Reading → Type 0
Agree [] s = Unit {0}
Agree (content ∷ r) [] = Unit {0}
Agree (content ∷ r) (other ∷ s) = (content ≡ other) × Agree r s

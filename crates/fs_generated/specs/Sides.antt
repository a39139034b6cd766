-- The rounds of both machines.
use Rattle.std.specs.Prelude.{ℕ, List}
use Rattle.fs_model.specs.Source.{SourceState}
use Rattle.fs_generated.specs.declared.states.Side.{Side}
use Rattle.fs_generated.specs.declared.states.Side.TheVariants.{Left, Right}
use Rattle.fs_generated.specs.Generated.{left_round, right_round}

abbrev pub round_of : Side → ℕ → List SourceState
round_of Left = left_round
round_of Right = right_round

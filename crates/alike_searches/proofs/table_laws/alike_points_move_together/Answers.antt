use Rattle.alike_searches.proofs.Modes.{both_move}
use Rattle.alike_searches.proofs.table_laws.alike_points_move_together.Goals as goal

pub returns : goal.returns
returns c = λ a b pairs P Q f mode sound_a sound_b alike even. both_move a b sound_a sound_b pairs f even P Q alike mode

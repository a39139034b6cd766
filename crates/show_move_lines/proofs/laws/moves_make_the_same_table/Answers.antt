use Rattle.show_move_lines.proofs.Again.{made_again}
use Rattle.show_move_lines.proofs.laws.moves_make_the_same_table.Goals as goal

pub returns : goal.returns
returns c = made_again

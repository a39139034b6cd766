use Rattle.alike_searches.proofs.EvenNodes.{vector_between, node_modes}
use Rattle.alike_searches.proofs.table_laws.even_nodes_move_together.Goals as goal

pub returns-clause-vector : goal.returns-clause-vector
returns-clause-vector c = λ a b f sound_a sound_b same even. vector_between a b f even sound_a sound_b same

pub returns-clause-modes : goal.returns-clause-modes
returns-clause-modes c = λ m pairs n mode sound_left sound_right alike even. node_modes m sound_left sound_right pairs alike n even mode

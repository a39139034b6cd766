use Rattle.alike_searches.proofs.Outputs.{outputs_same}
use Rattle.alike_searches.proofs.table_laws.outputs_of_even_vectors_are_the_same.Goals as goal

pub returns : goal.returns
returns c = outputs_same

use Rattle.alike_searches.proofs.Names.{alike}
use Rattle.alike_searches.proofs.name_laws.machines_that_differ_in_names_of_states_are_alike.Goals as goal

pub returns : goal.returns
returns c = alike

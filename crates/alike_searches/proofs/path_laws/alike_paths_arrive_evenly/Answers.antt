use Rattle.alike_searches.proofs.EvenPaths.{arrive_evenly}
use Rattle.alike_searches.proofs.path_laws.alike_paths_arrive_evenly.Goals as goal

pub returns : goal.returns
returns c = arrive_evenly

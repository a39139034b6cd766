use Rattle.cert_bisimulation.specs.Tests.{Tests, AllTrue}
use Rattle.cert_bisimulation.proofs.Nodes.{same_behaviour}
use Rattle.cert_bisimulation.proofs.laws.nodes_lead_runs.Goals as goal

pub returns : goal.returns
returns c = same_behaviour Tests AllTrue

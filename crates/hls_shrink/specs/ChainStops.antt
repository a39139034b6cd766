-- Why a machine is not added to a chain.
use Rattle.std.specs.Prelude.{◌≡◌, ◌≢◌, List}
use Rattle.fs_model.specs.Machines.{Fsmd}
use Rattle.cert_bisimulation.specs.Tables.{Node}
use Rattle.sym_facts.specs.Facts.{Fact}
use Rattle.cert_model.specs.Obligations.{Verdict, Yes, verdict_on}
use Rattle.cert_check.specs.View.{verdict_in}
use Rattle.hls_shrink.specs.declared.chain.ChainStop.{ChainStop}
use Rattle.hls_shrink.specs.declared.chain.ChainStop.TheVariants as stops

-- a verdict stops a chain: it is told, and is not yes; out of memory may come at any time
abbrev pub IsStopOf : Verdict → ChainStop → Type 0
IsStopOf v (stops.Verdict told) = (verdict_in told ≡ v) × (v ≢ Yes)
IsStopOf v stops.NoMemory = Unit {0}

-- nodes hold as a certificate of two machines
unfoldable pub HoldOn : (a b : Fsmd) → List (Node Fact) → Type 0
HoldOn a b nodes = verdict_on a b nodes ≡ Yes

-- the verdict on nodes as a certificate of two machines stops a chain
unfoldable pub StopsOn : (a b : Fsmd) → List (Node Fact) → ChainStop → Type 0
StopsOn a b nodes stop = IsStopOf (verdict_on a b nodes) stop

use Rattle.hls_bind.proofs.Lives.{live_reads, live_passes, has_live}
use Rattle.hls_bind.proofs.laws.liveness_is_least.Goals as goal

pub returns-clause-reading : goal.returns-clause-reading
returns-clause-reading c = live_reads

pub returns-clause-passing : goal.returns-clause-passing
returns-clause-passing c = live_passes

pub returns-clause-least : goal.returns-clause-least
returns-clause-least c = has_live

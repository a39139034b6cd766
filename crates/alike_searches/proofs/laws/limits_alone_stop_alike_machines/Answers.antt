use Rattle.alike_searches.proofs.Obstacles.{never_stuck, never_spins}
use Rattle.alike_searches.proofs.laws.limits_alone_stop_alike_machines.Goals as goal

pub returns-clause-stuck : goal.returns-clause-stuck
returns-clause-stuck c = λ m pairs moves node output left right alike. never_stuck m left right pairs alike moves node output

pub returns-clause-spin : goal.returns-clause-spin
returns-clause-spin c = λ m pairs moves side cycle left right alike. never_spins m left right pairs alike moves side cycle

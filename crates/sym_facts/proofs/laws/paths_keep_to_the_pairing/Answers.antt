use Rattle.sym_facts.proofs.PairingPaths.{branch_keeps, steps_keep, arrival_keeps}
use Rattle.sym_facts.proofs.laws.paths_keep_to_the_pairing.Goals as goal

pub returns-clause-assignments : goal.returns-clause-assignments
returns-clause-assignments c = λ a b side q k v u sound other. branch_keeps a b sound other side q k v u

pub returns-clause-steps : goal.returns-clause-steps
returns-clause-steps c = λ a b side xs v u sound other. steps_keep a b sound other side xs v u

pub returns-clause-arrivals : goal.returns-clause-arrivals
returns-clause-arrivals c = λ a b ls v left right post sound other. arrival_keeps a b sound other ls v left right post

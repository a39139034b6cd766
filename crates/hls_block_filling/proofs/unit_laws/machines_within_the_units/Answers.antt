use Rattle.hls_block_filling.proofs.Fitting.{none_over, within_units}
use Rattle.hls_block_filling.proofs.unit_laws.machines_within_the_units.Goals as goal

pub returns-clause-none : goal.returns-clause-none
returns-clause-none c = λ m units sound within. none_over m units sound within

pub returns-clause-within : goal.returns-clause-within
returns-clause-within c = λ m units sound none. within_units m units sound none

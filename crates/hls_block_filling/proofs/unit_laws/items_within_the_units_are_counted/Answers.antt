use Rattle.hls_block_filling.proofs.Counting.{are_of}
use Rattle.hls_block_filling.proofs.unit_laws.items_within_the_units_are_counted.Goals as goal

pub returns : goal.returns
returns c = λ m units q es us sound within counts h e counted. are_of m sound units within counts q h e es us counted

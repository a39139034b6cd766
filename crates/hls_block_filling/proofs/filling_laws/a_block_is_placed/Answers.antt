use Rattle.hls_block_filling.specs.Filling.{graph_of, filling_of}
use Rattle.hls_block_filling.proofs.Lists.{same_items, placed_valid, placed_below}
use Rattle.hls_block_filling.proofs.filling_laws.a_block_is_placed.Goals as goal

pub returns-clause-items : goal.returns-clause-items
returns-clause-items c = λ items units. same_items items 0 (filling_of (graph_of items) units).rows

pub returns-clause-valid : goal.returns-clause-valid
returns-clause-valid c = placed_valid

pub returns-clause-below : goal.returns-clause-below
returns-clause-below c = placed_below

use Rattle.std.proofs.Common.{◌^◌, ◌<◌, arith}
use Rattle.hls_block_filling.specs.ItemUnits.{units_in}
use Rattle.hls_block_filling.proofs.Fitting.{of_each}
use Rattle.hls_block_filling.proofs.over.see_counts.Goals as goal

pub returns : goal.returns
returns c =
    of_each (λ kind. units_in c.args.units.now kind < 2 ^ 64) (omega (arith, c.of-add.ensures, c.of-add.type_inv))
    (omega (arith, c.of-mul.ensures, c.of-mul.type_inv)) (omega (arith, c.of-div.ensures, c.of-div.type_inv))
    (omega (arith, c.of-mem.ensures, c.of-mem.type_inv))

-- What is said of each kind of unit.
use Rattle.std.proofs.Common.{◌≡◌}
use Rattle.hls_unit_counts.specs.declared.units.Unit.{Unit as Kind}
use Rattle.hls_unit_counts.specs.declared.units.Unit.TheVariants.{Add, Mul, Div, Mem}
use Rattle.hls_block_filling.specs.ItemUnits.{Units}
use Rattle.hls_block_filling.specs.declared.uses.Uses.{Uses}
use Rattle.hls_block_filling.specs.Profiles.{units_of_uses}

pub by_kind : (u : Uses) (f : Units) → u.add ≡ f Add → u.mul ≡ f Mul → u.div ≡ f Div → u.mem ≡ f Mem → (k : Kind) → units_of_uses u k ≡ f k
by_kind u f a b c d Add = a
by_kind u f a b c d Mul = b
by_kind u f a b c d Div = c
by_kind u f a b c d Mem = d

-- Counts that agree at each kind are the same.
use Rattle.std.proofs.Common.{◌≡◌}
use Rattle.hls_unit_counts.specs.declared.units.Unit.{Unit as Kind}
use Rattle.hls_unit_counts.specs.declared.units.Unit.TheVariants.{Add, Mul, Div, Mem}
use Rattle.hls_unit_counts.specs.Counts.{Units}

at_kind : (u v : Units) → u Add ≡ v Add → u Mul ≡ v Mul → u Div ≡ v Div → u Mem ≡ v Mem → (k : Kind) → u k ≡ v k
at_kind u v a b c d Add = a
at_kind u v a b c d Mul = b
at_kind u v a b c d Div = c
at_kind u v a b c d Mem = d

pub same_units : (u v : Units) → u Add ≡ v Add → u Mul ≡ v Mul → u Div ≡ v Div → u Mem ≡ v Mem → u ≡ v
same_units u v a b c d = λ j k. at_kind u v a b c d k j

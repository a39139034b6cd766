-- What is computed is one thing.
use Rattle.std.proofs.Common.{◌≡◌}
use Rattle.nf_terms.specs.Computed.{Done}

pub same_Done : {T : Type 0} (x y : T) → Done x ≡ Done y → x ≡ y
same_Done x y e = cc e

use Rattle.std.proofs.Common.{map}
use Rattle.fs_model.specs.View.{assignment_of}
use Rattle.hls_block_filling.specs.ItemUnits.{used_by}
use Rattle.hls_block_filling.specs.Profiles.{capped_count}
use Rattle.hls_block_filling.proofs.ByKind.{by_kind}
use Rattle.hls_block_filling.proofs.uses.uses_of.Goals as goal

pub returns : goal.returns
returns c =
    by_kind (record { add = c.used_by-add.result; mul = c.used_by-mul.result; div = c.used_by-div.result; mem = c.used_by-mem.result })
    (λ k. capped_count (used_by (map assignment_of c.args.assigns.now) k))
    c.used_by-add.ensures c.used_by-mul.ensures c.used_by-div.ensures c.used_by-mem.ensures

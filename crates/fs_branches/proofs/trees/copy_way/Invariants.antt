use Rattle.std.proofs.Common.{◌≡◌, take}
use Rattle.std.specs.Prelude.{map}
use Rattle.fs_model.specs.View.{shared_literal_of}
use Rattle.fs_branches.proofs.trees.copy_way.Given as goal

abbrev pub invariant-loop-lit : goal.invariant-loop-lit
invariant-loop-lit l = map shared_literal_of l.out.items ≡ map shared_literal_of (take l.lit-index l.way)

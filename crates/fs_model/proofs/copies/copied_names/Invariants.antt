use Rattle.std.proofs.Common.{◌≡◌, take}
use Rattle.fs_model.proofs.copies.copied_names.Given as goal

abbrev pub invariant-loop-name : goal.invariant-loop-name
invariant-loop-name l = l.out.items ≡ take l.name-index l.names

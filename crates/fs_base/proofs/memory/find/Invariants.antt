use Rattle.std.proofs.Common.{◌≡◌, drop}
use Rattle.fs_base.specs.Stored.{newest}
use Rattle.fs_base.proofs.memory.find.Given as goal

abbrev pub invariant-loop-file : goal.invariant-loop-file
invariant-loop-file l = newest (drop l.file-index l.files) l.name ≡ newest l.files l.name

use Rattle.std.proofs.Common.{◌+◌, ◌-◌, ◌≤◌, vec_len}
use Rattle.std.specs.Io.KnownBytes.{Consumes}
use Rattle.fs_base.proofs.disk.read_within.Given as goal

abbrev pub invariant-loop-part : goal.invariant-loop-part
invariant-loop-part g l = record {
  known : Consumes (g.S.Read.remaining l.initial.reader) (g.S.Read.remaining l.reader) l.bytes.items;
  within : vec_len l.bytes ≤ l.limit + 1;
}

abbrev pub decreases-loop-part : goal.decreases-loop-part
decreases-loop-part g l = l.limit + 1 - vec_len l.bytes

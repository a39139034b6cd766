use Rattle.std.specs.Io.KnownBytes.{Keeps}
use Rattle.fs_base.proofs.disk.read_part.Given as goal

abbrev pub invariant-loop : goal.invariant-loop
invariant-loop g l = Keeps (g.S.Read.remaining l.initial.reader) (g.S.Read.remaining l.reader)

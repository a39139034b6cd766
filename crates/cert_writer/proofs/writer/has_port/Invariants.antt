use Rattle.std.proofs.Common.{◌≡◌, drop}
use Rattle.std.specs.List.{list_any}
use Rattle.fs_model.specs.Runs.{is_port}
use Rattle.cert_writer.proofs.writer.has_port.Given as goal

abbrev pub invariant-loop-position : goal.invariant-loop-position
invariant-loop-position l = list_any (λ p. is_port p.sort) l.positions ≡ list_any (λ p. is_port p.sort) (drop l.position-index l.positions)

use Rattle.std.proofs.Common.{◌≡◌, map, take}
use Rattle.cert_terms.specs.CertificateNames.{names_on}
use Rattle.cert_terms.proofs.names.names_on.Given as goal

abbrev pub invariant-loop-position : goal.invariant-loop-position
invariant-loop-position l = record { done : map (λ n. n.now) l.out.items ≡ names_on l.a l.b l.side (take l.position-index l.positions) }

use Rattle.std.proofs.Common.{◌≡◌, length}
use Rattle.cert_terms.proofs.Repeated.{AreNone}
use Rattle.cert_terms.proofs.repeats.none_read.Given as goal

abbrev pub invariant-loop : goal.invariant-loop
invariant-loop l = record {
  none : AreNone l.last.items;
  count : length l.last.items ≡ l.counter;
}

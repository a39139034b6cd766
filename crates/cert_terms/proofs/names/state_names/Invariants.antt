use Rattle.std.proofs.Common.{◌≡◌, map, take, length}
use Rattle.cert_terms.proofs.names.state_names.Given as goal

abbrev pub invariant-loop-state : goal.invariant-loop-state
invariant-loop-state l = record {
  all : l.state-end ≡ length l.m.states;
  done : map (λ n. n.now) l.out.items ≡ map (λ q. q.name) (take l.state l.m.states);
}

use Rattle.std.proofs.Common.{◌≡◌, ◌-◌, ◌<◌, ◌++◌, length, map}
use Rattle.fs_cut.specs.Covers.{passed_states, state_reached}
use Rattle.fs_cut.proofs.walk.pass.Given as goal

abbrev pub invariant-states : goal.invariant-states
invariant-states l = record {
  all : l.end ≡ length l.m.states;
  within : l.at.0 < length l.m.states;
  left : map (λ s. s.0) l.left.items ++ passed_states l.m (length l.m.states - l.counter) l.at.0 ≡ map (λ s. s.0) l.initial.left.items
      ++ passed_states l.m (length l.m.states) l.fn.first.0;
  to : state_reached l.m (length l.m.states - l.counter) l.at.0 ≡ state_reached l.m (length l.m.states) l.fn.first.0;
}

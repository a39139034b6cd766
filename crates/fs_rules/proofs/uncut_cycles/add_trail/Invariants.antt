use Rattle.std.proofs.Common.{◌≡◌, ◌-◌, ◌<◌, ◌++◌, length}
use Rattle.fs_rules.specs.TargetWalks.{trail}
use Rattle.fs_rules.proofs.uncut_cycles.add_trail.Given as goal

abbrev pub invariant-trail : goal.invariant-trail
invariant-trail l = record {
  within : l.at < length l.next;
  made : l.found.items ++ trail l.next (l.steps - l.counter) l.at ≡ l.initial.found.items ++ trail l.next l.steps l.fn.start;
}

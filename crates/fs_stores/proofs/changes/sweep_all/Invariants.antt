use Rattle.std.proofs.Common.{◌≡◌}
use Rattle.std.specs.Prelude.{map}
use Rattle.fs_stores.specs.Values.{store_from, sort_of}
use Rattle.fs_stores.proofs.changes.sweep_all.Given as goal

abbrev pub invariant-loop-change : goal.invariant-loop-change
invariant-loop-change l = record {
  same : store_from l.values ≡ store_from l.initial.values;
  sorts : map sort_of l.values ≡ map sort_of l.initial.values;
}

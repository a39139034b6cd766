use Rattle.std.proofs.Common.{◌<◌, length}
use Rattle.fs_stores.specs.Values.{store_of, IsStoreOf}
use Rattle.fs_runs.proofs.Turns.{At}
use Rattle.fs_runs.proofs.run.run_from.Given as goal

abbrev pub invariant-loop-done : goal.invariant-loop-done
invariant-loop-done l = record {
  at : At l.m l.done l.at.0 (store_of l.store) l.m.reset (store_of l.initial.store);
  store : IsStoreOf l.m l.store;
  within : l.at.0 < length l.m.states;
}

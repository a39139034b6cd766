use Rattle.std.proofs.Common.{◌<◌, length}
use Rattle.fs_stores.specs.Values.{store_of, IsStoreOf}
use Rattle.show_traces.proofs.Tracing.{Goes}
use Rattle.show_traces.proofs.traces.trace_from.Given as goal

abbrev pub invariant-loop-done : goal.invariant-loop-done
invariant-loop-done l = record {
  goes : Goes l.m (store_of l.initial.store) l.done l.at.0 (store_of l.store) l.text.items;
  store : IsStoreOf l.m l.store;
  within : l.at.0 < length l.m.states;
}

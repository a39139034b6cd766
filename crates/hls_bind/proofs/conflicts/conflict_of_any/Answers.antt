use Rattle.std.proofs.Common.{◌<◌, ◌∙◌, sym, ap, arith, length}
use Rattle.std.specs.Prelude.{map}
use Rattle.std.specs.Option.{option_map}
use Rattle.hls_bind.specs.BindingEntries.{binding_entry, conflict_of}
use Rattle.hls_bind.specs.ConflictSearch.{conflict_in, first_conflict}
use Rattle.hls_bind.proofs.Loops.{first_none, first_some}
use Rattle.hls_bind.proofs.conflicts.conflict_of_any.Goals as goal

pub loop-state-preserved : goal.loop-state-preserved
loop-state-preserved c =
    let b = map binding_entry c.args.all.now.entries.now in
    let m = c.args.m.now in
    let low : c.loop-state.state < length m.states = omega (arith, c.loop-state-test.true, c.loop-state.invariant.all) in
    record {
      all = c.loop-state.invariant.all;
      left = first_none (conflict_in b m c.args.live.now) c.loop-state.state (length m.states)
          (first_conflict b m c.args.live.now) low (sym c.conflict_in.ensures ∙ ap (option_map conflict_of) c.in_default.is) c.loop-state.invariant.left;
    }

pub returns-in-Some : goal.returns-in-Some
returns-in-Some c =
    let b = map binding_entry c.args.all.now.entries.now in
    let m = c.args.m.now in
    let low : c.loop-state.state < length m.states = omega (arith, c.loop-state-test.true, c.loop-state.invariant.all) in
    first_some (conflict_in b m c.args.live.now) c.loop-state.state (length m.states) (first_conflict b m c.args.live.now)
    (conflict_of c.in-Some.conflict) low (sym c.conflict_in.ensures ∙ ap (option_map conflict_of) c.in-Some.is) c.loop-state.invariant.left

use Rattle.std.proofs.Common.{◌<◌, ◌∙◌, sym, ap, arith}
use Rattle.std.specs.Prelude.{map}
use Rattle.std.specs.Option.{option_map}
use Rattle.fs_model.specs.SoundMachines.{branch_count}
use Rattle.hls_bind.specs.BindingEntries.{binding_entry, conflict_of}
use Rattle.hls_bind.specs.ConflictSearch.{conflict_at, conflict_in}
use Rattle.hls_bind.proofs.Loops.{first_none, first_some}
use Rattle.hls_bind.proofs.conflicts.conflict_in.Goals as goal

pub loop-number-preserved : goal.loop-number-preserved
loop-number-preserved c =
    let b = map binding_entry c.args.all.now.entries.now in
    let m = c.args.m.now in
    let q = c.args.state.0 in
    let low : c.loop-number.number < branch_count m q = omega (arith, c.loop-number-test.true, c.loop-number.invariant.all) in
    record {
      all = c.loop-number.invariant.all;
      left = first_none (conflict_at b m c.args.live.now q) c.loop-number.number (branch_count m q)
          (conflict_in b m c.args.live.now q) low (sym c.conflict_at.ensures ∙ ap (option_map conflict_of) c.in_default.is) c.loop-number.invariant.left;
    }

pub returns-in-Some : goal.returns-in-Some
returns-in-Some c =
    let b = map binding_entry c.args.all.now.entries.now in
    let m = c.args.m.now in
    let q = c.args.state.0 in
    let low : c.loop-number.number < branch_count m q = omega (arith, c.loop-number-test.true, c.loop-number.invariant.all) in
    first_some (conflict_at b m c.args.live.now q) c.loop-number.number (branch_count m q) (conflict_in b m c.args.live.now q)
    (conflict_of c.in-Some.conflict) low (sym c.conflict_at.ensures ∙ ap (option_map conflict_of) c.in-Some.is) c.loop-number.invariant.left

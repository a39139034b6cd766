use Rattle.std.proofs.Common.{◌<◌, ◌∙◌, sym, ap, arith, length}
use Rattle.std.specs.Prelude.{map}
use Rattle.std.specs.Option.{option_map}
use Rattle.fs_variable_sets.specs.Sets.{has_variable}
use Rattle.hls_bind.specs.BindingEntries.{binding_entry, lost_pair}
use Rattle.hls_bind.specs.ConflictSearch.{lost_by}
use Rattle.hls_bind.specs.Shared.{others_in}
use Rattle.hls_bind.proofs.Apart.{shared_at, others_low, none_here, some_here}
use Rattle.hls_bind.proofs.conflicts.lost_by.Goals as goal

pub bounds-others-k : goal.bounds-others-k
bounds-others-k c =
    let es = c.args.all.now.entries.now in
    let low : c.loop-k.k < length es = omega (arith, c.loop-k-test.true, c.loop-k.invariant.all) in
    others_low (others_in (map binding_entry es)) es c.args.all.now.others.now c.loop-k.k c.args.all.now.shared low

pub lost_if_written-requires : goal.lost_if_written-requires
lost_if_written-requires c =
    let es = c.args.all.now.entries.now in
    let os = c.args.all.now.others.now in
    let low : c.loop-k.k < length es = omega (arith, c.loop-k-test.true, c.loop-k.invariant.all) in
    shared_at (others_in (map binding_entry es)) es os c.loop-k.k c.index-entries-k.result (record { bits = 0 }) c.args.all.now.shared low
    (others_low (others_in (map binding_entry es)) es os c.loop-k.k c.args.all.now.shared low) c.index-entries-k.is

pub loop-k-preserved : goal.loop-k-preserved
loop-k-preserved c =
    let es = c.args.all.now.entries.now in
    let b = map binding_entry es in
    let w = has_variable c.args.writes in
    let l = has_variable c.args.live in
    let low : c.loop-k.k < length es = omega (arith, c.loop-k-test.true, c.loop-k.invariant.all) in
    record {
      all = c.loop-k.invariant.all;
      left = none_here w l b es c.loop-k.k c.index-entries-k.result low c.index-entries-k.is (lost_by w l b b)
          (sym c.lost_if_written.ensures ∙ ap (option_map lost_pair) c.in_default.is) c.loop-k.invariant.left;
    }

pub returns-in-Some : goal.returns-in-Some
returns-in-Some c =
    let es = c.args.all.now.entries.now in
    let b = map binding_entry es in
    let w = has_variable c.args.writes in
    let l = has_variable c.args.live in
    let low : c.loop-k.k < length es = omega (arith, c.loop-k-test.true, c.loop-k.invariant.all) in
    some_here w l b es c.loop-k.k c.index-entries-k.result low c.index-entries-k.is (lost_by w l b b) (lost_pair c.in-Some.pair)
    (sym c.lost_if_written.ensures ∙ ap (option_map lost_pair) c.in-Some.is) c.loop-k.invariant.left

use Rattle.std.proofs.Common.{◌≡◌, true, false, sym, ◌∙◌}
use Rattle.base_laws.proofs.Lists.{map_drop_next}
use Rattle.fs_model.specs.Meaning.{literal_holds}
use Rattle.fs_model.specs.View.{shared_literal_of}
use Rattle.fs_stores.specs.Values.{store_from}
use Rattle.fs_stores.proofs.Ways.{literal_fits, fits_literal}
use Rattle.fs_stores.proofs.Tries.{way_in_front, way_there, way_back, way_ends, hold_more, hold_not}
use Rattle.fs_stores.proofs.branches.literals_hold.Goals as goal

pub returns-in_err-literal_holds : goal.returns-in_err-literal_holds
returns-in_err-literal_holds c =
    let parts = map_drop_next shared_literal_of c.args.way.now c.loop-lit.lit-index c.lit-item.result c.loop-lit-test.true c.lit-item.is in
    let no = rw c.deref.ensures at c.in_err-literal_holds.ensures in
    rw c.from_residual.ensures
    (λ p. no
    (literal_fits (shared_literal_of c.lit-item.result) (store_from c.args.values.now)
    (way_in_front _ _ _ (store_from c.args.values.now) parts (c.loop-lit.invariant.back p))))

pub returns-then-not-branch : goal.returns-then-not-branch
returns-then-not-branch c =
    let parts = map_drop_next shared_literal_of c.args.way.now c.loop-lit.lit-index c.lit-item.result c.loop-lit-test.true c.lit-item.is in
    let held = rw c.deref.ensures at c.in_ok-literal_holds.ensures in
    let h : literal_holds (shared_literal_of c.lit-item.result) (store_from c.args.values.now) ≡ false = sym held.1 ∙ c.if-not-branch.true in (
      c.loop-lit.invariant.there
          (way_ends _ _ _ _ parts h (fits_literal (shared_literal_of c.lit-item.result) (store_from c.args.values.now) held.0)),
      sym (sym c.loop-lit.invariant.hold ∙ hold_not _ _ _ _ parts h),
    )

pub loop-lit-preserved : goal.loop-lit-preserved
loop-lit-preserved c =
    let parts = map_drop_next shared_literal_of c.args.way.now c.loop-lit.lit-index c.lit-item.result c.loop-lit-test.true c.lit-item.is in
    let held = rw c.deref.ensures at c.in_ok-literal_holds.ensures in
    let h : literal_holds (shared_literal_of c.lit-item.result) (store_from c.args.values.now) ≡ true = sym held.1 ∙ c.if-not-branch.false in
    record {
      there = λ p. c.loop-lit.invariant.there
          (way_there _ _ _ _ parts h (fits_literal (shared_literal_of c.lit-item.result) (store_from c.args.values.now) held.0) p);
      back = λ p. way_back _ _ _ _ parts h (c.loop-lit.invariant.back p);
      hold = sym (hold_more _ _ _ _ parts h) ∙ c.loop-lit.invariant.hold;
    }

use Rattle.std.proofs.Common.{◌≡◌, ◌+◌, ◌-◌, ◌<◌, ◌++◌, ◌∙◌, sym, refl, ap, arith, length, map, true, false, List, [], ◌∷◌}
use Rattle.std.specs.Prelude.{filter}
use Rattle.std.specs.List.{range_with_len}
use Rattle.fs_model.specs.declared.parts.StateId.{StateId}
use Rattle.hls_block_filling.specs.BasicBlocks.{is_first_of_block}
use Rattle.hls_sched.proofs.Tracing.{first_more, first_left, firsts_done, firsts_within, firsts_are_first}
use Rattle.hls_sched.proofs.blocks.firsts.Goals as goal
use Rattle.hls_sched.proofs.blocks.firsts.Goals.{then-is_first+in_ok-push, else-is_first}

pub loop-q-preserved : goal.loop-q-preserved
loop-q-preserved c =
    let m = c.args.m.now in
    let n = length m.states in
    let k = c.loop-q.q in
    let old = c.loop-q.out.items in
    let low : k < n = omega (arith, c.loop-q-test.true, c.loop-q.invariant.all) in
    elim c.if-is_first.branch [
      | then-is_first+in_ok-push w ↦ (
          let new : c.if-is_first.out.items ≡ old ++ record { 0 = k } ∷ [] = ap (λ v. v.items) w.out-is ∙ w.in_ok-push.ensures.items in
          let first : is_first_of_block m k ≡ true = sym c.is_first.ensures ∙ w.if-is_first.true in
          record {
            all = c.loop-q.invariant.all;
            done = first_more m old c.if-is_first.out.items (record { 0 = k }) k n low refl first new ∙ c.loop-q.invariant.done;
          })
      | else-is_first w ↦ (
          let same : c.if-is_first.out.items ≡ old = ap (λ v. v.items) w.out-is in
          let left : is_first_of_block m k ≡ false = sym c.is_first.ensures ∙ w.if-is_first.false in
          let rest = filter (is_first_of_block m) (range_with_len (k + 1) (n - (k + 1))) in
          record {
            all = c.loop-q.invariant.all;
            done = ap (λ (qs : List StateId). map (λ (q : StateId). q.0) qs ++ rest) same
                ∙ ap (λ l. map (λ (q : StateId). q.0) old ++ l) (sym (first_left m k n low left)) ∙ c.loop-q.invariant.done;
          })
    ]

pub returns-clause-states : goal.returns-clause-states
returns-clause-states c =
    let e : length c.args.m.now.states - c.loop-q.q ≡ 0 = omega (arith, c.loop-q-test.false, c.loop-q.invariant.all) in
    firsts_done c.args.m.now (map (λ (q : StateId). q.0) c.loop-q.out.items) c.loop-q.q (length c.args.m.now.states) e c.loop-q.invariant.done

pub returns-clause-within : goal.returns-clause-within
returns-clause-within c = firsts_within c.args.m.now c.loop-q.out.items (returns-clause-states c)

pub returns-clause-first : goal.returns-clause-first
returns-clause-first c = firsts_are_first c.args.m.now c.loop-q.out.items (returns-clause-states c)

use Rattle.std.proofs.Common.{◌≡◌, ◌-◌, ◌<◌, ◌∙◌, sym, refl, arith, length, map, true, false}
use Rattle.fs_model.specs.SoundMachines.{is_cutpoint}
use Rattle.fs_model.specs.declared.parts.StateId.{StateId}
use Rattle.fs_cut.specs.Covers.{passed_states}
use Rattle.fs_cut.proofs.Loops.{more, passed_more, reached_more, passed_none, reached_here, all_passed}
use Rattle.fs_cut.proofs.walk.pass.Goals as goal

pub returns-then-is_cutpoint-clause-passed : goal.returns-then-is_cutpoint-clause-passed
returns-then-is_cutpoint-clause-passed c =
    let m = c.args.m.now in
    let left = length m.states - c.states.counter in
    let cut : is_cutpoint m c.states.at.0 ≡ true = sym c.is_cutpoint.ensures ∙ c.if-is_cutpoint.true in
    all_passed (map (λ (s : StateId). s.0) c.states.left.items) _ (passed_states m left c.states.at.0)
    (passed_none m left c.states.at.0 cut) c.states.invariant.left

pub returns-then-is_cutpoint-clause-reached : goal.returns-then-is_cutpoint-clause-reached
returns-then-is_cutpoint-clause-reached c =
    let m = c.args.m.now in
    let cut : is_cutpoint m c.states.at.0 ≡ true = sym c.is_cutpoint.ensures ∙ c.if-is_cutpoint.true in
    sym (reached_here m (length m.states - c.states.counter) c.states.at.0 cut) ∙ c.states.invariant.to

pub states-preserved : goal.states-preserved
states-preserved c =
    let m = c.args.m.now in
    let n = length m.states in
    let k = c.states.counter in
    let q = c.states.at.0 in
    let t = c.first_target-at.result.0 in
    let low : k < n = omega (arith, c.states-test.true, c.states.invariant.all) in
    let cut : is_cutpoint m q ≡ false = sym c.is_cutpoint.ensures ∙ c.if-is_cutpoint.false in
    record {
      all = c.states.invariant.all;
      within = c.first_target-at.ensures.in_range;
      left = more (λ (s : StateId). s.0) c.states.left.items c.push.new.self.items c.states.at q _ _ c.in_ok-push.ensures.items refl
          (passed_more m n k q t low cut c.first_target-at.ensures.target) ∙ c.states.invariant.left;
      to = sym (reached_more m n k q t low cut c.first_target-at.ensures.target) ∙ c.states.invariant.to;
    }

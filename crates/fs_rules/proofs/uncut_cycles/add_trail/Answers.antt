use Rattle.std.proofs.Common.{◌≡◌, ◌∙◌, ◌-◌, ◌+◌, ◌<◌, ◌≤◌, ◌++◌, ◌∷◌, [], suc, sym, ap, append-nil, append_assoc, arith}
use Rattle.std.specs.Prelude.{slice_index}
use Rattle.fs_rules.specs.TargetWalks.{trail}
use Rattle.fs_rules.proofs.uncut_cycles.add_trail.Goals as goal

pub trail-preserved : goal.trail-preserved
trail-preserved c =
    let next = c.args.next.now in
    let q = c.trail.at in
    let k = c.trail.counter in
    let n = c.args.steps in
    let rest = trail next (n - (k + 1)) (slice_index next q) in
    let h : k < n = c.trail-test.true in
    let more : n - k ≡ suc (n - (k + 1)) = omega arith in
    record {
      within = c.requires.leads q c.trail.invariant.within;
      made = ap (λ r. r ++ rest) c.in_ok-push_value.ensures ∙ append_assoc c.trail.found.items (q ∷ []) rest
          ∙ ap (λ j. c.trail.found.items ++ trail next j q) (sym more) ∙ c.trail.invariant.made;
    }

pub returns : goal.returns
returns c =
    let found = c.trail.found.items in
    let h : c.args.steps ≤ c.trail.counter = c.trail-test.false in
    let none : c.args.steps - c.trail.counter ≡ 0 = omega arith in
    sym (append-nil found) ∙ ap (λ j. found ++ trail c.args.next.now j c.trail.at) (sym none) ∙ c.trail.invariant.made

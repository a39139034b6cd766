use Rattle.std.proofs.Common.{◌≡◌, ◌∙◌, ◌+◌, ◌-◌, ◌<◌, ◌∷◌, sym, ap, drop, length, arith}
use Rattle.std.specs.Prelude.{map, ℕ}
use Rattle.fs_model.proofs.Lists.{map_drop_next}
use Rattle.fs_model.specs.Trees.{tree_of_transitions, count_leaves}
use Rattle.fs_branches.specs.NumberedParts.{resolved_transition}
use Rattle.fs_branches.specs.Forks.{capped_leaves}
use Rattle.fs_branches.proofs.Leaves.{count_more}
use Rattle.fs_branches.proofs.trees.count_leaves.Goals as goal

pub loop-k-preserved : goal.loop-k-preserved
loop-k-preserved c =
    let xs = c.args.lines.now in
    let n = length xs in
    let k = c.loop-k.k in
    let i : ℕ = n - 1 - k in
    let x = c.index-lines-lines.result in
    let h : k < n = c.loop-k-test.true in
    let within : i < n = omega arith in
    let after : n - k ≡ i + 1 = omega arith in
    let before : i ≡ n - (k + 1) = omega arith in
    count_more (resolved_transition x) (map resolved_transition (drop (n - k) xs)) c.loop-k.count c.count_transition-count.result c.loop-k.invariant
    c.count_transition-count.ensures
    ∙ ap (λ ls. capped_leaves (count_leaves (tree_of_transitions ls)))
    (ap (λ j. resolved_transition x ∷ map resolved_transition (drop j xs)) after ∙ sym (map_drop_next resolved_transition xs i x within c.index-lines-lines.is)
    ∙ ap (λ j. map resolved_transition (drop j xs)) before)

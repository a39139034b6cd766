use Rattle.std.proofs.Common.{◌≡◌, ◌≤◌, ◌++◌, List, sym, ◌∙◌, ap, subst, length, take, rules}
use Rattle.std.specs.Prelude.{ℤ}
use Rattle.std.specs.List.{flat_map, IsDistinct}
use Rattle.std.specs.Ordering.{int_eq}
use Rattle.fs_trials.specs.Pool.{fixed_values, with_both_signs}
use Rattle.fs_trials.proofs.Pools.{signed_grown, list_differs, list_few, signed_begins}
use Rattle.fs_trials.proofs.pool.signed_values.Goals as goal

pub returns-clause-exact : goal.returns-clause-exact
returns-clause-exact c =
    let own : c.as_slice.result.now ≡ fixed_values = search rules in
    signed_grown c.args.pool.now c.in_ok-values.values.items c.add_signed.new.list.items
    (c.in_ok-values.ensures.items_if_clones_equal (λ x y e. e) ∙ own) c.in_ok-add_signed.ensures

pub returns-clause-begins : goal.returns-clause-begins
returns-clause-begins c = ap (take 17) (returns-clause-exact c) ∙ signed_begins c.args.pool.now

pub returns-clause-distinct : goal.returns-clause-distinct
returns-clause-distinct c =
    subst (λ (p : List ℤ). IsDistinct int_eq p) (sym (returns-clause-exact c)) (list_differs 40 (fixed_values ++ flat_map with_both_signs c.args.pool.now))

pub returns-clause-few : goal.returns-clause-few
returns-clause-few c =
    subst (λ (p : List ℤ). length p ≤ 40) (sym (returns-clause-exact c)) (list_few 40 (fixed_values ++ flat_map with_both_signs c.args.pool.now))

use Rattle.std.proofs.Common.{◌≡◌, ◌≤◌, ◌++◌, List, [], sym, ◌∙◌, ap, subst, length, take, rules}
use Rattle.std.specs.Prelude.{ℤ}
use Rattle.std.specs.List.{fold, flat_map, IsDistinct}
use Rattle.std.specs.Ordering.{int_eq}
use Rattle.fs_model.specs.SoundMachines.{numbers_in_states}
use Rattle.fs_trials.specs.Pool.{first_values, neighbours, with_pool_number}
use Rattle.fs_trials.proofs.Pools.{pool_grown, list_differs, list_few, pool_begins}
use Rattle.fs_trials.proofs.pool.pool.Goals as goal

pub returns-clause-exact : goal.returns-clause-exact
returns-clause-exact c =
    let p = c.add_all.new.list.items in
    let q = c.add_neighbours.new.list.items in
    let start : p ≡ fold (with_pool_number 24) [] first_values = search rules in
    pool_grown (numbers_in_states c.args.a.now.states) (numbers_in_states c.args.b.now.states) p q c.add_neighbours-2.new.list.items start
    (c.in_ok-add_neighbours.ensures ∙ ap (λ cs. fold (with_pool_number 24) p (flat_map neighbours cs)) c.constants.ensures.constants)
    (c.in_ok-add_neighbours-2.ensures ∙ ap (λ cs. fold (with_pool_number 24) q (flat_map neighbours cs)) c.constants-2.ensures.constants)

pub returns-clause-begins : goal.returns-clause-begins
returns-clause-begins c = ap (take 4) (returns-clause-exact c) ∙ pool_begins (numbers_in_states c.args.a.now.states ++ numbers_in_states c.args.b.now.states)

pub returns-clause-distinct : goal.returns-clause-distinct
returns-clause-distinct c = subst (λ (p : List ℤ). IsDistinct int_eq p) (sym (returns-clause-exact c))
    (list_differs 24 (first_values ++ flat_map neighbours (numbers_in_states c.args.a.now.states ++ numbers_in_states c.args.b.now.states)))

pub returns-clause-few : goal.returns-clause-few
returns-clause-few c = subst (λ (p : List ℤ). length p ≤ 24) (sym (returns-clause-exact c))
    (list_few 24 (first_values ++ flat_map neighbours (numbers_in_states c.args.a.now.states ++ numbers_in_states c.args.b.now.states)))

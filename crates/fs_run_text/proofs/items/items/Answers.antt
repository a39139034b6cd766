use Rattle.std.proofs.Common.{◌≡◌, ◌+◌, ◌∷◌, drop, subst}
use Rattle.std.specs.Prelude.{map, IsSome}
use Rattle.fs_model.proofs.Lists.{drop_next}
use Rattle.fs_runs.specs.Outcomes.{output_names, told_by, HoldsEach}
use Rattle.fs_run_text.proofs.Interfaces.{all_behind}
use Rattle.fs_run_text.proofs.Adds.{items_more}
use Rattle.fs_run_text.proofs.items.items.Goals as goal

pub loop-variable-preserved : goal.loop-variable-preserved
loop-variable-preserved c =
    let outs = told_by c.args.m.now c.args.outputs.now in
    let vs = c.vars-variable-items.result.now in
    let i = c.loop-variable.variable-index in
    let v = c.variable-item.result in
    let parts : drop i vs ≡ v ∷ drop (i + 1) vs = drop_next vs i v c.loop-variable-test.true c.variable-item.is in
    record {
      rest = all_behind (λ name. IsSome (outs name)) v (drop (i + 1) vs) (subst (λ ws. HoldsEach outs (output_names ws)) parts c.loop-variable.invariant.rest);
      done = items_more outs vs i v (map (λ i. i.items) c.loop-variable.items.items)
          (map (λ i. i.items) c.add_item.new.items.items) c.loop-variable-test.true c.variable-item.is c.loop-variable.invariant.done c.in_ok-add_item.ensures;
    }

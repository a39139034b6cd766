use Rattle.std.proofs.Common.{◌+◌, ◌≤◌, ◌∷◌, [], map, drop, ap, subst, arith, ◌∙◌}
use Rattle.fs_model.proofs.Lists.{drop_next}
use Rattle.fs_pair.specs.PairedOutputs.{output_pairs}
use Rattle.cert_check.specs.VectorOutputs.{output_over}
use Rattle.cert_check.specs.View.{progress_in, verdict_in, NumberUpTo}
use Rattle.cert_check.proofs.Steps.{outputs_split, left_held, left_stop}
use Rattle.cert_check.proofs.outputs.outputs.Goals as goal

pub returns-in-Stopped-clause-outputs : goal.returns-in-Stopped-clause-outputs
returns-in-Stopped-clause-outputs c =
    let judged = output_over c.args.v.now in
    let all = c.args.lefts.now in
    let rights = c.args.rights.now in
    let i = c.loop-variable.variable-index in
    let x = c.loop-variable.left in
    left_stop c.loop-variable.number (verdict_in c.in-Stopped.verdict) (map judged (output_pairs x (c.variable-item.result ∷ []) rights))
    (map judged (output_pairs (x + 1) (drop (i + 1) all) rights)) (map judged (output_pairs x (drop i all) rights))
    (map judged (output_pairs 0 all rights)) c.args.first (progress_in c.in_ok-next.field-0)
    (ap (λ vs. map judged (output_pairs x vs rights)) (drop_next all i c.variable-item.result c.loop-variable-test.true c.variable-item.is)
    ∙ outputs_split judged x c.variable-item.result (drop (i + 1) all) rights)
    (ap progress_in c.in-Stopped.is) c.in_ok-next.ensures.output c.loop-variable.invariant.rest

pub loop-variable-preserved : goal.loop-variable-preserved
loop-variable-preserved c =
    let judged = output_over c.args.v.now in
    let all = c.args.lefts.now in
    let rights = c.args.rights.now in
    let i = c.loop-variable.variable-index in
    let x = c.loop-variable.left in
    let b : c.in-Held.next ≤ c.loop-variable.number + 1 = subst (NumberUpTo (c.loop-variable.number + 1)) c.in-Held.is c.in_ok-next.ensures.bound in
    record {
      counted = ap (λ n. n + 1) c.loop-variable.invariant.counted;
      low = omega (arith, c.loop-variable.invariant.low, b);
      rest = left_held c.loop-variable.number c.in-Held.next (map judged (output_pairs x (c.variable-item.result ∷ []) rights))
          (map judged (output_pairs (x + 1) (drop (i + 1) all) rights)) (map judged (output_pairs x (drop i all) rights))
          (map judged (output_pairs 0 all rights)) c.args.first (progress_in c.in_ok-next.field-0)
          (ap (λ vs. map judged (output_pairs x vs rights)) (drop_next all i c.variable-item.result c.loop-variable-test.true c.variable-item.is)
          ∙ outputs_split judged x c.variable-item.result (drop (i + 1) all) rights)
          (ap progress_in c.in-Held.is) c.in_ok-next.ensures.output c.loop-variable.invariant.rest;
    }

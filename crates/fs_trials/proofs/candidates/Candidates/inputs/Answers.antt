use Rattle.std.proofs.Common.{◌≡◌, ◌≤◌, length, sym, ◌∙◌, ap, subst, arith}
use Rattle.std.specs.Prelude.{None, Some, map, option_map, slice_get}
use Rattle.fs_stores.specs.Values.{content_of}
use Rattle.fs_stores.specs.InputValues.{Signature, input_values, input_signatures, Serves}
use Rattle.fs_trials.specs.Candidates.{candidate, contents, content_at}
use Rattle.fs_trials.proofs.Given.{as_many, given_more, given_all, past_all, few_inputs, inputs_are}
use Rattle.fs_trials.proofs.candidates.Candidates.inputs.Goals as goal

pub returns-in_default-clause-contents : goal.returns-in_default-clause-contents
returns-in_default-clause-contents c =
    let fs = input_signatures c.args.m.now.variables in
    let k = c.loop-k.k in
    let past : option_map (λ (f : Signature). f.1) (slice_get fs k) ≡ None =
    ap (λ gs. option_map (λ (f : Signature). f.1) (slice_get gs k)) (sym c.loop-k.invariant.signatures) ∙ sym c.sort.ensures ∙ c.in_default.is in
    given_all (candidate c.args.self.now.pool.items c.args.j) k (map content_of (input_values c.loop-k.inputs)) fs
    (as_many c.loop-k.inputs.items.items ∙ ap length c.loop-k.invariant.signatures) (past_all fs k past) c.loop-k.invariant.done

pub returns-in_default-clause-inputs : goal.returns-in_default-clause-inputs
returns-in_default-clause-inputs c =
    let fs = input_signatures c.args.m.now.variables in
    inputs_are c.loop-k.inputs fs (contents (candidate c.args.self.now.pool.items c.args.j) 0 fs) c.loop-k.invariant.signatures
    (returns-in_default-clause-contents c)

pub loop-k-preserved : goal.loop-k-preserved
loop-k-preserved c =
    let fs = input_signatures c.args.m.now.variables in
    let k = c.loop-k.k in
    let g = candidate c.args.self.now.pool.items c.args.j in
    let sort : option_map (λ (f : Signature). f.1) (slice_get fs k) ≡ Some c.in-Some.sort =
    ap (λ gs. option_map (λ (f : Signature). f.1) (slice_get gs k)) (sym c.loop-k.invariant.signatures) ∙ sym c.sort.ensures ∙ c.in-Some.is in
    record {
      signatures = c.set.ensures.signatures ∙ c.loop-k.invariant.signatures;
      serves = subst (λ gs. Serves gs c.args.m.now) (sym c.set.ensures.signatures) c.loop-k.invariant.serves;
      done = given_more g k (input_values c.loop-k.inputs) (input_values c.set.new.self) fs c.in-Some.sort c.in_ok-own.own
          (as_many c.loop-k.inputs.items.items ∙ ap length c.loop-k.invariant.signatures) sort
          (c.in_ok-own.ensures.content ∙ ap (λ n. content_at g n c.in-Some.sort) c.from.ensures) c.in_ok-set.ensures.values c.loop-k.invariant.done;
    }

pub returns-clause-contents : goal.returns-clause-contents
returns-clause-contents c =
    let vs = c.args.m.now.variables in
    let fs = input_signatures vs in
    let few = few_inputs vs in
    let bound = ap length c.vars.ensures.vars in
    let all : length fs ≤ c.loop-k.k = omega arith in
    given_all (candidate c.args.self.now.pool.items c.args.j) c.loop-k.k (map content_of (input_values c.loop-k.inputs)) fs
    (as_many c.loop-k.inputs.items.items ∙ ap length c.loop-k.invariant.signatures) all c.loop-k.invariant.done

pub returns-clause-inputs : goal.returns-clause-inputs
returns-clause-inputs c =
    let fs = input_signatures c.args.m.now.variables in
    inputs_are c.loop-k.inputs fs (contents (candidate c.args.self.now.pool.items c.args.j) 0 fs) c.loop-k.invariant.signatures (returns-clause-contents c)

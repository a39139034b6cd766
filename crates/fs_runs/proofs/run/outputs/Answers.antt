use Rattle.std.proofs.Common.{◌≡◌, ◌<◌, ◌∙◌, ◌++◌, ◌∷◌, [], ap, ap₂, sym, length, arith}
use Rattle.std.specs.Prelude.{map, List}
use Rattle.std.proofs.lemmas.List.{length-map}
use Rattle.fs_model.specs.declared.parts.VarInfo.{VarInfo}
use Rattle.fs_model.specs.Runs.{Content}
use Rattle.fs_stores.specs.declared.values.Value.{Value}
use Rattle.fs_stores.specs.Values.{content_of, sort_of, store_of, values_of}
use Rattle.fs_runs.specs.Outcomes.{output_names, outs_of, outputs_by_name, told_by}
use Rattle.fs_runs.proofs.Outs.{told_all, as_long, outs_count, outs_next, outs_done, holds_each}
use Rattle.fs_runs.proofs.run.outputs.Goals as goal

pub loop-k-preserved : goal.loop-k-preserved
loop-k-preserved c =
    let vars = c.vars-vars.result.now in
    let vs = c.as_slice-values.result.now in
    let v = c.index-vars-k.result in
    let w = c.index-values-k.result in
    let done = map content_of c.loop-k.out.items in
    let sorts : map sort_of vs ≡ map (λ u. u.sort) vars = rw (c.vars-vars.ensures.vars, c.as_slice-values.ensures.value) c.requires in
    let long : length vs ≡ length vars = as_long vars vs sorts in
    let here : c.loop-k.k < length vs = omega (arith, long, c.loop-k-test.true) in
    let more = c.in_ok-add_output.ensures ∙ ap₂ (λ (a : VarInfo) (b : Value). done ++ outs_of (a ∷ []) (b ∷ [])) c.index-vars-k.is c.index-values-k.is in
    outs_next vars vs c.loop-k.k v w done (map content_of c.add_output.new.out.items) (outs_of vars vs) c.loop-k-test.true here more c.loop-k.invariant

pub returns-clause-told : goal.returns-clause-told
returns-clause-told c = λ name.
    let vars = c.vars-vars.result.now in
    let vs = c.as_slice-values.result.now in
    let all = outs_done vars vs c.loop-k.k (map content_of c.loop-k.out.items) c.loop-k-test.false c.loop-k.invariant in
    let whole = rw (c.vars-vars.ensures.vars, c.as_slice-values.ensures.value) at all in
    told_all c.args.m.now (values_of c.args.store.now) name c.requires ∙ ap (λ o. outputs_by_name (output_names c.args.m.now.variables) o name) (sym whole)

pub returns-clause-count : goal.returns-clause-count
returns-clause-count c =
    let vars = c.vars-vars.result.now in
    let vs = c.as_slice-values.result.now in
    let all = outs_done vars vs c.loop-k.k (map content_of c.loop-k.out.items) c.loop-k-test.false c.loop-k.invariant in
    let whole = rw (c.vars-vars.ensures.vars, c.as_slice-values.ensures.value) at all in
    sym (length-map c.loop-k.out.items content_of) ∙ ap (λ (cs : List Content). length cs) whole
    ∙ outs_count c.args.m.now.variables (values_of c.args.store.now) c.requires

pub returns-clause-holds : goal.returns-clause-holds
returns-clause-holds c = holds_each c.args.m.now (store_of c.args.store.now) (told_by c.args.m.now c.loop-k.out.items) (returns-clause-told c)

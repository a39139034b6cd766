use Rattle.std.proofs.Common.{◌≡◌, ◌∙◌, ap, sym, subst}
use Rattle.std.specs.Prelude.{Some}
use Rattle.std.proofs.lemmas.List.{take_all}
use Rattle.fs_stores.specs.InputValues.{sort_named, input_signatures}
use Rattle.fs_stores.proofs.InputValues.{serves_own, zeros_given}
use Rattle.fs_stores.proofs.inputs.Inputs.zero.Goals as goal

pub returns-clause-serves : goal.returns-clause-serves
returns-clause-serves c = λ k v e h.
    let all = c.loop-var.invariant.signatures
    ∙ ap input_signatures (take_all c.loop-var.var-index c.vars-var-items.result.now c.loop-var-test.false ∙ c.vars-var-items.ensures.vars) in
    subst (λ fs. sort_named fs v.name ≡ Some v.sort) (sym all) (serves_own c.args.m.now.variables k v c.vars-var-items.ensures.sound.variables_differ e h)

pub returns-clause-zero : goal.returns-clause-zero
returns-clause-zero c = zeros_given (record { items = c.loop-var.items }) c.loop-var.invariant.zero

use Rattle.std.proofs.Common.{◌∙◌, ap}
use Rattle.std.specs.Prelude.{map}
use Rattle.std.proofs.lemmas.List.{take_all}
use Rattle.fs_stores.specs.InputValues.{inputs_of, first_content}
use Rattle.fs_stores.proofs.InputValues.{starts}
use Rattle.fs_stores.proofs.inputs.start.Goals as goal

pub returns-clause-start : goal.returns-clause-start
returns-clause-start c =
    let vars = c.vars-var-items.result.now in
    starts c.args.m.now (inputs_of c.args.inputs.now) c.loop-var.values.items
    (c.loop-var.invariant.contents ∙ ap (map (first_content (inputs_of c.args.inputs.now)))
    (take_all c.loop-var.var-index vars c.loop-var-test.false ∙ c.vars-var-items.ensures.vars))

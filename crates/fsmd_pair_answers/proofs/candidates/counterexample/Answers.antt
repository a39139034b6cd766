use Rattle.std.specs.Prelude.{map}
use Rattle.fs_stores.specs.Values.{content_of}
use Rattle.fs_stores.specs.InputValues.{input_values, inputs_of}
use Rattle.fsmd_pair_answers.proofs.Behaviour.{is_counterexample}
use Rattle.fsmd_pair_answers.proofs.candidates.counterexample.Goals as goal

pub returns-in_ok-text_of-in-Ok-Some : goal.returns-in_ok-text_of-in-Ok-Some
returns-in_ok-text_of-in-Ok-Some c =
    let f = c.in-Ok-Some.found in
    is_counterexample c.args.steps c.args.a.now c.args.b.now f.j (inputs_of f.inputs)
    (map content_of (input_values f.inputs)) f.left f.right c.in_ok-text_of-in-Ok-Some.field-0.items
    c.vars-left.ensures.sound
    c.vars-right.ensures.sound
    (rw c.in-Ok-Some.field-0-is at c.in-Ok-Some.ensures.number)
    (rw c.in-Ok-Some.field-0-is at c.in-Ok-Some.ensures.inputs)
    (rw c.in-Ok-Some.field-0-is at c.in-Ok-Some.ensures.contents)
    (rw c.in-Ok-Some.field-0-is at c.in-Ok-Some.ensures.ends)
    (rw c.in-Ok-Some.field-0-is at c.in-Ok-Some.ensures.first)
    c.in_ok-text_of-in-Ok-Some.ensures

pub returns-in-Ok-None : goal.returns-in-Ok-None
returns-in-Ok-None c = record { none = c.in-Ok-None.ensures.none c.in-Ok-None.field-0-is }

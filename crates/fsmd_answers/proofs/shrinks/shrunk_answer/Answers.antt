use Rattle.fsmd_answers.proofs.SmallAnswers.{is_smaller}
use Rattle.fsmd_answers.proofs.shrinks.shrunk_answer.Goals as goal

pub returns-in-Ok-counterexample_text : goal.returns-in-Ok-counterexample_text
returns-in-Ok-counterexample_text c =
    let a = c.args.pair.now.left in
    let given = c.inputs_are_given_by_name.ensures a c.args.inputs.now c.vars-left.ensures.sound c.requires.ports c.requires.inputs in
    is_smaller c.args.steps a c.args.pair.now.right c.args.inputs.now c.in-Ok.small c.in-Ok-counterexample_text.text.items c.of.result c.requires.shows given
    c.in-Ok.ensures.end c.in-Ok.ensures.signatures c.in-Ok.ensures.ends c.in-Ok-counterexample_text.ensures c.of.ensures

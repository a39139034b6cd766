use Rattle.fs_model.specs.View.{source_of}
use Rattle.fs_ast.specs.MachineOfParts.{machine_of}
use Rattle.fsmd_answers.specs.BindingAnswers.{Binding}
use Rattle.fsmd_answers.specs.BindingFiles.{RefusesBinding, SpellsBinding, IsOfBinding}
use Rattle.fsmd_answers.specs.Follows.{Ends}
use Rattle.fsmd_tool.proofs.InOrder.{passed_on, refused_in_order, made_last}
use Rattle.fsmd_tool.proofs.answer.synthesis.bind_from.Goals as goal

pub returns-in_err-binding-clause-answers : goal.returns-in_err-binding-clause-answers
returns-in_err-binding-clause-answers g c =
    let p = source_of c.args.loaded.now.parts in
    let m = machine_of p in
    let r = rw c.requires.spelled at c.in_err-binding.ensures.refused in
    passed_on _ c.from_residual.result _ c.from_residual.ensures.1
    (refused_in_order Binding (RefusesBinding m) (SpellsBinding m) (λ b. Ends (IsOfBinding p b)) 1 _ _ c.load_binding.ensures.loads r)

pub returns-clause-answers : goal.returns-clause-answers
returns-clause-answers g c =
    let p = source_of c.args.loaded.now.parts in
    let m = machine_of p in
    let spells = rw c.requires.spelled at c.in_ok-binding.ensures.spells in
    made_last Binding (RefusesBinding m) (SpellsBinding m) (IsOfBinding p)
    1 _ c.in_ok-binding.binding
    c.load_binding.ensures.loads spells c.bind_machine.result c.made_answer.result c.made_answer.ensures c.bind_machine.ensures

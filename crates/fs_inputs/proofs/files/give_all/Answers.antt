use Rattle.std.proofs.Common.{sym, ap, ◌∙◌, string_bytes}
use Rattle.serde_json.specs.View.{view, members_view}
use Rattle.fs_stores.specs.InputValues.{inputs_of, input_signatures}
use Rattle.fs_inputs.specs.Steps.{inputs_over}
use Rattle.fs_inputs.proofs.Steps.{first_fine, inputs_step, over_none}
use Rattle.fs_inputs.proofs.files.give_all.Goals as goal

pub give-requires-clause-fine : goal.give-requires-clause-fine
give-requires-clause-fine c =
    let s = c.in-Some.ensures.steps in
    (first_fine (input_signatures c.args.m.now.variables) (string_bytes c.in-Some.name.now) (view c.in-Some.value.now) (members_view c.next.new.self)
    (rw s at c.loop-name.invariant.fine)).0

pub loop-name-preserved : goal.loop-name-preserved
loop-name-preserved c =
    let l = c.loop-name in
    let s = c.in-Some.ensures.steps in
    record {
      fine =
          (first_fine (input_signatures c.args.m.now.variables) (string_bytes c.in-Some.name.now) (view c.in-Some.value.now) (members_view c.next.new.self)
          (rw s at l.invariant.fine)).1;
      signatures = c.in_ok-give.ensures.signatures ∙ l.invariant.signatures;
      given = inputs_step (string_bytes c.in-Some.name.now) (view c.in-Some.value.now) (members_view c.next.new.self) (inputs_of l.inputs)
          (inputs_of c.give.new.inputs) c.in_ok-give.ensures.given
          ∙ (ap (λ it. inputs_over (inputs_of l.inputs) (members_view it)) (sym s) ∙ l.invariant.given);
    }

pub returns-clause-given : goal.returns-clause-given
returns-clause-given c =
    let l = c.loop-name in
    over_none (inputs_of l.inputs) ∙ (ap (λ it. inputs_over (inputs_of l.inputs) (members_view it)) (sym c.in-None.ensures.steps.0) ∙ l.invariant.given)

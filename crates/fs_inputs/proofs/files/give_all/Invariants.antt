use Rattle.std.proofs.Common.{◌≡◌, None}
use Rattle.serde_json.specs.View.{members_view}
use Rattle.fs_stores.specs.InputValues.{inputs_of, signatures_of, input_signatures}
use Rattle.fs_inputs.specs.InputMembers.{first_input_fault}
use Rattle.fs_inputs.specs.Steps.{inputs_over}
use Rattle.fs_inputs.proofs.files.give_all.Given as goal

abbrev pub invariant-loop-name : goal.invariant-loop-name
invariant-loop-name l = record {
  fine : first_input_fault (input_signatures l.m.variables) (members_view l.name-iterator) ≡ None;
  signatures : signatures_of l.inputs ≡ signatures_of l.fn.inputs;
  given : inputs_over (inputs_of l.inputs) (members_view l.name-iterator) ≡ inputs_over (inputs_of l.fn.inputs) (members_view l.members.entries);
}

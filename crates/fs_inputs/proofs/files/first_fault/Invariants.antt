use Rattle.std.proofs.Common.{◌≡◌}
use Rattle.serde_json.specs.View.{members_view}
use Rattle.fs_stores.specs.InputValues.{input_signatures}
use Rattle.fs_inputs.specs.InputMembers.{first_input_fault}
use Rattle.fs_inputs.proofs.files.first_fault.Given as goal

abbrev pub invariant-loop-name : goal.invariant-loop-name
invariant-loop-name l = first_input_fault (input_signatures l.m.variables) (members_view l.name-iterator)
    ≡ first_input_fault (input_signatures l.m.variables) (members_view l.members.entries)

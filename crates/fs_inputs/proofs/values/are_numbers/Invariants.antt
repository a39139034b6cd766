use Rattle.std.proofs.Common.{◌≡◌}
use Rattle.serde_json.specs.View.{members_view}
use Rattle.fs_inputs.specs.InputMembers.{are_numbers}
use Rattle.fs_inputs.proofs.values.are_numbers.Given as goal

abbrev pub invariant-loop-name : goal.invariant-loop-name
invariant-loop-name l = are_numbers (members_view l.name-iterator) ≡ are_numbers (members_view l.members.entries)

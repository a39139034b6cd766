use Rattle.std.proofs.Common.{◌≡◌, true, ℤ}
use Rattle.serde_json.specs.View.{members_view}
use Rattle.fs_stores.specs.Values.{entry_number}
use Rattle.fs_inputs.specs.InputMembers.{are_numbers, all_fit, input_number_or_zero, last_member_value, spells}
use Rattle.fs_inputs.specs.Steps.{entry_over}
use Rattle.fs_inputs.proofs.values.entries_of.Given as goal

abbrev pub invariant-loop-name : goal.invariant-loop-name
invariant-loop-name l = record {
  numbers : are_numbers (members_view l.name-iterator) ≡ true;
  size : all_fit (members_view l.name-iterator) ≡ true;
  entries : (i : ℤ) → entry_over (entry_number l.entries i) (members_view l.name-iterator) i
      ≡ input_number_or_zero (last_member_value (spells i) (members_view l.members.entries));
}

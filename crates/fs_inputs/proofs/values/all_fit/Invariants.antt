use Rattle.std.proofs.Common.{◌≡◌}
use Rattle.serde_json.specs.View.{members_view}
use Rattle.fs_inputs.specs.InputMembers.{all_fit}
use Rattle.fs_inputs.proofs.values.all_fit.Given as goal

abbrev pub invariant-loop-name : goal.invariant-loop-name
invariant-loop-name l = all_fit (members_view l.name-iterator) ≡ all_fit (members_view l.members.entries)

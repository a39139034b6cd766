use Rattle.std.proofs.Common.{◌≡◌}
use Rattle.serde_json.specs.View.{members_view}
use Rattle.hls_unit_counts.specs.Counts.{first_count_fault}
use Rattle.hls_unit_counts.proofs.files.first_fault.Given as goal

abbrev pub invariant-loop-key : goal.invariant-loop-key
invariant-loop-key l = first_count_fault (members_view l.key-iterator) ≡ first_count_fault (members_view l.members.entries)

use Rattle.std.proofs.Common.{◌≡◌, length}
use Rattle.cert_values.specs.View.{members_view}
use Rattle.cert_json.specs.Trim.{first_names}
use Rattle.cert_json.proofs.short_object.cut.Given as goal

abbrev pub invariant-loop-found : goal.invariant-loop-found
invariant-loop-found l = first_names (members_view l.found.entries) ≡ first_names (members_view l.initial.found.entries)

abbrev pub decreases-loop-found : goal.decreases-loop-found
decreases-loop-found l = length l.found.entries

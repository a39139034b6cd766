use Rattle.std.proofs.Common.{◌≡◌}
use Rattle.serde_json.specs.View.{members_view}
use Rattle.hls_bind.specs.BindingMembers.{first_binding_fault}
use Rattle.hls_bind.proofs.reader.first_fault.Given as goal

abbrev pub invariant-loop-name : goal.invariant-loop-name
invariant-loop-name l = first_binding_fault l.vars (members_view l.name-iterator) ≡ first_binding_fault l.vars (members_view l.members.entries)

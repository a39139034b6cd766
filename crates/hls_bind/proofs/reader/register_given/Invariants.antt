use Rattle.std.proofs.Common.{◌≡◌}
use Rattle.serde_json.specs.View.{members_view}
use Rattle.hls_bind.specs.BindingMembers.{register_given}
use Rattle.hls_bind.proofs.reader.register_given.Given as goal

abbrev pub invariant-loop-name : goal.invariant-loop-name
invariant-loop-name l = register_given (members_view l.name-iterator) l.var.name ≡ register_given (members_view l.members.entries) l.var.name

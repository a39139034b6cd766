use Rattle.std.proofs.Common.{◌≡◌, ◌++◌, drop}
use Rattle.std.specs.Prelude.{map}
use Rattle.serde_json.specs.View.{members_view}
use Rattle.hls_bind.specs.BindingEntries.{binding_entry}
use Rattle.hls_bind.specs.BindingMembers.{binding_from}
use Rattle.hls_bind.proofs.reader.entries_of.Given as goal

abbrev pub invariant-loop-k : goal.invariant-loop-k
invariant-loop-k l = map binding_entry l.entries.items ++ binding_from l.k (drop l.k l.vars) (members_view l.members.entries)
    ≡ binding_from 0 l.vars (members_view l.members.entries)

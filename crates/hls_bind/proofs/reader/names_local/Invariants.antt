use Rattle.std.proofs.Common.{◌≡◌, drop}
use Rattle.hls_bind.specs.BindingMembers.{names_local}
use Rattle.hls_bind.proofs.reader.names_local.Given as goal

abbrev pub invariant-loop-var : goal.invariant-loop-var
invariant-loop-var l = names_local (drop l.var-index l.vars) l.name ≡ names_local l.vars l.name

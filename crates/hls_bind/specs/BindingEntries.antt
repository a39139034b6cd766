-- Entries of a binding and conflicts as plain data.
use Rattle.std.specs.Prelude.{ℕ, Bool, List, map}
use Rattle.fs_ast.specs.MachineOfParts.{names_of}
use Rattle.hls_bind.specs.declared.binding.BoundLocal.{BoundLocal}
use Rattle.hls_bind.specs.declared.conflicts.Pair.{Pair as CodePair}
use Rattle.hls_bind.specs.declared.conflicts.Conflict.{Conflict as CodeConflict}
use Rattle.hls_bind.specs.declared.renaming.Registers.{Registers}
use Rattle.hls_bind.specs.Bindings.{bound_name}
use Rattle.hls_bind.specs.Conflicts.{Conflict}
use Rattle.hls_bind.specs.ConflictSearch.{LostPair}

-- the number of a local with the name of its register
abbrev pub binding_entry : BoundLocal → ℕ × List ℕ
binding_entry e = (e.local.0, e.register)

-- two locals of which one is lost
abbrev pub lost_pair : CodePair → LostPair
lost_pair p = record { written = p.written.0; other = p.other.0; twice = p.twice }

-- a conflict, and whether it is twice
abbrev pub conflict_of : CodeConflict → Conflict × Bool
conflict_of c = (record { state = c.state.0; branch = c.branch; written = c.written.0; other = c.other.0 }, c.twice)

-- the name that stands for a name: its register, or itself
abbrev pub name_for : Registers → List ℕ → List ℕ
name_for g n = bound_name (map binding_entry g.entries.now) (names_of g.vars.now) n

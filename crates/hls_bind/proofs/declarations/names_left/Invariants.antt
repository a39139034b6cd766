use Rattle.std.proofs.Common.{◌≡◌, take}
use Rattle.std.specs.Prelude.{map, filter}
use Rattle.fs_ast.specs.MachineOfParts.{names_of}
use Rattle.hls_bind.specs.Bindings.{stays}
use Rattle.hls_bind.specs.BindingEntries.{binding_entry}
use Rattle.hls_bind.proofs.declarations.names_left.Given as goal

abbrev pub invariant-loop-name : goal.invariant-loop-name
invariant-loop-name l = l.out.items ≡ filter (stays (map binding_entry l.registers.entries.now) (names_of l.registers.vars.now)) (take l.name-index l.names)

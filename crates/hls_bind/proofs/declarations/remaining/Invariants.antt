use Rattle.std.proofs.Common.{◌≡◌, take}
use Rattle.std.specs.Prelude.{map}
use Rattle.fs_ast.specs.MachineOfParts.{names_of}
use Rattle.hls_bind.specs.Bindings.{remaining_declarations}
use Rattle.hls_bind.specs.BindingEntries.{binding_entry}
use Rattle.fs_model.specs.View.{declaration_of}
use Rattle.hls_bind.proofs.declarations.remaining.Given as goal

abbrev pub invariant-loop-decl : goal.invariant-loop-decl
invariant-loop-decl l = map declaration_of l.out.items ≡ remaining_declarations (map binding_entry l.registers.entries.now) (names_of l.registers.vars.now)
    (map declaration_of (take l.decl-index l.decls))

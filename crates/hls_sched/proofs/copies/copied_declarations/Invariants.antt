use Rattle.std.proofs.Common.{◌≡◌, take}
use Rattle.std.specs.Prelude.{map}
use Rattle.fs_model.specs.View.{declaration_of}
use Rattle.hls_sched.proofs.copies.copied_declarations.Given as goal

abbrev pub invariant-loop-decl : goal.invariant-loop-decl
invariant-loop-decl l = map declaration_of l.out.items ≡ map declaration_of (take l.decl-index l.decls)

use Rattle.std.proofs.Common.{◌≡◌, ◌++◌, map, drop, take, IsTrue}
use Rattle.std.specs.List.{flat_map, list_all}
use Rattle.fs_model.specs.View.{declaration_of}
use Rattle.fs_write.specs.Canonical.{declaration_text}
use Rattle.fs_write.specs.Spellable.{is_spellable_declaration}
use Rattle.fs_write.proofs.states.write_declarations.Given as goal

abbrev pub invariant-loop-decl : goal.invariant-loop-decl
invariant-loop-decl l =
    (l.out.items ++ flat_map declaration_text (map declaration_of (drop l.decl-index l.decls)) ≡ l.fn.out.items
    ++ flat_map declaration_text (map declaration_of l.decls))
    × IsTrue (list_all is_spellable_declaration (map declaration_of (take l.decl-index l.decls)))

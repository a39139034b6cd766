use Rattle.std.proofs.Common.{◌≡◌, ◌++◌, map, drop, take, IsTrue}
use Rattle.std.specs.List.{flat_map, list_all}
use Rattle.fs_model.specs.View.{source_transition_of}
use Rattle.fs_write.specs.Canonical.{line_text}
use Rattle.fs_write.specs.Spellable.{is_spellable_transition}
use Rattle.fs_write.proofs.states.write_lines.Given as goal

abbrev pub invariant-loop-line : goal.invariant-loop-line
invariant-loop-line l =
    (l.out.items ++ flat_map line_text (map source_transition_of (drop l.line-index l.lines)) ≡ l.fn.out.items
    ++ flat_map line_text (map source_transition_of l.lines))
    × IsTrue (list_all is_spellable_transition (map source_transition_of (take l.line-index l.lines)))

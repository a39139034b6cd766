use Rattle.std.proofs.Common.{◌≡◌, ◌++◌, map, drop, take, IsTrue}
use Rattle.std.specs.List.{flat_map, list_all}
use Rattle.fs_model.specs.View.{named_assignment}
use Rattle.fs_write.specs.Canonical.{after_comma, assignment_text}
use Rattle.fs_write.specs.Spellable.{is_spellable_assignment}
use Rattle.fs_write.proofs.states.write_more_assigns.Given as goal

abbrev pub invariant-loop-assign : goal.invariant-loop-assign
invariant-loop-assign l =
    (l.out.items ++ flat_map after_comma (map assignment_text (map named_assignment (drop l.assign-index l.assigns))) ≡ l.fn.out.items
    ++ flat_map after_comma (map assignment_text (map named_assignment l.assigns)))
    × IsTrue (list_all is_spellable_assignment (map named_assignment (take l.assign-index l.assigns)))

use Rattle.std.proofs.Common.{◌≡◌, drop}
use Rattle.std.specs.Prelude.{◌==◌}
use Rattle.std.specs.List.{list_any}
use Rattle.show_search_views.proofs.marks.look_at.Given as goal

abbrev pub invariant-loop-mark : goal.invariant-loop-mark
invariant-loop-mark l =
    list_any (λ j. j == l.number) (drop l.mark-index l.marks) ≡ list_any (λ j. j == l.number) l.marks

use Rattle.std.specs.Ordering.{nat_cmp}
use Rattle.std.specs.BTreeSet.{contains}
use Rattle.fs_model.specs.View.{named_assignment}
use Rattle.fs_model.specs.Renamed.{assignment_over}
use Rattle.fs_rules.specs.MachineOfParts.{place_or_end, names_of}
use Rattle.fs_rules.proofs.Uses.{SeenTo}
use Rattle.fs_rules.proofs.scope.Scope.assigns_twice.Given as goal

abbrev pub invariant-loop-assign : goal.invariant-loop-assign
invariant-loop-assign l = SeenTo _ (λ a. assignment_over (place_or_end (names_of l.self.vars.items)) (named_assignment a)) l.assigns l.assign-index
    (contains nat_cmp l.seen)

use Rattle.std.proofs.Common.{◌≡◌, ◌++◌, map, drop}
use Rattle.std.specs.List.{flat_map}
use Rattle.fs_model.specs.View.{shared_literal_of}
use Rattle.show_machine_pictures.specs.Pictures.{after_and}
use Rattle.show_machine_pictures.proofs.branches.write_more_literals.Given as goal

abbrev pub invariant-loop-literal : goal.invariant-loop-literal
invariant-loop-literal l =
    l.out.items ++ flat_map (after_and l.variables) (map shared_literal_of (drop l.literal-index l.literals)) ≡ l.fn.out.items
    ++ flat_map (after_and l.variables) (map shared_literal_of l.literals)

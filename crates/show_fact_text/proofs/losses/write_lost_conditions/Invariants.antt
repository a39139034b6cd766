use Rattle.std.proofs.Common.{◌≡◌, ◌++◌, drop}
use Rattle.std.specs.List.{flat_map}
use Rattle.show_fact_text.specs.View.{side_names_in}
use Rattle.show_fact_text.specs.LostLines.{lost_condition}
use Rattle.show_fact_text.proofs.losses.write_lost_conditions.Given as goal

abbrev pub invariant-loop-index : goal.invariant-loop-index
invariant-loop-index l =
    l.out.items ++ flat_map (lost_condition (side_names_in l.names) l.old) (drop l.index-index l.indices) ≡ l.fn.out.items
    ++ flat_map (lost_condition (side_names_in l.names) l.old) l.indices

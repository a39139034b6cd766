use Rattle.std.proofs.Common.{◌≡◌, ◌++◌, drop}
use Rattle.std.specs.List.{flat_map}
use Rattle.sym_paths.specs.View.{post_in}
use Rattle.show_fact_text.specs.View.{side_names_in}
use Rattle.show_fact_text.specs.LostLines.{lost_line}
use Rattle.show_fact_text.proofs.losses.write_lost_equations.Given as goal

abbrev pub invariant-loop-place : goal.invariant-loop-place
invariant-loop-place l =
    l.out.items ++ flat_map (lost_line (side_names_in l.names) (post_in l.post) l.old l.new) (drop l.place-index l.places) ≡ l.fn.out.items
    ++ flat_map (lost_line (side_names_in l.names) (post_in l.post) l.old l.new) l.places

use Rattle.std.proofs.Common.{◌≡◌, ◌++◌, drop}
use Rattle.std.specs.Prelude.{codes, map}
use Rattle.std.specs.List.{flat_map}
use Rattle.fs_run_text.proofs.shown.append_rest.Given as goal

abbrev pub invariant-loop-item : goal.invariant-loop-item
invariant-loop-item l =
    l.out.items ++ flat_map (λ item. codes ", " ++ item) (map (λ i. i.items) (drop l.item-index l.items))
    ≡ l.initial.out.items ++ flat_map (λ item. codes ", " ++ item) (map (λ i. i.items) l.items)

use Rattle.std.proofs.Common.{◌≡◌, ◌++◌, drop}
use Rattle.std.specs.Prelude.{map}
use Rattle.std.specs.List.{flat_map}
use Rattle.fs_run_text.specs.EndTexts.{reply_line}
use Rattle.fs_run_text.proofs.ends.append_lines.Given as goal

abbrev pub invariant-loop-item : goal.invariant-loop-item
invariant-loop-item l =
    l.out.items ++ flat_map reply_line (map (λ i. i.items) (drop l.item-index l.items))
    ≡ l.initial.out.items ++ flat_map reply_line (map (λ i. i.items) l.items)

use Rattle.std.proofs.Common.{ap}
use Rattle.std.specs.Prelude.{ℤ, pos, List}
use Rattle.std.specs.Ordering.{int_cmp}
use Rattle.std.specs.Option.{unwrap_or}
use Rattle.std.specs.Map.{lookup}
use Rattle.std.specs.BTreeMap.{is_at}
use Rattle.fs_stores.proofs.InputValues.{entries_copied}
use Rattle.fs_stores.proofs.values.Entries.try_clone.Goals as goal

pub returns-in-Ok : goal.returns-in-Ok
returns-in-Ok c =
    let f : List (ℤ × ℤ) → ℤ → ℤ = λ es i. unwrap_or (lookup (is_at (int_cmp i)) es) (pos 0) in
    ap f (entries_copied c.args.self.now.map.entries c.in-Ok.map.entries c.in-Ok.ensures.cases)

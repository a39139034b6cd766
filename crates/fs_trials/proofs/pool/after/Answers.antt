use Rattle.std.specs.Prelude.{pos, ◌+ℤ◌, FitsSigned}
use Rattle.std.specs.Int.{w128}
use Rattle.std.proofs.Common.{rules}
use Rattle.std.proofs.lemmas.Int.{to_z-of_z}
use Rattle.fs_trials.proofs.Pools.{kept_some}
use Rattle.fs_trials.proofs.pool.after.Goals as goal

pub returns : goal.returns
returns c =
    let own : FitsSigned w128 c.args.c.now = search rules in
    kept_some c.checked_add.result (c.args.c.now +ℤ pos 1) (simp to_z-of_z at c.checked_add.ensures)

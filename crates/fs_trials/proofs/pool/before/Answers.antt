use Rattle.std.specs.Prelude.{pos, ◌-ℤ◌, FitsSigned}
use Rattle.std.specs.Int.{w128}
use Rattle.std.proofs.Common.{rules}
use Rattle.std.proofs.lemmas.Int.{to_z-of_z}
use Rattle.fs_trials.proofs.Pools.{kept_some, is_fits}
use Rattle.fs_trials.proofs.pool.before.Goals as goal

pub returns-clause-number : goal.returns-clause-number
returns-clause-number c =
    let own : FitsSigned w128 c.args.c.now = search rules in
    kept_some c.checked_sub.result (c.args.c.now -ℤ pos 1) (simp to_z-of_z at c.checked_sub.ensures)

pub returns-clause-own : goal.returns-clause-own
returns-clause-own c =
    let own : FitsSigned w128 c.args.c.now = search rules in
    is_fits c.args.c.now own

use Rattle.std.specs.Prelude.{neg_ℤ, FitsSigned}
use Rattle.std.specs.Int.{w128}
use Rattle.std.proofs.Common.{rules}
use Rattle.std.proofs.lemmas.Int.{to_z-of_z}
use Rattle.fs_trials.proofs.Pools.{kept_some}
use Rattle.fs_trials.proofs.pool.negated.Goals as goal

pub returns : goal.returns
returns c =
    let own : FitsSigned w128 c.args.c.now = search rules in
    kept_some c.checked_neg.result (neg_ℤ c.args.c.now) (simp to_z-of_z at c.checked_neg.ensures)

use Rattle.std.proofs.Common.{arith}
use Rattle.nf_sums.proofs.Turns.{weight_at}
use Rattle.nf_sums.proofs.Placed.{weight_changes}
use Rattle.nf_sums.proofs.accumulator.weight_with.Goals as goal

pub returns : goal.returns
returns c =
    let x = c.index-terms-place.result in
    omega (
      arith,
      weight_at c.args.terms.now c.args.place x c.requires.within c.index-terms-place.is,
      weight_changes c.args.terms.now c.args.place x c.args.coefficient.now c.requires.within c.index-terms-place.is,
    )

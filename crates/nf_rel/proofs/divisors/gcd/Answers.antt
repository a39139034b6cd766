use Rattle.std.proofs.Common.{arith}
use Rattle.std.proofs.lemmas.Nat.Gcd.{IsGcd-from_mod}
use Rattle.nf_rel.proofs.Divided.{gcd_found}
use Rattle.nf_rel.proofs.divisors.gcd.Goals as goal

pub loop-y-preserved : goal.loop-y-preserved
loop-y-preserved c = λ g h. c.loop-y.invariant g (IsGcd-from_mod c.loop-y.x c.loop-y.y g h)

pub returns : goal.returns
returns c = gcd_found c.args.a c.args.b c.loop-y.x c.loop-y.y (omega (arith, c.loop-y-test.false)) c.loop-y.invariant

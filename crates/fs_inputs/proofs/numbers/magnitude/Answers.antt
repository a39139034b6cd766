use Rattle.std.proofs.Common.{arith}
use Rattle.fs_model.proofs.Digits.{bigger}
use Rattle.fs_inputs.proofs.numbers.magnitude.Goals as goal

pub returns-then-n : goal.returns-then-n
returns-then-n c = λ h. omega (arith, bigger c.loop-b.n c.loop-b.b-index c.args.bytes.now c.loop-b-test.true, c.loop-b.invariant.1)

pub returns-then-n-gt-LEAST : goal.returns-then-n-gt-LEAST
returns-then-n-gt-LEAST c = λ h. omega (arith, bigger c.loop-b.n c.loop-b.b-index c.args.bytes.now c.loop-b-test.true, c.loop-b.invariant.1)

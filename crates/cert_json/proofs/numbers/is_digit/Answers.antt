use Rattle.std.proofs.Common.{arith}
use Rattle.cert_json.proofs.Digits.{one_digit}
use Rattle.cert_json.proofs.numbers.is_digit.Goals as goal

pub returns : goal.returns
returns c holds = one_digit c.args.bytes.now (omega arith) (omega arith) (omega arith)

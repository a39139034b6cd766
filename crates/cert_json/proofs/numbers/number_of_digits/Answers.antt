use Rattle.std.proofs.Common.{◌≤◌, get_or, refl}
use Rattle.cert_json.proofs.Digits.{parsed_digits}
use Rattle.cert_json.proofs.numbers.number_of_digits.Goals as goal

pub returns-in-Ok : goal.returns-in-Ok
returns-in-Ok c =
    let first : 48 ≤ get_or c.args.bytes.now 0 0 = c.if-may_be_digits.ensures refl in
    parsed_digits c.args.bytes.now c.in-Ok.n first c.in-Ok.ensures

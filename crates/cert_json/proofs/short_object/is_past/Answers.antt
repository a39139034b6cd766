use Rattle.std.proofs.Common.{◌≡◌, ◌≤◌, length, Greater, nat_cmp, arith}
use Rattle.std.specs.Cmp.Lexicographic.{slice_cmp}
use Rattle.cert_json.proofs.FirstNames.{past_last}
use Rattle.cert_json.proofs.short_object.is_past.Goals as goal

pub returns-in-Some : goal.returns-in-Some
returns-in-Some c behind d =
    let many : 385 ≤ length c.args.found.now.entries = omega arith in
    let greater : slice_cmp nat_cmp c.args.name.now c.in-Some.last.now.now ≡ Greater = grind arith in
    past_last 385 c.args.name.now c.in-Some.last.now c.args.found.now.entries many greater c.in-Some.ensures.all_up_to d

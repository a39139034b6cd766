use Rattle.std.proofs.Common.{rules, ◌≡◌, length}
use Rattle.std.proofs.lemmas.List.{nil_from_length}
use Rattle.hls_program_parts.proofs.Joined.{all_counted}
use Rattle.hls_program_parts.proofs.counts.+counts.Goals as goal

pub count-returns : goal.count-returns
count-returns t c =
    let none : length c.each.rest.now ≡ 0 = search rules in
    all_counted c.each.rest.now c.args.statements.now c.each.total (nil_from_length c.each.rest.now none) c.each.invariant

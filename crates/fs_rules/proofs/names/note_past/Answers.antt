use Rattle.std.proofs.Common.{◌<◌, length, ap, ◌∙◌, sym, rules, tests}
use Rattle.fs_rules.specs.declared.check.CheckRule.TheVariants.{TooMany}
use Rattle.fs_rules.specs.Rules.{at_lines}
use Rattle.fs_rules.specs.FirstFault.{earliest}
use Rattle.fs_rules.proofs.FirstFaults.{first_past}
use Rattle.fs_rules.proofs.names.note_past.Goals as goal

pub returns-in-Some : goal.returns-in-Some
returns-in-Some c =
    let ds = c.args.declared.now in
    let h : c.args.most < length ds = search (rules, tests) in
    let e = first_past ds c.args.most c.in-Some.extra.now h (search (rules, tests)) in
    c.note.ensures ∙ sym (ap (λ l. earliest c.args.faults.now.first (at_lines TooMany l)) e)

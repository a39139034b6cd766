use Rattle.std.proofs.Common.{◌∙◌, ◌-◌, ◌<◌, length, rules, tests, arith, sym}
use Rattle.fs_else_transitions.proofs.Lines.{lacks_last}
use Rattle.fs_else_transitions.proofs.else_transitions.lacks_else.Goals as goal

pub returns-in-Some : goal.returns-in-Some
returns-in-Some c =
    let ls = c.args.lines.now in
    let h : 0 < length ls = search (rules, tests) in
    c.is_some.ensures ∙ sym (lacks_last ls (length ls - 1) c.in-Some.line.now (omega arith) (sym c.in-Some.ensures.value))

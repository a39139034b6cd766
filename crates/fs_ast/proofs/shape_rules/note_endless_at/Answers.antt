use Rattle.std.proofs.Common.{◌<◌, ◌≤◌, ◌∙◌, length, sym, ap, rules, tests}
use Rattle.std.specs.Prelude.{map, Some, None}
use Rattle.fs_rules.specs.FirstFault.{earliest}
use Rattle.fs_branches.specs.NumberedParts.{state_with_line}
use Rattle.fs_ast.proofs.Shapes.{line_there, line_past, endless_one}
use Rattle.fs_ast.proofs.shape_rules.note_endless_at.Goals as goal

pub returns-in-Some : goal.returns-in-Some
returns-in-Some c =
    let ss = c.args.states.now in
    let q = c.args.place in
    let x = c.in-Some.state.now in
    let h : q < length ss = search (rules, tests) in
    let at = line_there ss q x h (search (rules, tests)) in
    c.note.ensures ∙ sym (ap (earliest c.args.faults.now.first) (endless_one (map state_with_line ss) q (Some x.line) at))

pub returns-in-None : goal.returns-in-None
returns-in-None c =
    let ss = c.args.states.now in
    let q = c.args.place in
    let h : length ss ≤ q = search (rules, tests) in
    sym (ap (earliest c.args.faults.now.first) (endless_one (map state_with_line ss) q None (line_past ss q h)))

use Rattle.std.proofs.Common.{◌∙◌, ap, sym, []}
use Rattle.std.specs.Prelude.{map}
use Rattle.fs_rules.specs.declared.check.CheckRule.TheVariants.{TwiceNamed, TooMany}
use Rattle.fs_rules.specs.Rules.{at_lines, repeated_lines, line_past_limit}
use Rattle.fs_rules.specs.FirstFault.{earliest}
use Rattle.fs_rules.specs.Places.{declared_of}
use Rattle.fs_rules.proofs.FirstFaults.{earliest-append}
use Rattle.fs_rules.proofs.checked.noted_table.Goals as goal

pub returns-clause-noted : goal.returns-clause-noted
returns-clause-noted c =
    let ns = map declared_of c.args.declared.now in
    let late = at_lines TooMany (line_past_limit c.args.most ns) in
    c.note_past.ensures ∙ ap (λ k. earliest k late) c.in_ok-table.ensures.noted
    ∙ sym (earliest-append c.args.faults.now.first (at_lines TwiceNamed (repeated_lines [] ns)) late)

pub returns-clause-table : goal.returns-clause-table
returns-clause-table c = c.in_ok-table.ensures.table

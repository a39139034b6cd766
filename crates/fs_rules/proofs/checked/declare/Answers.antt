use Rattle.std.proofs.Common.{◌∙◌, ap, []}
use Rattle.std.specs.Prelude.{map}
use Rattle.fs_model.specs.View.{declaration_of, source_of, source_state_of}
use Rattle.fs_rules.specs.declared.check.CheckRule.TheVariants.{TwiceNamed, TooMany}
use Rattle.fs_model.specs.Limits.{most_variables, most_states}
use Rattle.fs_rules.specs.Rules.{at_lines, declared_names, declared_states, repeated_lines, line_past_limit}
use Rattle.fs_rules.specs.MachineOfParts.{variables_of}
use Rattle.fs_rules.specs.FirstFault.{earliest}
use Rattle.fs_rules.specs.Scopes.{table_faults}
use Rattle.fs_rules.proofs.Naming.{names_noted}
use Rattle.fs_rules.proofs.checked.declare.Goals as goal

pub returns-clause-scope : goal.returns-clause-scope
returns-clause-scope c = record {
  vars = c.in_ok-variables.ensures.vars ∙ ap (λ ds. variables_of (map declaration_of ds)) c.as_slice.ensures.value;
  stated = ap (map source_state_of) c.as_slice-states.ensures.value;
}

pub returns-clause-noted : goal.returns-clause-noted
returns-clause-noted c =
    let p = source_of c.args.parts.now in
    let ds = declared_names p.declarations in
    let ss = declared_states p.states in
    let one = c.name_variables.new.faults.first in
    names_noted c.args.faults.now.first one c.name_states.new.faults.first
    (at_lines TwiceNamed (repeated_lines [] ds)) (at_lines TooMany (line_past_limit most_variables ds)) (at_lines TwiceNamed (repeated_lines [] ss))
    (at_lines TooMany (line_past_limit most_states ss))
    (c.in_ok-variables.ensures.noted
    ∙ ap (λ l. earliest c.args.faults.now.first (table_faults most_variables (declared_names (map declaration_of l)))) c.as_slice.ensures.value)
    (c.in_ok-state_places.ensures.noted
    ∙ ap (λ l. earliest one (table_faults most_states (declared_states (map source_state_of l)))) c.as_slice-states.ensures.value)

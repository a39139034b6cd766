use Rattle.std.proofs.Common.{◌∙◌, ap, ap₂, [], length, List}
use Rattle.std.specs.Prelude.{map, not, nat_lt, None}
use Rattle.std.specs.List.{flat_map}
use Rattle.fs_model.specs.declared.parts.VarInfo.{VarInfo}
use Rattle.fs_model.specs.View.{source_of, source_state_of}
use Rattle.fs_model.specs.Source.{SourceState}
use Rattle.fs_rules.specs.declared.check.CheckRule.TheVariants.{TwiceNamed, TooMany, UnknownState}
use Rattle.fs_rules.specs.MachineOfParts.{variables_of, state_names, place_or_end}
use Rattle.fs_model.specs.Limits.{most_variables, most_states}
use Rattle.fs_rules.specs.Rules.{at_lines, broken_where, declared_names, declared_states, repeated_lines, line_past_limit, state_faults}
use Rattle.fs_rules.specs.FirstFault.{earliest}
use Rattle.fs_rules.specs.Scopes.{name_faults}
use Rattle.fs_rules.proofs.Naming.{plain_noted, reset_known}
use Rattle.fs_rules.proofs.checked.check_parts.Goals as goal

pub returns-clause-first : goal.returns-clause-first
returns-clause-first c =
    let p = source_of c.args.parts.now in
    let ds = declared_names p.declarations in
    let ss = declared_states p.states in
    let vars = c.in_ok-scope.scope.vars.items in
    let states = map source_state_of c.in_ok-scope.scope.states.now in
    let s = c.in_ok-scope.ensures.scope in
    let there = nat_lt (place_or_end (state_names p.states) p.reset) (length p.states) in
    let one = c.declare.new.faults.first in
    let two = c.note_where.new.self.first in
    plain_noted None one two c.check_states.new.faults.first
    (at_lines TwiceNamed (repeated_lines [] ds)) (at_lines TooMany (line_past_limit most_variables ds)) (at_lines TwiceNamed (repeated_lines [] ss))
    (at_lines TooMany (line_past_limit most_states ss))
    (broken_where (not there) UnknownState p.reset_line) (flat_map (state_faults (variables_of p.declarations) (state_names p.states)) p.states)
    (c.in_ok-scope.ensures.noted ∙ ap (λ k. earliest k (name_faults p)) c.new-faults.ensures)
    (c.note_where.ensures ∙ ap (λ b. earliest one (broken_where (not b) UnknownState p.reset_line))
    (c.knows_state-no_reset.ensures ∙ reset_known p vars states s))
    (c.in_ok-check_states.ensures
    ∙ ap (λ l. earliest two (flat_map (state_faults vars (state_names states)) (map source_state_of l))) c.as_slice.ensures.value
    ∙ ap₂ (λ (v : List VarInfo) (n : List SourceState). earliest two (flat_map (state_faults v (state_names n)) p.states)) s.vars s.stated)

pub returns-clause-scope : goal.returns-clause-scope
returns-clause-scope c = c.in_ok-scope.ensures.scope

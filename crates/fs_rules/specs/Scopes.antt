-- What parts declare, and the rules on names.
use Rattle.std.specs.Prelude.{◌≡◌, ℕ, List, [], ◌++◌}
use Rattle.fs_model.specs.declared.parts.VarInfo.{VarInfo}
use Rattle.fs_model.specs.Source.{SourceState, Source}
use Rattle.fs_model.specs.Limits.{most_variables, most_states}
use Rattle.fs_rules.specs.declared.check.CheckRule.TheVariants.{TwiceNamed, TooMany}
use Rattle.fs_rules.specs.declared.check.CheckFault.{CheckFault}
use Rattle.fs_rules.specs.MachineOfParts.{variables_of}
use Rattle.fs_rules.specs.Rules.{at_lines, declared_names, declared_states, repeated_lines, line_past_limit}

-- the variables and the states of parts
pub record IsScopeOf (p : Source) (variables : List VarInfo) (states : List SourceState) : Type 0 where
  pub vars : variables ≡ variables_of p.declarations
  pub stated : states ≡ p.states

-- of some declared names, those that are declared again or past a limit
abbrev pub table_faults : ℕ → List (ℕ × List ℕ) → List CheckFault
table_faults most ns = at_lines TwiceNamed (repeated_lines [] ns) ++ at_lines TooMany (line_past_limit most ns)

-- names that are declared again or past a limit
abbrev pub name_faults : Source → List CheckFault
name_faults p =
    at_lines TwiceNamed (repeated_lines [] (declared_names p.declarations))
    ++ (at_lines TooMany (line_past_limit most_variables (declared_names p.declarations))
    ++ (at_lines TwiceNamed (repeated_lines [] (declared_states p.states))
    ++ at_lines TooMany (line_past_limit most_states (declared_states p.states))))

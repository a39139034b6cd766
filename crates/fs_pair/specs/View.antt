-- The variables of src/ with their positions as plain data.
use Rattle.fs_pair.specs.SidedVariables.{SidedVariable}
use Rattle.fs_pair.specs.declared.sided_variables.Member.{Member}

-- the variable that a member points to, and its position
abbrev pub sided_variable_of : Member → SidedVariable
sided_variable_of p = record { pos = p.pos; variable = p.variable.now }

-- The facts and answers of src/ as plain data.
use Rattle.std.specs.Prelude.{◌≡◌, Some, None, Result, Ok, Err}
use Rattle.sym_facts.specs.declared.fact.FactPosition.{FactPosition as CodePosition}
use Rattle.sym_facts.specs.declared.fact.FactError.{FactError}
use Rattle.sym_facts.specs.declared.fact.FactError.TheVariants as error
use Rattle.sym_facts.specs.declared.entailment.Entail.{Entail}
use Rattle.sym_facts.specs.declared.position_set.PositionSet.{PositionSet as CodeSet}
use Rattle.sym_facts.specs.Facts.{FactPosition, Fact}
use Rattle.sym_facts.specs.FactParts.{first_unsolved}
use Rattle.sym_facts.specs.Entailment.{Missing}
use Rattle.sym_facts.specs.PositionSets.{PositionSet}

abbrev pub position_in : CodePosition → FactPosition
position_in p = record { pos = p.pos; sort = p.sort; equation = p.equation }

abbrev pub set_in : CodeSet → PositionSet
set_in s = record { left = s.left.items; right = s.right.items }

abbrev pub missing_in : Entail → Missing
missing_in e = record { equations = e.equations.items; literals = e.conds.items }

-- an answer is the fact where it is solved, else its first position that is not, or memory was refused
abbrev pub TellsSolved : Fact → Result Fact FactError → Type 0
TellsSolved f (Ok g) = (g ≡ f) × (first_unsolved f ≡ None)
TellsSolved f (Err (error.NotSolved place)) = first_unsolved f ≡ Some place
TellsSolved f (Err error.NoMemory) = Unit {0}

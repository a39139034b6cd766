-- Facts whose equations rise.
use Rattle.std.specs.Prelude.{◌≡◌, true, List, [], ◌∷◌, Option, Some, None}
use Rattle.nf_terms.specs.declared.form.Nf.{Nf}
use Rattle.nf_terms.specs.declared.form.Nf.TheVariants.{Num, Arr, Seq}
use Rattle.sym_facts.specs.Facts.{FactPosition, Fact}
use Rattle.alike_searches.specs.Risen.{is_risen, is_risen_array}

-- a number rises, and so do the values that are written to an array
abbrev pub IsRisenForm : Nf → Type 0
IsRisenForm (Num p) = is_risen p ≡ true
IsRisenForm (Arr a) = is_risen_array a ≡ true
IsRisenForm (Seq l) = Unit {0}

abbrev pub IsRisenEquation : Option Nf → Type 0
IsRisenEquation None = Unit {0}
IsRisenEquation (Some f) = IsRisenForm f

abbrev pub AreRisenPositions : List FactPosition → Type 0
AreRisenPositions [] = Unit {0}
AreRisenPositions (p ∷ ps) = IsRisenEquation p.equation × AreRisenPositions ps

abbrev pub IsRisenFact : Fact → Type 0
IsRisenFact f = AreRisenPositions f.positions

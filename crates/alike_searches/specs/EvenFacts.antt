-- Facts whose positions stand in couples: of each the second has as its equation what the first one is.
use Rattle.std.specs.Prelude.{◌≡◌, List, [], ◌∷◌, map, Some}
use Rattle.fs_model.specs.declared.parts.Sort.{Sort}
use Rattle.fs_model.specs.declared.sides.Pos.{Pos}
use Rattle.nf_terms.specs.declared.form.Nf.{Nf}
use Rattle.sym_facts.specs.Facts.{FactPosition, Fact, form_or_symbol}
use Rattle.search_tables.specs.Rebases.{value_at}

-- the positions of a fact, with their sorts
abbrev pub places_of : List FactPosition → List (Pos × Sort)
places_of ps = map (λ p. (p.pos, p.sort)) ps

-- the positions stand in couples of one sort, whose values in a vector are equal
abbrev pub AreEvenValues : List (Pos × Nf) → List (Pos × Sort) → Type 0
AreEvenValues v [] = Unit {0}
AreEvenValues v (x ∷ []) = ⊥
AreEvenValues v (x ∷ y ∷ rest) = (x.1 ≡ y.1) × (value_at v x.1 x.0 ≡ value_at v y.1 y.0) × AreEvenValues v rest

-- of each couple the second position has the first one's form as its equation: its symbol, where it is free
abbrev pub AreEvenPositions : List FactPosition → Type 0
AreEvenPositions [] = Unit {0}
AreEvenPositions (p ∷ []) = ⊥
AreEvenPositions (p ∷ q ∷ ps) = (q.equation ≡ Some (form_or_symbol p.sort p.pos p.equation)) × AreEvenPositions ps

abbrev pub IsEvenFact : Fact → Type 0
IsEvenFact f = AreEvenPositions f.positions

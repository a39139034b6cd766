-- The parts of a term.
use Rattle.nf_trees.specs.NormalTerms.{Atom, Monomial, Polynomial, Writes, Symbol, Read, Quotient, Remainder, One, Times, Zero}
use Rattle.nf_trees.specs.NormalTerms.{Plus, NoWrites, Write}
use Rattle.nf_terms.specs.Normal.{IsNormal, IsNormalArray}

-- what an atom reads, divides or is divided by is normal
abbrev pub HasNormalParts : Atom → Type 0
HasNormalParts (Symbol p) = Unit {0}
HasNormalParts (Read a i) = IsNormalArray a × IsNormal i
HasNormalParts (Quotient p q) = IsNormal p × IsNormal q
HasNormalParts (Remainder p q) = IsNormal p × IsNormal q

-- the same of each atom of a monomial
abbrev pub AtomsHaveNormalParts : Monomial → Type 0
AtomsHaveNormalParts One = Unit {0}
AtomsHaveNormalParts (Times a m) = HasNormalParts a × AtomsHaveNormalParts m

-- the same of each atom of a polynomial
abbrev pub MonomialsHaveNormalParts : Polynomial → Type 0
MonomialsHaveNormalParts Zero = Unit {0}
MonomialsHaveNormalParts (Plus m c p) = AtomsHaveNormalParts m × MonomialsHaveNormalParts p

-- each index and each value is normal
abbrev pub WritesAreNormal : Writes → Type 0
WritesAreNormal NoWrites = Unit {0}
WritesAreNormal (Write i v ws) = IsNormal i × IsNormal v × WritesAreNormal ws

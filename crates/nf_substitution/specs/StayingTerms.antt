-- Polynomials over symbols that a vector has, each as its own form, with monomials of not too many atoms.
use Rattle.std.specs.Prelude.{ℕ, nat_le, is_some, Bool, true, false, ◌&&◌, Option, Some, None, List}
use Rattle.nf_trees.specs.NormalTerms.{Atom, Monomial, Polynomial, Symbol, Read, Quotient, Remainder, One, Times, Zero, Plus}
use Rattle.nf_trees.specs.Mentions.{same_pos}
use Rattle.nf_trees.specs.Order.{degree}
use Rattle.fs_model.specs.declared.sides.Pos.{Pos}
use Rattle.nf_terms.specs.declared.form.Nf.{Nf}
use Rattle.nf_terms.specs.declared.form.Nf.TheVariants.{Num, Arr, Seq}
use Rattle.nf_terms.specs.declared.symbols.Sort.{Sort}
use Rattle.nf_terms.specs.declared.symbols.Sort.TheVariants.{Scalar}
use Rattle.nf_vectors.specs.Vectors.{form_at}
use Rattle.nf_vectors.specs.BareNumbers.{bare_number}

-- the most atoms of a monomial that is looked at: its product with the last of them has a raw size within the limit
abbrev pub most_atoms : ℕ
most_atoms = 2048

-- whether a symbol was found, and is p
abbrev pub is_symbol : Pos → Option Pos → Bool
is_symbol p None = false
is_symbol p (Some q) = same_pos p q

-- the symbol that a form is, which is a number
abbrev pub number_symbol : Option Nf → Option Pos
number_symbol None = None
number_symbol (Some (Num p)) = bare_number p
number_symbol (Some (Arr a)) = None
number_symbol (Some (Seq l)) = None

-- whether a vector has a number for a symbol, which is the symbol
abbrev pub symbol_stays : List (Pos × Nf) → Pos → Bool
symbol_stays v p = is_symbol p (number_symbol (form_at Scalar p v))

-- whether an atom is such a symbol
abbrev pub atom_stays : List (Pos × Nf) → Atom → Bool
atom_stays v (Symbol p) = symbol_stays v p
atom_stays v (Read a i) = false
atom_stays v (Quotient p q) = false
atom_stays v (Remainder p q) = false

-- the same of each atom
abbrev pub atoms_stay : List (Pos × Nf) → Monomial → Bool
atoms_stay v One = true
atoms_stay v (Times a m) = atom_stays v a && atoms_stay v m

-- the same of the atoms of a monomial, which are not too many
abbrev pub monomial_stays : List (Pos × Nf) → Monomial → Bool
monomial_stays v m = nat_le (degree m) most_atoms && atoms_stay v m

-- the same of each monomial
abbrev pub terms_stay : List (Pos × Nf) → Polynomial → Bool
terms_stay v Zero = true
terms_stay v (Plus m c p) = monomial_stays v m && terms_stay v p

-- whether a vector has a form of its sort for a symbol
abbrev pub has_symbol : List (Pos × Nf) → Pos × Sort → Bool
has_symbol v x = is_some (form_at x.1 x.0 v)

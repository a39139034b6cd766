-- Terms whose sums rise. What stands inside an atom is left open.
use Rattle.std.specs.Prelude.{◌≡◌, pos, Bool, true, ◌&&◌, not, List}
use Rattle.std.specs.Ordering.{int_eq}
use Rattle.nf_trees.specs.NormalTerms.{Monomial, Polynomial, Writes, ArrayTerm, One, Times, Zero, Plus, Over, NoWrites, Write}
use Rattle.nf_terms.specs.Normal.{atom_rises, monomial_rises}
use Rattle.fs_model.specs.declared.sides.Pos.{Pos}
use Rattle.nf_terms.specs.declared.form.Nf.{Nf}
use Rattle.nf_substitution.specs.Vectors.{number_at, array_form}

-- whether no atom stands behind a later one
abbrev pub atoms_rise : Monomial → Bool
atoms_rise One = true
atoms_rise (Times a m) = atom_rises a m && atoms_rise m

-- whether the monomials rise, the atoms of each rise, and no coefficient is 0
abbrev pub is_risen : Polynomial → Bool
is_risen Zero = true
is_risen (Plus m c p) = not (int_eq c (pos 0)) && atoms_rise m && monomial_rises m p && is_risen p

-- whether each value that is written rises
abbrev pub values_rise : Writes → Bool
values_rise NoWrites = true
values_rise (Write i v ws) = is_risen v && values_rise ws

abbrev pub is_risen_array : ArrayTerm → Bool
is_risen_array (Over b ws) = values_rise ws

-- each number of a vector rises, and each value that is written to its arrays
pub record IsRisenVector (v : List (Pos × Nf)) : Type 0 where
  pub numbers : (p : Pos) → is_risen (number_at v p) ≡ true
  pub arrays : (p : Pos) → is_risen_array (array_form v p) ≡ true

-- Steps of the definitions on constant parts.
use Rattle.std.proofs.Common.{◌≡◌, ℤ, true, ◌&&◌, ◌==◌, not, cond, refl, List, [], ◌∷◌, length, map, arith, ap, ◌∙◌}
use Rattle.std.proofs.lemmas.List.{length-map}
use Rattle.std.proofs.lemmas.Bool.Decides.{nat_tests}
use Rattle.nf_trees.specs.NormalTerms.{Atom, Monomial, Polynomial, One, Times, Zero, Plus, monomial_of, polynomial_of}
use Rattle.nf_terms.specs.Normal.{has_atoms, begins_with_atoms, part_with_atoms, constant_part, is_constant}
use Rattle.nf_trees.specs.Order.{same_polynomial}
use Rattle.nf_trees.specs.View.{atom_in, monomial_in, term_in}
use Rattle.nf_trees.specs.declared.tree.MonoTree.{MonoTree}
use Rattle.nf_trees.proofs.Degrees.{monomial_in-is}

pub part_step : (m : Monomial) (c : ℤ) (p : Polynomial) → part_with_atoms (Plus m c p) ≡ cond (has_atoms m) (Plus m c (part_with_atoms p)) (part_with_atoms p)
part_step One c p = refl
part_step (Times a m) c p = refl

pub constant_part_step : (m : Monomial) (c : ℤ) (p : Polynomial) → constant_part (Plus m c p) ≡ cond (has_atoms m) (constant_part p) c
constant_part_step One c p = refl
constant_part_step (Times a m) c p = refl

pub constant_step : (m : Monomial) (c : ℤ) (p : Polynomial) → is_constant (Plus m c p) ≡ (not (has_atoms m) && is_constant p)
constant_step One c p = refl
constant_step (Times a m) c p = refl

has_atoms-monomial_of : (as' : List Atom) → has_atoms (monomial_of as') ≡ not (length as' == 0)
has_atoms-monomial_of [] = refl
has_atoms-monomial_of (a ∷ rest) = grind (arith, nat_tests)

pub has_atoms_in : (m : MonoTree) → has_atoms (monomial_in m) ≡ not (length m.atoms.items == 0)
has_atoms_in m = ap has_atoms (monomial_in-is m) ∙ has_atoms-monomial_of (map atom_in m.atoms.items) ∙ simp length-map

-- where the rest begins with atoms, nothing is left beside constants exactly where nothing is left
pub nothing_left : (ts : List (MonoTree × ℤ)) → begins_with_atoms (polynomial_of (map term_in ts)) ≡ true
    → (length ts == 0) ≡ same_polynomial Zero (part_with_atoms (polynomial_of (map term_in ts)))
nothing_left [] e = refl
nothing_left (t ∷ ts) e = none_left (monomial_in t.0) e
  where
    none_left : (m : Monomial) → has_atoms m ≡ true
        → (length (t ∷ ts) == 0) ≡ same_polynomial Zero (part_with_atoms (Plus m t.1 (polynomial_of (map term_in ts))))
    none_left One e = cc
    none_left (Times a m) e = grind (arith, nat_tests)

pub ruleset constants = (part_step, constant_part_step, constant_step, nothing_left)

-- What a number is whose symbol is found, and what is longer than a symbol.
use Rattle.std.proofs.Common.{◌≡◌, ◌≤◌, ℤ, pos, Bool, true, false, cond, Option, Some, None, List, [], ◌∷◌, length, map, refl, arith, ap, ap₂}
use Rattle.std.specs.Cmp.{signed_Decides}
use Rattle.std.specs.Ordering.{int_eq}
use Rattle.nf_trees.specs.NormalTerms.{Atom, Monomial, Polynomial, Symbol, Read, Quotient, Remainder, One, Times, Zero, Plus}
use Rattle.nf_trees.specs.NormalTerms.{monomial_of, polynomial_of, polynomial_of_symbol}
use Rattle.nf_trees.specs.View.{atom_in, term_in}
use Rattle.fs_model.specs.declared.sides.Pos.{Pos}
use Rattle.nf_trees.specs.declared.tree.Atom.{Atom as AtomTree}
use Rattle.nf_trees.specs.declared.tree.MonoTree.{MonoTree}
use Rattle.nf_vectors.specs.BareNumbers.{lone_atom, lone_symbol, bare_number}

pub two_atoms : (xs : List AtomTree) → 2 ≤ length xs → None ≡ lone_symbol (monomial_of (map atom_in xs))
two_atoms [] h = absurd (omega (arith, h))
two_atoms (a ∷ []) h = absurd (omega (arith, h))
two_atoms (a ∷ b ∷ xs) h = refl

pub two_terms : (ts : List (MonoTree × ℤ)) → 2 ≤ length ts → None ≡ bare_number (polynomial_of (map term_in ts))
two_terms [] h = absurd (omega (arith, h))
two_terms (t ∷ []) h = absurd (omega (arith, h))
two_terms (t ∷ u ∷ ts) h = refl

lone_atom_is : (t : Atom) (s : Pos) → lone_atom t ≡ Some s → t ≡ Symbol s
lone_atom_is (Symbol p) s e = let k : p ≡ s = cc e in ap Symbol k
lone_atom_is (Read b i) s e = absurd (cc e)
lone_atom_is (Quotient p q) s e = absurd (cc e)
lone_atom_is (Remainder p q) s e = absurd (cc e)

pub lone_is : (m : Monomial) (s : Pos) → lone_symbol m ≡ Some s → m ≡ Times (Symbol s) One
lone_is One s e = absurd (cc e)
lone_is (Times t One) s e = ap (λ x. Times x One) (lone_atom_is t s e)
lone_is (Times t (Times b m)) s e = absurd (cc e)

pub bare_number_is : (t : Polynomial) (s : Pos) → bare_number t ≡ Some s → t ≡ polynomial_of_symbol s
bare_number_is Zero s e = absurd (cc e)
bare_number_is (Plus m c Zero) s e = by_test (int_eq c (pos 1)) refl e
  where
    by_test : (b : Bool) → int_eq c (pos 1) ≡ b → cond {A = Option Pos} b (lone_symbol m) None ≡ Some s → Plus m c Zero ≡ polynomial_of_symbol s
    by_test true h g = ap₂ (λ k d. Plus k d Zero) (lone_is m s g) ((signed_Decides c (pos 1)).0 h)
    by_test false h g = absurd (cc g)
bare_number_is (Plus m c (Plus n d p)) s e = absurd (cc e)

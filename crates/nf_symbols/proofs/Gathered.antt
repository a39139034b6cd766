-- Symbols behind others are joined to them.
use Rattle.std.proofs.Common.{◌≡◌, Box, Global, List, ◌++◌, ◌⊎◌, inl, inr, refl, ap, sym, ◌∙◌, append_assoc}
use Rattle.std.proofs.lemmas.List.{append-nil}
use Rattle.nf_trees.specs.NormalTerms.{Atom, Monomial, Polynomial, ArrayTerm, Writes, Symbol, Read, Quotient, Remainder, One}
use Rattle.nf_trees.specs.NormalTerms.{Times, Zero, Plus, Over, NoWrites, Write}
use Rattle.nf_terms.specs.Symbols.{symbols_of_base, symbols_of_atom, symbols_of_monomial, symbols_of, symbols_of_writes, symbols_of_array}
use Rattle.nf_symbols.specs.GatheredSymbols.{with_atom, with_monomial, with_polynomial, with_writes, with_array}
use Rattle.fs_model.specs.declared.sides.Pos.{Pos}
use Rattle.nf_terms.specs.declared.symbols.Sort.{Sort}
use Rattle.nf_trees.specs.declared.tree.Atom.{Atom as AtomTree}
use Rattle.nf_trees.specs.declared.tree.Atom.TheVariants as tree
use Rattle.nf_trees.specs.declared.tree.PolyTree.{PolyTree}
use Rattle.nf_trees.specs.View.{atom_in, polynomial_in}
use Rattle.nf_trees.proofs.TreeParts.{atom_of_quotient, atom_of_remainder}

-- two parts, one behind the other
both : (old mid new xs ys : List (Pos × Sort)) → mid ≡ old ++ xs → new ≡ mid ++ ys → new ≡ old ++ (xs ++ ys)
both old mid new xs ys e f = f ∙ ap (λ z. z ++ ys) e ∙ append_assoc old xs ys

mutual
  pub atom_joined : (l : List (Pos × Sort)) (a : Atom) → with_atom l a ≡ l ++ symbols_of_atom a
  atom_joined l (Symbol p) = refl
  atom_joined l (Read a i) = both l (with_array l a) (with_polynomial (with_array l a) i) (symbols_of_array a) (symbols_of i) (array_joined l a)
      (polynomial_joined (with_array l a) i)
  atom_joined l (Quotient a b) = both l (with_polynomial l a) (with_polynomial (with_polynomial l a) b) (symbols_of a) (symbols_of b) (polynomial_joined l a)
      (polynomial_joined (with_polynomial l a) b)
  atom_joined l (Remainder a b) = both l (with_polynomial l a) (with_polynomial (with_polynomial l a) b) (symbols_of a) (symbols_of b) (polynomial_joined l a)
      (polynomial_joined (with_polynomial l a) b)

  pub monomial_joined : (l : List (Pos × Sort)) (m : Monomial) → with_monomial l m ≡ l ++ symbols_of_monomial m
  monomial_joined l One = sym (append-nil l)
  monomial_joined l (Times a m) = both l (with_atom l a) (with_monomial (with_atom l a) m) (symbols_of_atom a) (symbols_of_monomial m) (atom_joined l a)
      (monomial_joined (with_atom l a) m)

  pub polynomial_joined : (l : List (Pos × Sort)) (p : Polynomial) → with_polynomial l p ≡ l ++ symbols_of p
  polynomial_joined l Zero = sym (append-nil l)
  polynomial_joined l (Plus m c p) = both l (with_monomial l m) (with_polynomial (with_monomial l m) p) (symbols_of_monomial m) (symbols_of p)
      (monomial_joined l m) (polynomial_joined (with_monomial l m) p)

  pub writes_joined : (l : List (Pos × Sort)) (ws : Writes) → with_writes l ws ≡ l ++ symbols_of_writes ws
  writes_joined l NoWrites = sym (append-nil l)
  writes_joined l (Write i v ws) =
      let m = with_polynomial l i in
      let n = with_polynomial m v in
      both l m (with_writes n ws) (symbols_of i) (symbols_of v ++ symbols_of_writes ws) (polynomial_joined l i)
      (both m n (with_writes n ws) (symbols_of v) (symbols_of_writes ws) (polynomial_joined m v) (writes_joined n ws))

  pub array_joined : (l : List (Pos × Sort)) (a : ArrayTerm) → with_array l a ≡ l ++ symbols_of_array a
  array_joined l (Over b ws) = both l (l ++ symbols_of_base b) (with_writes (l ++ symbols_of_base b) ws) (symbols_of_base b) (symbols_of_writes ws) refl
      (writes_joined (l ++ symbols_of_base b) ws)

-- a quotient or a remainder: the symbols of both parts
pub with_pair : (l : List (Pos × Sort)) (t : AtomTree) (a b : Box PolyTree Global) → (t ≡ tree.Div a b) ⊎ (t ≡ tree.Rem a b)
    → with_atom l (atom_in t) ≡ with_polynomial (with_polynomial l (polynomial_in a.value)) (polynomial_in b.value)
with_pair l t a b (inl e) = ap (with_atom l) (atom_of_quotient t a b e)
with_pair l t a b (inr e) = ap (with_atom l) (atom_of_remainder t a b e)

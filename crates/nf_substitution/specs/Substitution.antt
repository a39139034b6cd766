-- Substitution of a vector in a term.
use Rattle.std.specs.Prelude.{List, [], ◌∷◌}
use Rattle.nf_trees.specs.NormalTerms.{Atom, Monomial, Polynomial, ArrayTerm, Writes, Symbol, Read, Quotient, Remainder, One}
use Rattle.nf_trees.specs.NormalTerms.{Times, Zero, Plus, Over, NoWrites, Write}
use Rattle.nf_terms.specs.Lists.{ListTerm}
use Rattle.nf_terms.specs.Computed.{Computed, Done, after}
use Rattle.fs_model.specs.declared.sides.Pos.{Pos}
use Rattle.nf_terms.specs.declared.form.Nf.{Nf}
use Rattle.nf_sums.specs.Operations.{normal_sum, normal_product, number}
use Rattle.nf_arrays.specs.NewAtoms.{quotient_of, remainder_of}
use Rattle.nf_arrays.specs.Writes.{write_array, read_at}
use Rattle.nf_arrays.specs.Pushes.{list_with_item}
use Rattle.nf_vectors.specs.Vectors.{number_at, array_of_base, list_of_base}

abbrev mutual
  -- an atom: its parts in order, then the operation
  pub atom_substituted : List (Pos × Nf) → Atom → Computed Polynomial
  atom_substituted v (Symbol p) = Done (number_at v p)
  atom_substituted v (Read a i) = after (array_substituted v a) (λ b. after (terms_substituted v i Zero) (λ j. read_at b j))
  atom_substituted v (Quotient p q) = after (terms_substituted v p Zero)
      (λ l. after (terms_substituted v q Zero) (λ r. quotient_of l r))
  atom_substituted v (Remainder p q) = after (terms_substituted v p Zero)
      (λ l. after (terms_substituted v q Zero) (λ r. remainder_of l r))

  -- a product so far, times the atoms in order
  pub atoms_substituted : List (Pos × Nf) → Monomial → Polynomial → Computed Polynomial
  atoms_substituted v One so_far = Done so_far
  atoms_substituted v (Times a m) so_far = after (atom_substituted v a)
      (λ f. after (normal_product so_far f) (λ p. atoms_substituted v m p))

  -- a sum so far, and the monomials in order, each times its coefficient
  pub terms_substituted : List (Pos × Nf) → Polynomial → Polynomial → Computed Polynomial
  terms_substituted v Zero so_far = Done so_far
  terms_substituted v (Plus m c p) so_far = after (after (number c) (λ n. atoms_substituted v m n))
      (λ t. after (normal_sum so_far t) (λ s. terms_substituted v p s))

  -- an array so far, and the writes in order: the index, the value and the write
  pub writes_substituted : List (Pos × Nf) → Writes → ArrayTerm → Computed ArrayTerm
  writes_substituted v NoWrites so_far = Done so_far
  writes_substituted v (Write i x ws) so_far = after (terms_substituted v i Zero)
      (λ j. after (terms_substituted v x Zero) (λ y. after (write_array so_far j y) (λ a. writes_substituted v ws a)))

  -- an array with the vector's forms in place of its symbols
  pub array_substituted : List (Pos × Nf) → ArrayTerm → Computed ArrayTerm
  array_substituted v (Over b ws) = writes_substituted v ws (array_of_base v b)

-- a polynomial with the vector's forms in place of its symbols
abbrev pub polynomial_substituted : List (Pos × Nf) → Polynomial → Computed Polynomial
polynomial_substituted v p = terms_substituted v p Zero

-- a list so far, and the items in order, each pushed
abbrev pub items_substituted : List (Pos × Nf) → List Polynomial → ListTerm → Computed ListTerm
items_substituted v [] so_far = Done so_far
items_substituted v (p ∷ ps) so_far = after (polynomial_substituted v p)
    (λ q. after (list_with_item so_far q) (λ l. items_substituted v ps l))

-- a list with the vector's forms in place of its symbols
abbrev pub list_substituted : List (Pos × Nf) → ListTerm → Computed ListTerm
list_substituted v l = items_substituted v l.items (list_of_base v l.base)

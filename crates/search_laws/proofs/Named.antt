-- What all symbols that pass a test have, the symbols of a term have whose symbols pass it.
use Rattle.std.proofs.Common.{◌≡◌, Bool, true, List, [], ◌∷◌, ◌++◌}
use Rattle.std.specs.List.{list_all}
use Rattle.fs_model.proofs.Booleans.{and_first}
use Rattle.fs_model.specs.declared.sides.Pos.{Pos}
use Rattle.nf_trees.specs.declared.tree.Base.{Base}
use Rattle.nf_trees.specs.declared.tree.Base.TheVariants as bases
use Rattle.nf_terms.specs.declared.tree.SeqBase.{SeqBase}
use Rattle.nf_terms.specs.declared.tree.SeqBase.TheVariants as list_bases
use Rattle.nf_terms.specs.declared.symbols.Sort.{Sort}
use Rattle.nf_terms.specs.declared.symbols.Sort.TheVariants as sort
use Rattle.nf_trees.specs.NormalTerms.{Atom, Monomial, Polynomial, ArrayTerm, Writes, Symbol, Read, Quotient, Remainder, One, Times, Zero, Plus, Over, NoWrites}
use Rattle.nf_trees.specs.NormalTerms.{Write}
use Rattle.nf_terms.specs.Lists.{ListTerm}
use Rattle.nf_terms.specs.Symbols.{symbols_of_base, symbols_of_atom, symbols_of_monomial, symbols_of, symbols_of_writes, symbols_of_array, symbols_of_list_base}
use Rattle.nf_terms.specs.Symbols.{symbols_of_items, symbols_of_list}
use Rattle.nf_symbols.proofs.Passing.{front, back}
use Rattle.nf_rel.specs.Literals.{NormalLiteral, True, False, Is}
use Rattle.sym_facts.specs.Pairings.{literal_within}
use Rattle.term_writer.specs.NamedSymbols.{OfBase, OfAtom, OfMonomial, OfPolynomial, OfWrites, OfArray, OfListBase, OfItems, OfList, OfLiteral}

module _ (P : Sort → Pos → Type 0) (test : Pos × Sort → Bool) (holds : (p : Pos) (s : Sort) → test (p, s) ≡ true → P s p) where
  own : (p : Pos) (s : Sort) → list_all test ((p, s) ∷ []) ≡ true → P s p
  own p s h = holds p s (and_first (test (p, s)) true h)

  base_named : (b : Base) → list_all test (symbols_of_base b) ≡ true → OfBase P b
  base_named bases.Zero h = tt
  base_named (bases.Sym p) h = own p sort.Array h

  mutual
    atom_named : (a : Atom) → list_all test (symbols_of_atom a) ≡ true → OfAtom P a
    atom_named (Symbol p) h = own p sort.Scalar h
    atom_named (Read a i) h =
        (array_named a (front test (symbols_of_array a) (symbols_of i) h), polynomial_named i (back test (symbols_of_array a) (symbols_of i) h))
    atom_named (Quotient a b) h =
        (polynomial_named a (front test (symbols_of a) (symbols_of b) h), polynomial_named b (back test (symbols_of a) (symbols_of b) h))
    atom_named (Remainder a b) h =
        (polynomial_named a (front test (symbols_of a) (symbols_of b) h), polynomial_named b (back test (symbols_of a) (symbols_of b) h))

    monomial_named : (m : Monomial) → list_all test (symbols_of_monomial m) ≡ true → OfMonomial P m
    monomial_named One h = tt
    monomial_named (Times a m) h =
        (atom_named a (front test (symbols_of_atom a) (symbols_of_monomial m) h), monomial_named m (back test (symbols_of_atom a) (symbols_of_monomial m) h))

    pub polynomial_named : (p : Polynomial) → list_all test (symbols_of p) ≡ true → OfPolynomial P p
    polynomial_named Zero h = tt
    polynomial_named (Plus m c p) h =
        (monomial_named m (front test (symbols_of_monomial m) (symbols_of p) h), polynomial_named p (back test (symbols_of_monomial m) (symbols_of p) h))

    writes_named : (ws : Writes) → list_all test (symbols_of_writes ws) ≡ true → OfWrites P ws
    writes_named NoWrites h = tt
    writes_named (Write i v ws) h =
        let g = back test (symbols_of i) (symbols_of v ++ symbols_of_writes ws) h in (
          polynomial_named i (front test (symbols_of i) (symbols_of v ++ symbols_of_writes ws) h),
          (polynomial_named v (front test (symbols_of v) (symbols_of_writes ws) g), writes_named ws (back test (symbols_of v) (symbols_of_writes ws) g)),
        )

    pub array_named : (a : ArrayTerm) → list_all test (symbols_of_array a) ≡ true → OfArray P a
    array_named (Over b ws) h =
        (base_named b (front test (symbols_of_base b) (symbols_of_writes ws) h), writes_named ws (back test (symbols_of_base b) (symbols_of_writes ws) h))

  list_base_named : (b : SeqBase) → list_all test (symbols_of_list_base b) ≡ true → OfListBase P b
  list_base_named list_bases.Empty h = tt
  list_base_named (list_bases.Sym p) h = own p sort.List h

  items_named : (ps : List Polynomial) → list_all test (symbols_of_items ps) ≡ true → OfItems P ps
  items_named [] h = tt
  items_named (p ∷ ps) h = (
    polynomial_named p (front test (symbols_of p) (symbols_of_items ps) h),
    items_named ps (back test (symbols_of p) (symbols_of_items ps) h),
  )

  pub list_named : (l : ListTerm) → list_all test (symbols_of_list l) ≡ true → OfList P l
  list_named l h = (
    list_base_named l.base (front test (symbols_of_list_base l.base) (symbols_of_items l.items) h),
    items_named l.items (back test (symbols_of_list_base l.base) (symbols_of_items l.items) h),
  )

  pub literal_named : (l : NormalLiteral) → literal_within test l ≡ true → OfLiteral P l
  literal_named True h = tt
  literal_named False h = tt
  literal_named (Is d k b) h = polynomial_named d h

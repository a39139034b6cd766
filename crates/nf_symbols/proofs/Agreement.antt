-- Valuations that agree on the symbols of a term, each as it is used, give it the same value.
use Rattle.std.proofs.Common.{◌≡◌, ◌+ℤ◌, ◌*ℤ◌, Bool, true, refl, List, [], ◌∷◌, ◌++◌, map}
use Rattle.std.specs.List.{list_all}
use Rattle.fs_model.proofs.Booleans.{and_first}
use Rattle.fs_model.specs.Division.{quotient, remainder}
use Rattle.nf_trees.specs.NormalTerms.{Atom, Monomial, Polynomial, ArrayTerm, Writes, Symbol, Read, Quotient, Remainder, One, Times, Zero, Plus, Over, NoWrites}
use Rattle.nf_trees.specs.NormalTerms.{Write}
use Rattle.nf_terms.specs.Lists.{ListTerm}
use Rattle.nf_terms.specs.TermMeaning.{Valuation, value_of, value_of_atom, value_of_monomial, contents, contents_after, contents_of_base, contents_after_write}
use Rattle.nf_terms.specs.TermMeaning.{items_of_base, items_in}
use Rattle.nf_terms.specs.Symbols.{symbols_of_base, symbols_of_atom, symbols_of_monomial, symbols_of, symbols_of_writes, symbols_of_array, symbols_of_list_base}
use Rattle.nf_terms.specs.Symbols.{symbols_of_items, symbols_of_list}
use Rattle.nf_terms.specs.declared.symbols.Sort.{Sort}
use Rattle.nf_terms.specs.declared.symbols.Sort.TheVariants as sort
use Rattle.fs_model.specs.declared.sides.Pos.{Pos}
use Rattle.nf_trees.specs.declared.tree.Base.{Base}
use Rattle.nf_trees.specs.declared.tree.Base.TheVariants as base
use Rattle.nf_terms.specs.declared.tree.SeqBase.{SeqBase}
use Rattle.nf_terms.specs.declared.tree.SeqBase.TheVariants as list
use Rattle.nf_symbols.specs.SymbolTests.{AgreeAt}
use Rattle.nf_symbols.proofs.Passing.{front, back}

module _ (test : Pos × Sort → Bool) (v w : Valuation) (agree : AgreeAt test v w) where
  base_same : (b : Base) → list_all test (symbols_of_base b) ≡ true → contents_of_base v b ≡ contents_of_base w b
  base_same base.Zero h = refl
  base_same (base.Sym p) h = agree.arrays p (and_first (test (p, sort.Array)) true h)

  mutual
    atom_same : (t : Atom) → list_all test (symbols_of_atom t) ≡ true → value_of_atom v t ≡ value_of_atom w t
    atom_same (Symbol p) h = agree.scalars p (and_first (test (p, sort.Scalar)) true h)
    atom_same (Read a i) h = λ k. array_same a (front test (symbols_of_array a) (symbols_of i) h) k
        (value_same i (back test (symbols_of_array a) (symbols_of i) h) k)
    atom_same (Quotient p q) h = λ k. quotient (value_same p (front test (symbols_of p) (symbols_of q) h) k)
        (value_same q (back test (symbols_of p) (symbols_of q) h) k)
    atom_same (Remainder p q) h = λ k. remainder (value_same p (front test (symbols_of p) (symbols_of q) h) k)
        (value_same q (back test (symbols_of p) (symbols_of q) h) k)

    monomial_same : (m : Monomial) → list_all test (symbols_of_monomial m) ≡ true → value_of_monomial v m ≡ value_of_monomial w m
    monomial_same One h = refl
    monomial_same (Times t m) h = λ k. atom_same t (front test (symbols_of_atom t) (symbols_of_monomial m) h) k *ℤ monomial_same m
        (back test (symbols_of_atom t) (symbols_of_monomial m) h) k

    pub value_same : (p : Polynomial) → list_all test (symbols_of p) ≡ true → value_of v p ≡ value_of w p
    value_same Zero h = refl
    value_same (Plus m c p) h = λ k. c *ℤ monomial_same m (front test (symbols_of_monomial m) (symbols_of p) h) k +ℤ value_same p
        (back test (symbols_of_monomial m) (symbols_of p) h) k

    writes_same : (ws : Writes) → list_all test (symbols_of_writes ws) ≡ true → contents_after v ws ≡ contents_after w ws
    writes_same NoWrites h = refl
    writes_same (Write i x ws) h =
        let r = back test (symbols_of i) (symbols_of x ++ symbols_of_writes ws) h in
        λ k z. writes_same ws (back test (symbols_of x) (symbols_of_writes ws) r) k
        (contents_after_write z (value_same i (front test (symbols_of i) (symbols_of x ++ symbols_of_writes ws) h) k)
        (value_same x (front test (symbols_of x) (symbols_of_writes ws) r) k))

    pub array_same : (a : ArrayTerm) → list_all test (symbols_of_array a) ≡ true → contents v a ≡ contents w a
    array_same (Over b ws) h = λ k. writes_same ws (back test (symbols_of_base b) (symbols_of_writes ws) h) k
        (base_same b (front test (symbols_of_base b) (symbols_of_writes ws) h) k)

  list_base_same : (b : SeqBase) → list_all test (symbols_of_list_base b) ≡ true → items_of_base v b ≡ items_of_base w b
  list_base_same list.Empty h = refl
  list_base_same (list.Sym p) h = agree.lists p (and_first (test (p, sort.List)) true h)

  items_same : (ps : List Polynomial) → list_all test (symbols_of_items ps) ≡ true → map (value_of v) ps ≡ map (value_of w) ps
  items_same [] h = refl
  items_same (p ∷ ps) h = λ k. value_same p (front test (symbols_of p) (symbols_of_items ps) h) k
      ∷ items_same ps (back test (symbols_of p) (symbols_of_items ps) h) k

  pub list_same : (l : ListTerm) → list_all test (symbols_of_list l) ≡ true → items_in v l ≡ items_in w l
  list_same l h = λ k. list_base_same l.base (front test (symbols_of_list_base l.base) (symbols_of_items l.items) h) k
      ++ items_same l.items (back test (symbols_of_list_base l.base) (symbols_of_items l.items) h) k

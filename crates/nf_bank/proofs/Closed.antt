-- With an atom the atoms in it are there, so that a put adds what is not there, from the inside out.
use Rattle.std.proofs.Common.{◌≡◌, ◌≤◌, Bool, true, false, ◌&&◌, ◌||◌, cond, List, [], ◌∷◌, ◌++◌, length, map, arith, refl, ap, sym, subst, ◌∙◌}
use Rattle.std.proofs.lemmas.Bool.{and_from}
use Rattle.fs_model.proofs.Booleans.{and_first, and_second}
use Rattle.nf_trees.specs.NormalTerms.{Atom, Monomial, Polynomial, ArrayTerm, Writes, Symbol, Read, Quotient, Remainder, One, Times, Zero, Plus, Over, NoWrites}
use Rattle.nf_trees.specs.NormalTerms.{Write as WriteTerm, writes_of}
use Rattle.nf_trees.specs.Order.{same_atom}
use Rattle.nf_bank.specs.declared.node.AtomId.{AtomId}
use Rattle.nf_bank.specs.declared.node.Term.{Term}
use Rattle.nf_bank.specs.declared.node.Write.{Write}
use Rattle.nf_bank.specs.declared.node.Node.{Node}
use Rattle.nf_bank.specs.declared.node.Node.TheVariants as node
use Rattle.nf_bank.specs.Atoms.{holds_atom, with_one, with_atom, with_inner, with_monomial, with_terms, with_writes, with_array}
use Rattle.nf_bank.specs.HeldAtoms.{holds_monomial, holds_terms, holds_writes, holds_array, holds_inner, IsClosedUnderAtoms}
use Rattle.nf_bank.specs.AtomNumbers.{bound_over, bound_of_number, bound_of_term, bound_of_sum, bound_of_write, bound_of_array, bound_of_node, atom_of_number}
use Rattle.nf_bank.specs.AtomNumbers.{monomial_over, sum_over, write_over, array_over, atom_over}
use Rattle.nf_bank.specs.AtomGraphs.{with_node_atoms, atoms_of, AreBelow, IsAtomGraph}
use Rattle.nf_bank.proofs.Bounds.{max_left, max_right}
use Rattle.nf_bank.proofs.Places.{equal_atoms, there, at_place}
use Rattle.nf_bank.proofs.Growing.{front_length}
use Rattle.nf_bank.proofs.Nodes.{grown_front, node_stays, next_below, holds_push}

-- ---- the atoms of a node are there

module _ (atoms : List Atom) where
  monomial_held : (ids : List AtomId) → bound_over bound_of_number ids ≤ length atoms → holds_monomial (monomial_over atoms ids) atoms ≡ true
  monomial_held [] h = refl
  monomial_held (i ∷ ids) h =
      let l = max_left (bound_of_number i) (bound_over bound_of_number ids) (length atoms) h in
      and_from (holds_atom (atom_of_number atoms i) atoms) (holds_monomial (monomial_over atoms ids) atoms)
      (there atoms i.0 (atom_of_number atoms i) (at_place atoms i.0 (atom_of_number atoms i) refl (omega arith)))
      (monomial_held ids (max_right (bound_of_number i) (bound_over bound_of_number ids) (length atoms) h))

  sum_held : (s : List Term) → bound_of_sum s ≤ length atoms → holds_terms (sum_over atoms s) atoms ≡ true
  sum_held [] h = refl
  sum_held (t ∷ s) h =
      and_from (holds_monomial (monomial_over atoms t.atoms) atoms) (holds_terms (sum_over atoms s) atoms)
      (monomial_held t.atoms (max_left (bound_of_term t) (bound_of_sum s) (length atoms) h))
      (sum_held s (max_right (bound_of_term t) (bound_of_sum s) (length atoms) h))

  writes_held : (ws : List Write) → bound_over bound_of_write ws ≤ length atoms → holds_writes (writes_of (map (write_over atoms) ws)) atoms ≡ true
  writes_held [] h = refl
  writes_held (w ∷ ws) h =
      let n = length atoms in
      let l = max_left (bound_of_write w) (bound_over bound_of_write ws) n h in
      let i = holds_terms (sum_over atoms w.index) atoms in
      let v = holds_terms (sum_over atoms w.value) atoms in
      and_from (i && v) (holds_writes (writes_of (map (write_over atoms) ws)) atoms)
      (and_from i v (sum_held w.index (max_left (bound_of_sum w.index) (bound_of_sum w.value) n l))
      (sum_held w.value (max_right (bound_of_sum w.index) (bound_of_sum w.value) n l)))
      (writes_held ws (max_right (bound_of_write w) (bound_over bound_of_write ws) n h))

  sums_held : (p q : List Term) → bound_of_node (node.Div p q) ≤ length atoms
      → holds_terms (sum_over atoms p) atoms && holds_terms (sum_over atoms q) atoms ≡ true
  sums_held p q h =
      and_from (holds_terms (sum_over atoms p) atoms) (holds_terms (sum_over atoms q) atoms)
      (sum_held p (max_left (bound_of_sum p) (bound_of_sum q) (length atoms) h))
      (sum_held q (max_right (bound_of_sum p) (bound_of_sum q) (length atoms) h))

  node_held : (n : Node) → bound_of_node n ≤ length atoms → holds_inner (atom_over atoms n) atoms ≡ true
  node_held (node.Sym p) h = refl
  node_held (node.Read a i) h =
      and_from (holds_array (array_over atoms a) atoms) (holds_terms (sum_over atoms i) atoms)
      (writes_held a.writes (max_left (bound_of_array a) (bound_of_sum i) (length atoms) h))
      (sum_held i (max_right (bound_of_array a) (bound_of_sum i) (length atoms) h))
  node_held (node.Div p q) h = sums_held p q h
  node_held (node.Rem p q) h = sums_held p q h

closed_along : (atoms : List Atom) (ns : List Node) → AreBelow (length atoms) ns → (a : Atom)
    → (holds_atom a atoms ≡ true → holds_inner a (with_node_atoms atoms ns) ≡ true) → holds_atom a (with_node_atoms atoms ns) ≡ true
    → holds_inner a (with_node_atoms atoms ns) ≡ true
closed_along atoms [] b a f h = f h
closed_along atoms (m ∷ ns) b a f h =
    closed_along (atoms ++ atom_over atoms m ∷ []) ns (next_below atoms (atom_over atoms m) ns b.1) a
    (λ i. by_last (holds_atom a atoms) (same_atom a (atom_over atoms m)) refl refl (sym (holds_push a (atom_over atoms m) atoms) ∙ i)) h
  where
    by_last : (s t : Bool) → holds_atom a atoms ≡ s → same_atom a (atom_over atoms m) ≡ t → s || t ≡ true
        → holds_inner a (with_node_atoms atoms (m ∷ ns)) ≡ true
    by_last true t i j k = f i
    by_last false false i j k = absurd (cc k)
    by_last false true i j k =
        let whole = with_node_atoms atoms (m ∷ ns) in
        let g = grown_front atoms (m ∷ ns) in
        let e : a ≡ atom_over whole m = equal_atoms a (atom_over atoms m) j ∙ sym (node_stays atoms whole m g b.0) in
        subst (λ x. holds_inner x whole ≡ true) (sym e) (node_held whole m (omega (arith, b.0, front_length atoms whole g)))

-- the atoms of a graph
pub closed : (ns : List Node) (atoms : List Atom) → atoms_of ns ≡ atoms → IsAtomGraph ns → IsClosedUnderAtoms atoms
closed ns atoms w g = subst IsClosedUnderAtoms w (record { inner = λ a h. closed_along [] ns g.below a (λ i. absurd (cc i)) h })

-- ---- what is there is not put

one_atom : (a : Atom) (kept : List Atom) → with_atom a kept ≡ cond (holds_atom a kept) kept (with_one a (with_inner a kept))
one_atom (Symbol p) kept = by_test (holds_atom (Symbol p) kept)
  where
    by_test : (t : Bool) → cond t kept (kept ++ Symbol p ∷ []) ≡ cond t kept (cond t kept (kept ++ Symbol p ∷ []))
    by_test true = refl
    by_test false = refl
one_atom (Read b i) kept = refl
one_atom (Quotient p q) kept = refl
one_atom (Remainder p q) kept = refl

module _ (kept : List Atom) where
  monomial_stays : (m : Monomial) → holds_monomial m kept ≡ true → with_monomial m kept ≡ kept
  monomial_stays One h = refl
  monomial_stays (Times a m) h =
      let i = and_first (holds_atom a kept) (holds_monomial m kept) h in
      ap (with_monomial m) (one_atom a kept ∙ ap (λ t. cond t kept (with_one a (with_inner a kept))) i)
      ∙ monomial_stays m (and_second (holds_atom a kept) (holds_monomial m kept) h)

  terms_stay : (p : Polynomial) → holds_terms p kept ≡ true → with_terms p kept ≡ kept
  terms_stay Zero h = refl
  terms_stay (Plus m c p) h =
      ap (with_terms p) (monomial_stays m (and_first (holds_monomial m kept) (holds_terms p kept) h))
      ∙ terms_stay p (and_second (holds_monomial m kept) (holds_terms p kept) h)

  writes_stay : (ws : Writes) → holds_writes ws kept ≡ true → with_writes ws kept ≡ kept
  writes_stay NoWrites h = refl
  writes_stay (WriteTerm i v ws) h =
      let g = and_first (holds_terms i kept && holds_terms v kept) (holds_writes ws kept) h in
      ap (λ l. with_writes ws (with_terms v l)) (terms_stay i (and_first (holds_terms i kept) (holds_terms v kept) g))
      ∙ ap (with_writes ws) (terms_stay v (and_second (holds_terms i kept) (holds_terms v kept) g))
      ∙ writes_stay ws (and_second (holds_terms i kept && holds_terms v kept) (holds_writes ws kept) h)

  array_stays : (a : ArrayTerm) → holds_array a kept ≡ true → with_array a kept ≡ kept
  array_stays (Over b ws) h = writes_stay ws h

  both_stay : (p q : Polynomial) → holds_terms p kept && holds_terms q kept ≡ true → with_terms q (with_terms p kept) ≡ kept
  both_stay p q h = ap (with_terms q) (terms_stay p (and_first (holds_terms p kept) (holds_terms q kept) h))
      ∙ terms_stay q (and_second (holds_terms p kept) (holds_terms q kept) h)

  inner_stays : (a : Atom) → holds_inner a kept ≡ true → with_inner a kept ≡ kept
  inner_stays (Symbol p) h = refl
  inner_stays (Read a i) h = ap (with_terms i) (array_stays a (and_first (holds_array a kept) (holds_terms i kept) h))
      ∙ terms_stay i (and_second (holds_array a kept) (holds_terms i kept) h)
  inner_stays (Quotient p q) h = both_stay p q h
  inner_stays (Remainder p q) h = both_stay p q h

-- an atom is put behind those in it
pub atom_put : (a : Atom) (old : List Atom) → IsClosedUnderAtoms old → with_one a (with_inner a old) ≡ with_atom a old
atom_put a old c = by_test (holds_atom a old) refl ∙ sym (one_atom a old)
  where
    by_test : (t : Bool) → holds_atom a old ≡ t → with_one a (with_inner a old) ≡ cond t old (with_one a (with_inner a old))
    by_test true h = ap (with_one a) (inner_stays old a (c.inner a h)) ∙ ap (λ t. cond t old (old ++ a ∷ [])) h
    by_test false h = refl

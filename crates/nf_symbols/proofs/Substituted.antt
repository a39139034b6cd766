-- A substituted term has the symbols of the vector's forms.
use Rattle.std.proofs.Common.{◌≡◌, Bool, true, refl, ap, sym, ◌∙◌, List, [], ◌∷◌, ◌++◌}
use Rattle.std.specs.List.{list_all}
use Rattle.fs_model.proofs.Booleans.{and_first}
use Rattle.nf_trees.specs.NormalTerms.{Atom, Monomial, Polynomial, ArrayTerm, Writes, Symbol, Read, Quotient, Remainder, One, Times, Zero, Plus, Over, NoWrites}
use Rattle.nf_trees.specs.NormalTerms.{Write}
use Rattle.nf_terms.specs.Lists.{ListTerm}
use Rattle.nf_terms.specs.Symbols.{symbols_of_base, symbols_of_atom, symbols_of_monomial, symbols_of, symbols_of_writes, symbols_of_array, symbols_of_list_base}
use Rattle.nf_terms.specs.Symbols.{symbols_of_items, symbols_of_list}
use Rattle.nf_terms.specs.Computed.{Done, after}
use Rattle.nf_terms.specs.declared.symbols.Sort.{Sort}
use Rattle.nf_terms.specs.declared.symbols.Sort.TheVariants as sort
use Rattle.fs_model.specs.declared.sides.Pos.{Pos}
use Rattle.nf_trees.specs.declared.tree.Base.{Base}
use Rattle.nf_trees.specs.declared.tree.Base.TheVariants as base
use Rattle.nf_terms.specs.declared.tree.SeqBase.{SeqBase}
use Rattle.nf_terms.specs.declared.tree.SeqBase.TheVariants as list
use Rattle.nf_terms.specs.declared.form.Nf.{Nf}
use Rattle.nf_sums.specs.Operations.{normal_sum, normal_product, number}
use Rattle.nf_sums.proofs.Values.{goes_done}
use Rattle.nf_substitution.specs.NewAtoms.{quotient_of, remainder_of}
use Rattle.nf_substitution.specs.Writes.{write_array, read_at}
use Rattle.nf_substitution.specs.Pushes.{list_with_item}
use Rattle.nf_substitution.specs.Vectors.{number_at, array_of_base, list_of_base}
use Rattle.nf_substitution.specs.Substitution.{atom_substituted, atoms_substituted, terms_substituted, writes_substituted, array_substituted}
use Rattle.nf_substitution.specs.Substitution.{polynomial_substituted}
use Rattle.nf_substitution.specs.Substitution.{items_substituted, list_substituted}
use Rattle.nf_symbols.specs.SymbolTests.{LeadsTo}
use Rattle.nf_symbols.proofs.Passing.{front, back}
use Rattle.nf_symbols.proofs.Results.{added_within, multiplied_within, number_done_within}
use Rattle.nf_symbols.proofs.Writing.{read_within, written_within, quotient_within, remainder_within, pushed_within}

module _ (from to : Pos × Sort → Bool) (v : List (Pos × Nf)) (leads : LeadsTo from to v) where
  base_over : (b : Base) → list_all from (symbols_of_base b) ≡ true → list_all to (symbols_of_array (array_of_base v b)) ≡ true
  base_over base.Zero h = refl
  base_over (base.Sym p) h = leads.arrays p (and_first (from (p, sort.Array)) true h)

  mutual
    atom_over : (t : Atom) (r : Polynomial) → list_all from (symbols_of_atom t) ≡ true → atom_substituted v t ≡ Done r → list_all to (symbols_of r) ≡ true
    atom_over (Symbol p) r h e = (let k : number_at v p ≡ r = cc e in sym (ap (λ z. list_all to (symbols_of z)) k))
        ∙ leads.scalars p (and_first (from (p, sort.Scalar)) true h)
    atom_over (Read b i) r h e =
        let s = goes_done (array_substituted v b) (λ c. after (terms_substituted v i Zero) (λ j. read_at c j)) r e in
        let t = goes_done (terms_substituted v i Zero) (λ j. read_at s.middle j) r s.next in
        read_within to s.middle t.middle r (array_over b s.middle (front from (symbols_of_array b) (symbols_of i) h) s.first)
        (sum_over i Zero t.middle (back from (symbols_of_array b) (symbols_of i) h) refl t.first) t.next
    atom_over (Quotient p q) r h e =
        let s = goes_done (terms_substituted v p Zero) (λ x. after (terms_substituted v q Zero) (λ y. quotient_of x y)) r e in
        let t = goes_done (terms_substituted v q Zero) (λ y. quotient_of s.middle y) r s.next in
        quotient_within to s.middle t.middle r (sum_over p Zero s.middle (front from (symbols_of p) (symbols_of q) h) refl s.first)
        (sum_over q Zero t.middle (back from (symbols_of p) (symbols_of q) h) refl t.first) t.next
    atom_over (Remainder p q) r h e =
        let s = goes_done (terms_substituted v p Zero) (λ x. after (terms_substituted v q Zero) (λ y. remainder_of x y)) r e in
        let t = goes_done (terms_substituted v q Zero) (λ y. remainder_of s.middle y) r s.next in
        remainder_within to s.middle t.middle r (sum_over p Zero s.middle (front from (symbols_of p) (symbols_of q) h) refl s.first)
        (sum_over q Zero t.middle (back from (symbols_of p) (symbols_of q) h) refl t.first) t.next

    product_over : (m : Monomial) (p r : Polynomial) → list_all from (symbols_of_monomial m) ≡ true → list_all to (symbols_of p) ≡ true
        → atoms_substituted v m p ≡ Done r → list_all to (symbols_of r) ≡ true
    product_over One p r h g e = (let k : p ≡ r = cc e in sym (ap (λ z. list_all to (symbols_of z)) k)) ∙ g
    product_over (Times t m) p r h g e =
        let s = goes_done (atom_substituted v t) (λ q. after (normal_product p q) (λ x. atoms_substituted v m x)) r e in
        let u = goes_done (normal_product p s.middle) (λ x. atoms_substituted v m x) r s.next in
        product_over m u.middle r (back from (symbols_of_atom t) (symbols_of_monomial m) h)
        (multiplied_within to p s.middle u.middle g (atom_over t s.middle (front from (symbols_of_atom t) (symbols_of_monomial m) h) s.first) u.first) u.next

    sum_over : (p s r : Polynomial) → list_all from (symbols_of p) ≡ true → list_all to (symbols_of s) ≡ true → terms_substituted v p s ≡ Done r
        → list_all to (symbols_of r) ≡ true
    sum_over Zero s r h g e = (let k : s ≡ r = cc e in sym (ap (λ z. list_all to (symbols_of z)) k)) ∙ g
    sum_over (Plus m c p) s r h g e =
        let x = goes_done (after (number c) (λ n. atoms_substituted v m n)) (λ q. after (normal_sum s q) (λ y. terms_substituted v p y)) r e in
        let t = goes_done (normal_sum s x.middle) (λ y. terms_substituted v p y) r x.next in
        let n = goes_done (number c) (λ n. atoms_substituted v m n) x.middle x.first in
        sum_over p t.middle r (back from (symbols_of_monomial m) (symbols_of p) h)
        (added_within to s x.middle t.middle g
        (product_over m n.middle x.middle (front from (symbols_of_monomial m) (symbols_of p) h) (number_done_within to c n.middle n.first) n.next) t.first)
        t.next

    writes_over : (ws : Writes) (b r : ArrayTerm) → list_all from (symbols_of_writes ws) ≡ true → list_all to (symbols_of_array b) ≡ true
        → writes_substituted v ws b ≡ Done r → list_all to (symbols_of_array r) ≡ true
    writes_over NoWrites b r h g e = (let k : b ≡ r = cc e in sym (ap (λ z. list_all to (symbols_of_array z)) k)) ∙ g
    writes_over (Write i x ws) b r h g e =
        let s = goes_done (terms_substituted v i Zero)
        (λ j. after (terms_substituted v x Zero) (λ y. after (write_array b j y) (λ d. writes_substituted v ws d))) r e in
        let t = goes_done (terms_substituted v x Zero) (λ y. after (write_array b s.middle y) (λ d. writes_substituted v ws d)) r s.next in
        let u = goes_done (write_array b s.middle t.middle) (λ d. writes_substituted v ws d) r t.next in
        let rest = back from (symbols_of i) (symbols_of x ++ symbols_of_writes ws) h in
        writes_over ws u.middle r (back from (symbols_of x) (symbols_of_writes ws) rest)
        (written_within to b u.middle s.middle t.middle g
        (sum_over i Zero s.middle (front from (symbols_of i) (symbols_of x ++ symbols_of_writes ws) h) refl s.first)
        (sum_over x Zero t.middle (front from (symbols_of x) (symbols_of_writes ws) rest) refl t.first) u.first)
        u.next

    array_over : (b r : ArrayTerm) → list_all from (symbols_of_array b) ≡ true → array_substituted v b ≡ Done r → list_all to (symbols_of_array r) ≡ true
    array_over (Over c ws) r h e = writes_over ws (array_of_base v c) r (back from (symbols_of_base c) (symbols_of_writes ws) h)
        (base_over c (front from (symbols_of_base c) (symbols_of_writes ws) h)) e

  pub polynomial_over : (p r : Polynomial) → list_all from (symbols_of p) ≡ true → polynomial_substituted v p ≡ Done r → list_all to (symbols_of r) ≡ true
  polynomial_over p r h e = sum_over p Zero r h refl e

  pub array_term_over : (b r : ArrayTerm) → list_all from (symbols_of_array b) ≡ true → array_substituted v b ≡ Done r → list_all to (symbols_of_array r) ≡ true
  array_term_over = array_over

  list_base_over : (b : SeqBase) → list_all from (symbols_of_list_base b) ≡ true → list_all to (symbols_of_list (list_of_base v b)) ≡ true
  list_base_over list.Empty h = refl
  list_base_over (list.Sym p) h = leads.lists p (and_first (from (p, sort.List)) true h)

  items_over : (ps : List Polynomial) (l m : ListTerm) → list_all from (symbols_of_items ps) ≡ true → list_all to (symbols_of_list l) ≡ true
      → items_substituted v ps l ≡ Done m → list_all to (symbols_of_list m) ≡ true
  items_over [] l m h g e = (let k : l ≡ m = cc e in sym (ap (λ z. list_all to (symbols_of_list z)) k)) ∙ g
  items_over (p ∷ ps) l m h g e =
      let s = goes_done (polynomial_substituted v p) (λ q. after (list_with_item l q) (λ n. items_substituted v ps n)) m e in
      let t = goes_done (list_with_item l s.middle) (λ n. items_substituted v ps n) m s.next in
      items_over ps t.middle m (back from (symbols_of p) (symbols_of_items ps) h)
      (pushed_within to l t.middle s.middle g (polynomial_over p s.middle (front from (symbols_of p) (symbols_of_items ps) h) s.first) t.first) t.next

  pub list_over : (l m : ListTerm) → list_all from (symbols_of_list l) ≡ true → list_substituted v l ≡ Done m → list_all to (symbols_of_list m) ≡ true
  list_over l m h e = items_over l.items (list_of_base v l.base) m (back from (symbols_of_list_base l.base) (symbols_of_items l.items) h)
      (list_base_over l.base (front from (symbols_of_list_base l.base) (symbols_of_items l.items) h)) e

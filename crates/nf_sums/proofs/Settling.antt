-- Ordered terms are settled, and what is the same and in order is equal.
use Rattle.std.proofs.Common.{◌≡◌, ℤ, pos, ◌+ℤ◌, true, false, ◌&&◌, not, cond, List, [], ◌∷◌, refl, ap, sym, ◌∙◌}
use Rattle.std.specs.Ordering.{int_eq}
use Rattle.nf_terms.proofs.Booleans.{and_first, and_second}
use Rattle.nf_terms.proofs.Orderings.{is_lt-true}
use Rattle.nf_trees.specs.NormalTerms.{Atom, Monomial, Polynomial, ArrayTerm, Writes, Symbol, Read, Quotient, Remainder, One, Times, Zero, Plus, Over, NoWrites}
use Rattle.nf_trees.specs.NormalTerms.{Write}
use Rattle.nf_trees.specs.Order.{cmp_monomial}
use Rattle.nf_terms.specs.Tidied.{tidy_array}
use Rattle.nf_terms.specs.Lists.{ListTerm, AreNormalItems, IsNormalList}
use Rattle.nf_terms.specs.Normal.{IsNormal, IsNormalArray, ordered, ordered_atom, ordered_monomial, ordered_array, ordered_writes, atom_rises, monomial_rises}
use Rattle.nf_terms.specs.Normal.{is_constant, stays_read}
use Rattle.nf_terms.specs.TermParts.{HasNormalParts}
use Rattle.nf_terms.specs.RawSums.{total, SameTotals}
use Rattle.nf_sums.proofs.Partings.{ordered_term}
use Rattle.nf_sums.specs.RawSumForms.{plus, by_order, with_term, normal_form}
use Rattle.nf_sums.specs.Sameness.{settled_atom, settled_monomial, settled, settled_writes, settled_array, SameSum, SameAtom, SameArray, SameItems, SameList}
use Rattle.nf_sums.proofs.Sorting.{sorted_stays, atoms_ordered}
use Rattle.nf_sums.proofs.Collecting.{atoms_in_order}
use Rattle.nf_sums.proofs.Tidying.{ordered_write, tidied_stays}
use Rattle.nf_sums.proofs.Unique.{normal_forms_equal}

put_first : (m : Monomial) (c : ℤ) (p : Polynomial) → int_eq c (pos 0) ≡ false → monomial_rises m p ≡ true → with_term m c p ≡ Plus m c p
put_first m c Zero z r = ap (λ b. cond b Zero (Plus m c Zero)) z
put_first m c (Plus n d p) z r =
    ap (λ o. by_order o (plus m c (Plus n d p)) (plus n (c +ℤ d) p) (Plus n d (with_term m c p))) (is_lt-true (cmp_monomial m n) r)
    ∙ ap (λ b. cond b (Plus n d p) (Plus m c (Plus n d p))) z

-- a sum in order is its normal form
pub form_stays : (p : Polynomial) → ordered p ≡ true → normal_form p ≡ p
form_stays Zero o = refl
form_stays (Plus m c p) o =
    let t = ordered_term m c p o in
    (λ k. with_term (sorted_stays m t.first k) c (form_stays p t.rest k)) ∙ put_first m c p t.nonzero t.rises

mutual
  atom_stays : (a : Atom) → ordered_atom a ≡ true → settled_atom a ≡ a
  atom_stays (Symbol p) o = refl
  atom_stays (Read a i) o =
      let u = and_first (ordered_array a && ordered i) (stays_read a i) o in
      let n = and_second (ordered_array a) (ordered i) u in
      (λ k. Read (array_stays a (and_first (ordered_array a) (ordered i) u) k) (normal_form (terms_stay i n k))) ∙ ap (Read a) (form_stays i n)
  atom_stays (Quotient p q) o =
      let u = and_first (ordered p && ordered q) (not (is_constant p && is_constant q)) o in
      let m = and_first (ordered p) (ordered q) u in
      let n = and_second (ordered p) (ordered q) u in
      (λ k. Quotient (normal_form (terms_stay p m k)) (normal_form (terms_stay q n k))) ∙ (λ k. Quotient (form_stays p m k) (form_stays q n k))
  atom_stays (Remainder p q) o =
      let u = and_first (ordered p && ordered q) (not (is_constant p && is_constant q)) o in
      let m = and_first (ordered p) (ordered q) u in
      let n = and_second (ordered p) (ordered q) u in
      (λ k. Remainder (normal_form (terms_stay p m k)) (normal_form (terms_stay q n k))) ∙ (λ k. Remainder (form_stays p m k) (form_stays q n k))

  monomial_stays : (m : Monomial) → ordered_monomial m ≡ true → settled_monomial m ≡ m
  monomial_stays One o = refl
  monomial_stays (Times a m) o =
      let h = and_first (ordered_atom a) (atom_rises a m) (and_first (ordered_atom a && atom_rises a m) (ordered_monomial m) o) in
      λ k. Times (atom_stays a h k) (monomial_stays m (and_second (ordered_atom a && atom_rises a m) (ordered_monomial m) o) k)

  pub terms_stay : (p : Polynomial) → ordered p ≡ true → settled p ≡ p
  terms_stay Zero o = refl
  terms_stay (Plus m c p) o = let t = ordered_term m c p o in λ k. Plus (monomial_stays m t.first k) c (terms_stay p t.rest k)

  writes_stay : (ws : Writes) → ordered_writes ws ≡ true → settled_writes ws ≡ ws
  writes_stay NoWrites o = refl
  writes_stay (Write i v ws) o =
      let t = ordered_write i v ws o in
      (λ k. Write (normal_form (terms_stay i t.index k)) (normal_form (terms_stay v t.value k)) (writes_stay ws t.rest k))
      ∙ (λ k. Write (form_stays i t.index k) (form_stays v t.value k) ws)

  pub array_stays : (a : ArrayTerm) → ordered_array a ≡ true → settled_array a ≡ a
  array_stays (Over b ws) o = (λ k. tidy_array (Over b (writes_stay ws o k))) ∙ tidied_stays (Over b ws) o

-- ---- atoms in order are settled, in whatever order they stand

settled_atoms : (m : Monomial) → atoms_ordered m ≡ true → settled_monomial m ≡ m
settled_atoms One o = refl
settled_atoms (Times a m) o = λ k. Times (atom_stays a (and_first (ordered_atom a) (atoms_ordered m) o) k)
    (settled_atoms m (and_second (ordered_atom a) (atoms_ordered m) o) k)

pub settled_sums : (p : Polynomial) → atoms_in_order p ≡ true → settled p ≡ p
settled_sums Zero o = refl
settled_sums (Plus m c p) o = λ k. Plus (settled_atoms m (and_first (atoms_ordered m) (atoms_in_order p) o) k) c
    (settled_sums p (and_second (atoms_ordered m) (atoms_in_order p) o) k)

-- where all atoms are in order, equal totals make sums the same
pub same_of_totals : (p q : Polynomial) → atoms_in_order p ≡ true → atoms_in_order q ≡ true → SameTotals p q → SameSum p q
same_of_totals p q m n s = record { totals = λ bag. ap (total bag) (settled_sums p m) ∙ s.totals bag ∙ ap (total bag) (sym (settled_sums q n)) }

-- ---- normal forms that are the same are equal

pub sums_equal : (p q : Polynomial) → IsNormal p → IsNormal q → SameSum p q → p ≡ q
sums_equal p q m n s = normal_forms_equal p q m n
    (record { totals = λ bag. ap (total bag) (sym (terms_stay p m.ordered)) ∙ s.totals bag ∙ ap (total bag) (terms_stay q n.ordered) })

pub arrays_equal : (a b : ArrayTerm) → IsNormalArray a → IsNormalArray b → SameArray a b → a ≡ b
arrays_equal a b m n s = sym (array_stays a m.ordered) ∙ s.forms ∙ array_stays b n.ordered

pub atoms_equal : (a b : Atom) → HasNormalParts a → HasNormalParts b → SameAtom a b → a ≡ b
atoms_equal (Symbol p) (Symbol q) m n s = ap Symbol s
atoms_equal (Symbol p) (Read b j) m n s = absurd s
atoms_equal (Symbol p) (Quotient r t) m n s = absurd s
atoms_equal (Symbol p) (Remainder r t) m n s = absurd s
atoms_equal (Read a i) (Symbol q) m n s = absurd s
atoms_equal (Read a i) (Read b j) m n s = λ k. Read (arrays_equal a b m.0 n.0 s.0 k) (sums_equal i j m.1 n.1 s.1 k)
atoms_equal (Read a i) (Quotient r t) m n s = absurd s
atoms_equal (Read a i) (Remainder r t) m n s = absurd s
atoms_equal (Quotient p q) (Symbol t) m n s = absurd s
atoms_equal (Quotient p q) (Read b j) m n s = absurd s
atoms_equal (Quotient p q) (Quotient r t) m n s = λ k. Quotient (sums_equal p r m.0 n.0 s.0 k) (sums_equal q t m.1 n.1 s.1 k)
atoms_equal (Quotient p q) (Remainder r t) m n s = absurd s
atoms_equal (Remainder p q) (Symbol t) m n s = absurd s
atoms_equal (Remainder p q) (Read b j) m n s = absurd s
atoms_equal (Remainder p q) (Quotient r t) m n s = absurd s
atoms_equal (Remainder p q) (Remainder r t) m n s = λ k. Remainder (sums_equal p r m.0 n.0 s.0 k) (sums_equal q t m.1 n.1 s.1 k)

items_equal : (ps qs : List Polynomial) → AreNormalItems ps → AreNormalItems qs → SameItems ps qs → ps ≡ qs
items_equal [] [] m n s = refl
items_equal [] (q ∷ qs) m n s = absurd s
items_equal (p ∷ ps) [] m n s = absurd s
items_equal (p ∷ ps) (q ∷ qs) m n s = λ k. sums_equal p q m.0 n.0 s.0 k ∷ items_equal ps qs m.1 n.1 s.1 k

pub lists_equal : (l m : ListTerm) → IsNormalList l → IsNormalList m → SameList l m → l ≡ m
lists_equal l m h n s = λ k. record { base = s.bases k; items = items_equal l.items m.items h.items n.items s.items k }

pub ruleset equal_forms = (sums_equal, atoms_equal, arrays_equal, lists_equal)

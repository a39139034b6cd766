-- Two lists that a loop compares item by item: what the rest of them says where an item differs, where the two tie, and where a list ends.
use Rattle.std.proofs.Common.{◌≡◌, ℕ, ◌+◌, ◌<◌, ◌≤◌, List, [], ◌∷◌, map, drop, length, get_or, Option, Some, None, Bor, ℤ, refl, ap, sym, ◌∙◌}
use Rattle.std.proofs.Common.{Ordering, Less, Equal, Greater, int_cmp, subst}
use Rattle.std.proofs.lemmas.List.{drop_all}
use Rattle.std.specs.Ordering.{ordering_then}
use Rattle.std.specs.Slice.{IsItemAt}
use Rattle.fs_model.proofs.Lists.{drop_next}
use Rattle.nf_trees.specs.NormalTerms.{Atom as AtomTerm, ArrayTerm, Monomial, Polynomial, Over, monomial_of, polynomial_of, writes_of}
use Rattle.nf_trees.specs.Order.{cmp_base, cmp_atom, cmp_atoms, cmp_monomial, cmp_polynomial, cmp_writes, cmp_array}
use Rattle.nf_trees.specs.View.{atom_in, monomial_in, polynomial_in, array_in, term_in, write_in, atom_step, arr_step, mono_step, poly_step}
use Rattle.nf_trees.specs.declared.tree.Atom.{Atom}
use Rattle.nf_trees.specs.declared.tree.MonoTree.{MonoTree}
use Rattle.nf_trees.specs.declared.tree.PolyTree.{PolyTree, out-PolyTree}
use Rattle.nf_trees.specs.declared.tree.ArrTree.{ArrTree, out-ArrTree}
use Rattle.nf_trees.specs.declared.tree.Atom.TheFolds.{fold_out-PolyTree, fold_out-ArrTree}

-- an order of lists, by that of their items; a beginning of the other comes first
pub record IsListOrder {X : Type 0} (item : X → X → Ordering) (all : List X → List X → Ordering) : Type 0 where
  pub none : all [] [] ≡ Equal
  pub first : (y : X) (ys : List X) → all [] (y ∷ ys) ≡ Less
  pub last : (x : X) (xs : List X) → all (x ∷ xs) [] ≡ Greater
  pub both : (x y : X) (xs ys : List X) → all (x ∷ xs) (y ∷ ys) ≡ ordering_then (item x y) (all xs ys)

pub then_then : (a b r : Ordering) → ordering_then a (ordering_then b r) ≡ ordering_then (ordering_then a b) r
then_then Less b r = refl
then_then Equal b r = refl
then_then Greater b r = refl

then_decided : (a r : Ordering) → (a ≡ Equal → ⊥) → ordering_then a r ≡ a
then_decided Less r h = refl
then_decided Equal r h = absurd (h refl)
then_decided Greater r h = refl

abbrev pub compare_term : MonoTree × ℤ → MonoTree × ℤ → Ordering
compare_term x y = ordering_then (cmp_monomial (monomial_in x.0) (monomial_in y.0)) (int_cmp x.1 y.1)

abbrev pub compare_write : PolyTree × PolyTree → PolyTree × PolyTree → Ordering
compare_write x y = ordering_then (cmp_polynomial (polynomial_in x.0) (polynomial_in y.0)) (cmp_polynomial (polynomial_in x.1) (polynomial_in y.1))

abbrev pub compare_atom_lists : List Atom → List Atom → Ordering
compare_atom_lists xs ys = cmp_atoms (monomial_of (map atom_in xs)) (monomial_of (map atom_in ys))

abbrev pub compare_term_lists : List (MonoTree × ℤ) → List (MonoTree × ℤ) → Ordering
compare_term_lists xs ys = cmp_polynomial (polynomial_of (map term_in xs)) (polynomial_of (map term_in ys))

abbrev pub compare_write_lists : List (PolyTree × PolyTree) → List (PolyTree × PolyTree) → Ordering
compare_write_lists xs ys = cmp_writes (writes_of (map write_in xs)) (writes_of (map write_in ys))

pub atom_lists : IsListOrder (λ x y. cmp_atom (atom_in x) (atom_in y)) compare_atom_lists
atom_lists = record { none = refl; first = λ y ys. refl; last = λ x xs. refl; both = λ x y xs ys. refl }

pub term_lists : IsListOrder compare_term compare_term_lists
term_lists = record {
  none = refl;
  first = λ y ys. refl;
  last = λ x xs. refl;
  both = λ x y xs ys. then_then (cmp_monomial (monomial_in x.0) (monomial_in y.0)) (int_cmp x.1 y.1) (compare_term_lists xs ys);
}

pub write_lists : IsListOrder compare_write compare_write_lists
write_lists = record {
  none = refl;
  first = λ y ys. refl;
  last = λ x xs. refl;
  both = λ x y xs ys. then_then (cmp_polynomial (polynomial_in x.0) (polynomial_in y.0)) (cmp_polynomial (polynomial_in x.1) (polynomial_in y.1))
      (compare_write_lists xs ys);
}

-- what is left of a list at a place that was looked up
item_there : {X : Type 0} (xs : List X) (i : ℕ) (o : Option (Bor X)) (y : Bor X) → IsItemAt xs i o → o ≡ Some y → drop i xs ≡ y.now ∷ drop (i + 1) xs
item_there {X = X} xs i o y h e = there o h e
  where
    there : (o : Option (Bor X)) → IsItemAt xs i o → o ≡ Some y → drop i xs ≡ y.now ∷ drop (i + 1) xs
    there None h e = absurd (cc e)
    there (Some z) h e = let same : z ≡ y = cc e in subst (λ w. drop i xs ≡ w.now ∷ drop (i + 1) xs) same (drop_next xs i z.now h.3.0 h.1)

nothing_there : {X : Type 0} (xs : List X) (i : ℕ) (o : Option (Bor X)) → IsItemAt xs i o → o ≡ None → drop i xs ≡ []
nothing_there xs i None h e = drop_all i xs h.3
nothing_there xs i (Some z) h e = absurd (cc e)

module _ {X : Type 0} (item : X → X → Ordering) (all : List X → List X → Ordering) (order : IsListOrder item all)
    (ls rs : List X) (i : ℕ) (o : Option (Bor X)) (found : IsItemAt rs i o) where
  pub right_ends : (x : X) → i < length ls → x ≡ get_or ls i x → o ≡ None → all (drop i ls) (drop i rs) ≡ Greater
  right_ends x h e n = ap (λ xs. all xs (drop i rs)) (drop_next ls i x h e) ∙ ap (all (x ∷ drop (i + 1) ls)) (nothing_there rs i o found n) ∙ order.last x _

  pub left_ends : (y : Bor X) → length ls ≤ i → o ≡ Some y → all (drop i ls) (drop i rs) ≡ Less
  left_ends y h s = ap (λ xs. all xs (drop i rs)) (drop_all i ls h) ∙ ap (all []) (item_there rs i o y found s) ∙ order.first y.now _

  pub both_end : length ls ≤ i → o ≡ None → all (drop i ls) (drop i rs) ≡ Equal
  both_end h n = ap (λ xs. all xs (drop i rs)) (drop_all i ls h) ∙ ap (all []) (nothing_there rs i o found n) ∙ order.none

  split : (x : X) (y : Bor X) → i < length ls → x ≡ get_or ls i x → o ≡ Some y
      → all (drop i ls) (drop i rs) ≡ ordering_then (item x y.now) (all (drop (i + 1) ls) (drop (i + 1) rs))
  split x y h e s =
      ap (λ xs. all xs (drop i rs)) (drop_next ls i x h e) ∙ ap (all (x ∷ drop (i + 1) ls)) (item_there rs i o y found s)
      ∙ order.both x y.now (drop (i + 1) ls) (drop (i + 1) rs)

  pub decided : (x : X) (y : Bor X) (r : Ordering) → i < length ls → x ≡ get_or ls i x → o ≡ Some y → r ≡ item x y.now → (r ≡ Equal → ⊥)
      → all (drop i ls) (drop i rs) ≡ r
  decided x y r h e s q d =
      split x y h e s ∙ ap (λ a. ordering_then a (all (drop (i + 1) ls) (drop (i + 1) rs))) (sym q) ∙ then_decided r _ d

  pub tied : (x : X) (y : Bor X) (r : Ordering) → i < length ls → x ≡ get_or ls i x → o ≡ Some y → r ≡ item x y.now → r ≡ Equal
      → all (drop (i + 1) ls) (drop (i + 1) rs) ≡ all (drop i ls) (drop i rs)
  tied x y r h e s q t = sym (split x y h e s ∙ ap (λ a. ordering_then a (all (drop (i + 1) ls) (drop (i + 1) rs))) (sym q ∙ t))

pub array_in-is : (a : ArrTree) → array_in a ≡ Over (out-ArrTree a).base (writes_of (map write_in (out-ArrTree a).writes.items))
array_in-is = fold_out-ArrTree AtomTerm ArrayTerm Monomial Polynomial atom_step arr_step mono_step poly_step

pub polynomial_in-is : (p : PolyTree) → polynomial_in p ≡ polynomial_of (map term_in (out-PolyTree p).monos.items)
polynomial_in-is = fold_out-PolyTree AtomTerm ArrayTerm Monomial Polynomial atom_step arr_step mono_step poly_step

-- two polynomials compare as their lists of terms
pub terms_compared : (l r : PolyTree) (ls : List (MonoTree × ℤ)) → ls ≡ (out-PolyTree l).monos.items
    → compare_term_lists ls (out-PolyTree r).monos.items ≡ cmp_polynomial (polynomial_in l) (polynomial_in r)
terms_compared l r ls e =
    ap (λ xs. compare_term_lists xs (out-PolyTree r).monos.items) e
    ∙ sym (ap (λ p. cmp_polynomial p (polynomial_in r)) (polynomial_in-is l) ∙ ap (cmp_polynomial _) (polynomial_in-is r))

-- two arrays over bases that tie compare as their lists of writes
pub writes_compared : (l r : ArrTree) (ls : List (PolyTree × PolyTree)) → ls ≡ (out-ArrTree l).writes.items
    → cmp_base (out-ArrTree l).base (out-ArrTree r).base ≡ Equal
    → compare_write_lists ls (out-ArrTree r).writes.items ≡ cmp_array (array_in l) (array_in r)
writes_compared l r ls e b =
    ap (λ xs. compare_write_lists xs (out-ArrTree r).writes.items) e
    ∙ ap (λ o. ordering_then o (compare_write_lists (out-ArrTree l).writes.items (out-ArrTree r).writes.items)) (sym b)
    ∙ sym (ap (λ a. cmp_array a (array_in r)) (array_in-is l)
    ∙ ap (cmp_array (Over (out-ArrTree l).base (writes_of (map write_in (out-ArrTree l).writes.items)))) (array_in-is r))

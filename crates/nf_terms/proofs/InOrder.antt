-- A list that is in order where a test holds of each item and of what is behind it: a loop's next item, where the test holds and where it fails.
use Rattle.std.proofs.Common.{◌≡◌, ℕ, ℤ, pos, ◌+◌, ◌-◌, ◌<◌, Bool, true, false, not, ◌&&◌, ◌||◌, List, [], ◌∷◌, map, take, drop, length, get_or}
use Rattle.std.proofs.Common.{int_lt, slice_get, Some, None, of_z, to_z, FitsSigned, refl, ap, sym, ◌∙◌, arith}
use Rattle.std.specs.Int.{w128}
use Rattle.std.proofs.lemmas.Int.{to_z-of_z}
use Rattle.std.specs.Ordering.{int_eq}
use Rattle.std.proofs.lemmas.Bool.Decides.{Decides-int_eq}
use Rattle.std.proofs.lemmas.List.{take_all, length-drop}
use Rattle.fs_model.proofs.Lists.{drop_next}
use Rattle.nf_trees.specs.NormalTerms.{Polynomial, monomial_of, polynomial_of, writes_of}
use Rattle.nf_terms.specs.Normal.{atom_rises, monomial_rises, write_rises, is_written, ordered_atom, ordered_monomial, ordered}
use Rattle.nf_terms.specs.Normal.{differ_by_constant, constant_part}
use Rattle.nf_trees.specs.View.{atom_in, monomial_in, polynomial_in, term_in, write_in}
use Rattle.nf_trees.specs.declared.tree.Atom.{Atom}
use Rattle.nf_trees.specs.declared.tree.MonoTree.{MonoTree}
use Rattle.nf_trees.specs.declared.tree.PolyTree.{PolyTree}

-- what is behind a place, as a part of the list up to its end
pub part_to_end : {X : Type 0} (xs : List X) (k : ℕ) → take (length xs - k) (drop k xs) ≡ drop k xs
part_to_end xs k = take_all (length xs - k) (drop k xs) (omega (arith, length-drop k xs))

abbrev pub atom_test : Atom → List Atom → Bool
atom_test a as' = ordered_atom (atom_in a) && atom_rises (atom_in a) (monomial_of (map atom_in as'))

abbrev pub term_test : MonoTree × ℤ → List (MonoTree × ℤ) → Bool
term_test t ts = not (int_eq t.1 (pos 0)) && ordered_monomial (monomial_in t.0) && monomial_rises (monomial_in t.0) (polynomial_of (map term_in ts))

abbrev pub write_test : PolyTree × PolyTree → List (PolyTree × PolyTree) → Bool
write_test w ws =
    ordered (polynomial_in w.0) && ordered (polynomial_in w.1) && not (is_written (polynomial_in w.0) (writes_of (map write_in ws)))
    && write_rises (polynomial_in w.0) (writes_of (map write_in ws))

module _ {X : Type 0} (test : X → List X → Bool) (all : List X → Bool) (step : (x : X) (xs : List X) → all (x ∷ xs) ≡ (test x xs && all xs))
    (xs : List X) (i : ℕ) (x : X) (inside : i < length xs) (is : x ≡ get_or xs i x) where
  next : all (drop i xs) ≡ (test x (drop (i + 1) xs) && all (drop (i + 1) xs))
  next = ap all (drop_next xs i x inside is) ∙ step x (drop (i + 1) xs)

  pub fails : test x (drop (i + 1) xs) ≡ false → all (drop i xs) ≡ false
  fails e = next ∙ ap (λ b. b && all (drop (i + 1) xs)) e

  pub holds : test x (drop (i + 1) xs) ≡ true → all (drop (i + 1) xs) ≡ all (drop i xs)
  holds e = sym (next ∙ ap (λ b. b && all (drop (i + 1) xs)) e)

pub second_fails : (a b : Bool) → b ≡ false → (a && b) ≡ false
second_fails true b e = e
second_fails false b e = refl

-- what a chain of tests gives so far, with the last one that was made: all before it hold, or one of them fails
pub one_more_test : (before last : Bool) {a v : Bool} → a ≡ before → a ≡ true → v ≡ last → v ≡ (before && last)
one_more_test before last p h e = e ∙ ap (λ b. b && last) (sym (sym p ∙ h))

pub no_more_test : (before last : Bool) {a v : Bool} → a ≡ before → a ≡ false → v ≡ a → v ≡ (before && last)
no_more_test before last p h e = e ∙ h ∙ ap (λ b. b && last) (sym (sym p ∙ h))

-- what the bits of a number tell of whether it is 0
pub is_not_zero : (z : ℤ) → (of_z w128 z ≡ 0 → ⊥) → not (int_eq z (pos 0)) ≡ true
is_not_zero z h = by_test (int_eq z (pos 0)) (Decides-int_eq z (pos 0)).0
  where
    by_test : (b : Bool) → (b ≡ true → z ≡ pos 0) → not b ≡ true
    by_test false f = refl
    by_test true f = absurd (h (ap (of_z w128) (f refl)))

pub is_zero : (z : ℤ) → FitsSigned w128 z → of_z w128 z ≡ 0 → int_eq z (pos 0) ≡ true
is_zero z f e = ap (λ y. int_eq y (pos 0)) (sym (to_z-of_z w128 z f) ∙ ap (to_z w128) e)

-- a write rises over the first one of those behind it
pub rises_over_none : (i : Polynomial) (ws : List (PolyTree × PolyTree)) → slice_get ws 0 ≡ None → write_rises i (writes_of (map write_in ws)) ≡ true
rises_over_none i [] e = refl
rises_over_none i (w ∷ ws) e = absurd (cc e)

pub rises_over_first : (i : Polynomial) (ws : List (PolyTree × PolyTree)) (x : PolyTree × PolyTree) → slice_get ws 0 ≡ Some x
    → write_rises i (writes_of (map write_in ws))
    ≡ (not (differ_by_constant i (polynomial_in x.0)) || int_lt (constant_part i) (constant_part (polynomial_in x.0)))
rises_over_first i [] x e = absurd (cc e)
rises_over_first i (w ∷ ws) x e =
    let same : w ≡ x = cc e in
    ap (λ y. not (differ_by_constant i (polynomial_in y.0)) || int_lt (constant_part i) (constant_part (polynomial_in y.0))) same

-- The order of terms is total: it is the order of their keys, binary trees of integers.
use Rattle.std.proofs.Common.{◌≡◌, ℤ, refl, ap, sym, ◌∙◌}
use Rattle.std.specs.declared.cmp.Ordering.{Ordering}
use Rattle.std.specs.declared.cmp.Ordering.TheVariants.{Less, Equal, Greater}
use Rattle.std.specs.Ordering.{int_cmp, ordering_then, ordering_reverse}
use Rattle.std.specs.Cmp.{int_cmp_total}
use Rattle.std.specs.FinMap.{int_cmp-IsAntisymmetric}

-- a tree of integers
pub data Key : Type 0 where
  Leaf : ℤ → Key
  Node : Key → Key → Key

-- an integer before a pair; integers by size, pairs part by part
abbrev pub cmp_key : Key → Key → Ordering
cmp_key (Leaf x) (Leaf y) = int_cmp x y
cmp_key (Leaf x) (Node c d) = Less
cmp_key (Node a b) (Leaf y) = Greater
cmp_key (Node a b) (Node c d) = ordering_then (cmp_key a c) (cmp_key b d)

first_equal : (r s : Ordering) → ordering_then r s ≡ Equal → r ≡ Equal
first_equal Less s e = cc
first_equal Equal s e = refl
first_equal Greater s e = cc

then_equal : (r s : Ordering) → ordering_then r s ≡ Equal → s ≡ Equal
then_equal Less s e = cc
then_equal Equal s e = e
then_equal Greater s e = cc

-- keys that tie are the same
pub key_ties : (x y : Key) → cmp_key x y ≡ Equal → x ≡ y
key_ties (Leaf x) (Leaf y) e = ap Leaf (int_cmp-IsAntisymmetric x y e)
key_ties (Leaf x) (Node c d) e = cc
key_ties (Node a b) (Leaf y) e = cc
key_ties (Node a b) (Node c d) e =
    let p : a ≡ c = key_ties a c (first_equal _ _ e) in
    let q : b ≡ d = key_ties b d (then_equal (cmp_key a c) _ e) in
    cc

then_reverse : (r s : Ordering) → ordering_then (ordering_reverse r) (ordering_reverse s) ≡ ordering_reverse (ordering_then r s)
then_reverse Less s = refl
then_reverse Equal s = refl
then_reverse Greater s = refl

pub key_reverse : (x y : Key) → cmp_key x y ≡ ordering_reverse (cmp_key y x)
key_reverse (Leaf x) (Leaf y) = int_cmp_total.antisymm x y
key_reverse (Leaf x) (Node c d) = refl
key_reverse (Node a b) (Leaf y) = refl
key_reverse (Node a b) (Node c d) =
    ap (λ r. ordering_then r (cmp_key b d)) (key_reverse a c)
    ∙ ap (ordering_then (ordering_reverse (cmp_key c a))) (key_reverse b d) ∙ then_reverse (cmp_key c a) (cmp_key d b)

pub key_trans : (x y z : Key) → cmp_key x y ≡ Less → cmp_key y z ≡ Less → cmp_key x z ≡ Less
key_trans (Leaf x) (Leaf y) (Leaf z) p q = int_cmp_total.trans x y z p q
key_trans (Leaf x) (Leaf y) (Node e f) p q = refl
key_trans (Leaf x) (Node c d) (Leaf z) p q = cc
key_trans (Leaf x) (Node c d) (Node e f) p q = refl
key_trans (Node a b) (Leaf y) (Leaf z) p q = cc
key_trans (Node a b) (Leaf y) (Node e f) p q = cc
key_trans (Node a b) (Node c d) (Leaf z) p q = cc
key_trans (Node a b) (Node c d) (Node e f) p q =
    split (cmp_key a c) (cmp_key c e) (key_trans a c e) (λ h. ap (λ k. cmp_key k e) (key_ties a c h))
    (λ h. ap (cmp_key a) (sym (key_ties c e h))) (key_trans b d f) p q
  where
    split : (r s : Ordering) {t u v w : Ordering} → (r ≡ Less → s ≡ Less → t ≡ Less) → (r ≡ Equal → t ≡ s) → (s ≡ Equal → t ≡ r)
        → (u ≡ Less → v ≡ Less → w ≡ Less) → ordering_then r u ≡ Less → ordering_then s v ≡ Less → ordering_then t w ≡ Less
    split Less Less {t} {u} {v} {w} f g h k p q = ap (λ o. ordering_then o w) (f refl refl)
    split Less Equal {t} {u} {v} {w} f g h k p q = ap (λ o. ordering_then o w) (h refl)
    split Less Greater f g h k p q = cc
    split Equal Less {t} {u} {v} {w} f g h k p q = ap (λ o. ordering_then o w) (g refl)
    split Equal Equal {t} {u} {v} {w} f g h k p q = ap (λ o. ordering_then o w) (g refl) ∙ k p q
    split Equal Greater f g h k p q = cc
    split Greater s f g h k p q = cc

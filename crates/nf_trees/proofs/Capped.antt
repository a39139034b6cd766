-- The greatest and the sum of numbers, each at most a cap, and of what a loop goes over.
use Rattle.std.proofs.Common.{◌≡◌, ℕ, ◌+◌, ◌<◌, ◌≤◌, min, max, List, ◌∷◌, map, drop, length, get_or, ap, sym, ◌∙◌, arith}
use Rattle.fs_model.proofs.Lists.{map_drop_next}

greatest_capped : (cap so_far one rest : ℕ) → so_far ≤ cap → min (max (max so_far (min one cap)) rest) cap ≡ min (max so_far (max one rest)) cap
greatest_capped cap so_far one rest h = omega arith

sum_capped : (cap so_far one rest : ℕ) → min (min (so_far + one) cap + rest) cap ≡ min (so_far + (one + rest)) cap
sum_capped cap so_far one rest = omega arith

-- one more of a list whose greatest is wanted
pub greatest_more : {X Y : Type 0} (view : X → Y) (all : List Y → ℕ) (one : Y → ℕ) → ((y : Y) (ys : List Y) → all (y ∷ ys) ≡ max (one y) (all ys))
    → (cap so_far new : ℕ) (xs : List X) (i : ℕ) (x : X) → so_far ≤ cap → new ≡ max so_far (min (one (view x)) cap) → i < length xs → x ≡ get_or xs i x
    → min (max new (all (map view (drop (i + 1) xs)))) cap ≡ min (max so_far (all (map view (drop i xs)))) cap
greatest_more view all one step cap so_far new xs i x h n l e =
    let rest = map view (drop (i + 1) xs) in
    ap (λ d. min (max d (all rest)) cap) n
    ∙ greatest_capped cap so_far (one (view x)) (all rest) h
    ∙ ap (λ d. min (max so_far d) cap) (sym (step (view x) rest))
    ∙ ap (λ ys. min (max so_far (all ys)) cap) (sym (map_drop_next view xs i x l e))

-- one more of a list whose sum is wanted
pub sum_more : {X Y : Type 0} (view : X → Y) (all : List Y → ℕ) (one : Y → ℕ) → ((y : Y) (ys : List Y) → all (y ∷ ys) ≡ one y + all ys)
    → (cap so_far new : ℕ) (xs : List X) (i : ℕ) (x : X) → new ≡ min (so_far + one (view x)) cap → i < length xs → x ≡ get_or xs i x
    → min (new + all (map view (drop (i + 1) xs))) cap ≡ min (so_far + all (map view (drop i xs))) cap
sum_more view all one step cap so_far new xs i x n l e =
    let rest = map view (drop (i + 1) xs) in
    ap (λ d. min (d + all rest) cap) n
    ∙ sum_capped cap so_far (one (view x)) (all rest)
    ∙ ap (λ d. min (so_far + d) cap) (sym (step (view x) rest))
    ∙ ap (λ ys. min (so_far + all ys) cap) (sym (map_drop_next view xs i x l e))

-- Loops that make trees of numbers: what is made, in front of what is left.
use Rattle.std.proofs.Common.{◌≡◌, ℕ, ◌+◌, ◌<◌, List, [], ◌∷◌, ◌++◌, map, drop, length, get_or, ap, ◌∙◌}
use Rattle.nf_trees.proofs.Loops.{append_moves_mapped}

pub one_made : {A B : Type 0} (f : A → B) (old new : List B) (xs : List A) (i : ℕ) (x : A) (y : B) → i < length xs → x ≡ get_or xs i x → y ≡ f x
    → new ≡ old ++ y ∷ [] → new ++ map f (drop (i + 1) xs) ≡ old ++ map f (drop i xs)
one_made f old new xs i x y h e m n = append_moves_mapped f old new xs i x h e (n ∙ ap (λ z. old ++ z ∷ []) m)

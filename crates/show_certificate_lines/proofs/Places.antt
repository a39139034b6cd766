-- What loops keep that add what stands at each place: what is added so far, with what is left behind it, is the whole.
use Rattle.std.proofs.Common.{◌≡◌, ℕ, ◌+◌, ◌<◌, List, ◌∷◌, ◌++◌, length, map, drop, get_or, ap, sym, ◌∙◌, append_assoc}
use Rattle.fs_model.proofs.Lists.{map_drop_next}

-- one more at its place, before those that are left
pub next_at_place : {A B R : Type 0} (from : ℕ → List B → List R) (one : ℕ → B → List R)
    → ((k : ℕ) (b : B) (bs : List B) → from k (b ∷ bs) ≡ one k b ++ from (k + 1) bs) → (f : A → B) (xs : List A) (i : ℕ) (x : A)
    → i < length xs → x ≡ get_or xs i x → (old new whole : List R) → new ≡ old ++ one i (f x) → old ++ from i (map f (drop i xs)) ≡ whole
    → new ++ from (i + 1) (map f (drop (i + 1) xs)) ≡ whole
next_at_place from one splits f xs i x h is old new whole added before =
    let rest = map f (drop (i + 1) xs) in
    ap (λ r. r ++ from (i + 1) rest) added
    ∙ append_assoc old (one i (f x)) (from (i + 1) rest)
    ∙ ap (λ r. old ++ r) (sym (ap (from i) (map_drop_next f xs i x h is) ∙ splits i (f x) rest))
    ∙ before

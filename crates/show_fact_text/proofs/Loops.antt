-- What loops keep that add to a list: what is added so far, with what is left behind it, is the whole.
use Rattle.std.proofs.Common.{◌≡◌, ℕ, ◌+◌, ◌<◌, List, ◌∷◌, ◌++◌, length, map, drop, get_or, ap, sym, ◌∙◌, append_assoc}
use Rattle.fs_model.proofs.Lists.{drop_next, map_drop_next}

module _ {B R : Type 0} (all : List B → List R) (one : B → List R) (splits : (b : B) (bs : List B) → all (b ∷ bs) ≡ one b ++ all bs) where
  -- one more, before those that are left
  pub append_one_keeps_whole : (b : B) (bs left : List B) → left ≡ b ∷ bs → (old new whole : List R) → new ≡ old ++ one b → old ++ all left ≡ whole
      → new ++ all bs ≡ whole
  append_one_keeps_whole b bs left e old new whole added before =
      ap (λ r. r ++ all bs) added ∙ append_assoc old (one b) (all bs) ∙ ap (λ r. old ++ r) (sym (ap all e ∙ splits b bs)) ∙ before

  pub next_more : (xs : List B) (i : ℕ) (x : B) → i < length xs → x ≡ get_or xs i x → (old new whole : List R) → new ≡ old ++ one x
      → old ++ all (drop i xs) ≡ whole → new ++ all (drop (i + 1) xs) ≡ whole
  next_more xs i x h e = append_one_keeps_whole x (drop (i + 1) xs) (drop i xs) (drop_next xs i x h e)

  pub next_more_of : {A : Type 0} (f : A → B) (xs : List A) (i : ℕ) (x : A) → i < length xs → x ≡ get_or xs i x → (old new whole : List R)
      → new ≡ old ++ one (f x) → old ++ all (map f (drop i xs)) ≡ whole → new ++ all (map f (drop (i + 1) xs)) ≡ whole
  next_more_of f xs i x h e = append_one_keeps_whole (f x) (map f (drop (i + 1) xs)) (map f (drop i xs)) (map_drop_next f xs i x h e)

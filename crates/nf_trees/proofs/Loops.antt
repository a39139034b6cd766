-- What a loop has put into a list, in front of what is left of the list that it goes over.
use Rattle.std.proofs.Common.{◌≡◌, ℕ, ◌+◌, ◌<◌, ◌≤◌, List, [], ◌∷◌, ◌++◌, map, drop, length, get_or, ap, sym, subst, ◌∙◌, append_assoc}
use Rattle.std.proofs.Common.{Result, Ok, IfOk}
use Rattle.std.proofs.lemmas.List.{append-nil, at_drop_all}
use Rattle.fs_model.proofs.Lists.{map_drop_next}

pub append_moves_mapped : {A B : Type 0} (f : A → B) (old new : List B) (xs : List A) (i : ℕ) (x : A) → i < length xs → x ≡ get_or xs i x
    → new ≡ old ++ f x ∷ [] → new ++ map f (drop (i + 1) xs) ≡ old ++ map f (drop i xs)
append_moves_mapped f old new xs i x h e n =
    ap (λ l. l ++ map f (drop (i + 1) xs)) n
    ∙ append_assoc old (f x ∷ []) (map f (drop (i + 1) xs))
    ∙ ap (λ l. old ++ l) (sym (map_drop_next f xs i x h e))

-- behind the last place nothing is left
pub all_there : {A B : Type 0} (f : A → B) (old : List B) (xs : List A) (i : ℕ) → length xs ≤ i → old ≡ old ++ map f (drop i xs)
all_there f old xs i h = sym (at_drop_all (λ ys. old ++ map f ys) xs i h ∙ append-nil old)

-- what was copied is what the copy shows
pub copied : {A B E : Type 0} {r : Result A E} {x : A} {y : B} (f : A → B) → IfOk r (λ t. f t ≡ y) → r ≡ Ok x → f x ≡ y
copied {y = y} f h e = subst (λ r. IfOk r (λ t. f t ≡ y)) e h

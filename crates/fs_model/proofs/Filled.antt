-- What a loop has put into a list, beside the front of the list that it goes over.
use Rattle.std.proofs.Common.{◌≡◌, ℕ, suc, arith, ◌+◌, ◌<◌, List, [], ◌∷◌, ◌++◌, map, take, length, get_or, ap, ap₂, sym, ◌∙◌}
use Rattle.std.proofs.Math.Seq.{take-suc}
use Rattle.std.proofs.lemmas.List.{map-append}
use Rattle.base_laws.proofs.Lists.{map_map}

one_more_done : {A B C : Type 0} (f : B → C) (g : A → C) (old new : List B) (xs : List A) (i : ℕ) (x : A) (y : B) → i < length xs → x ≡ get_or xs i x
    → new ≡ old ++ y ∷ [] → f y ≡ g x → map f old ≡ map g (take i xs) → map f new ≡ map g (take (i + 1) xs)
one_more_done f g old new xs i x y h at n e so_far =
    let next : suc i ≡ i + 1 = omega arith in
    ap (map f) n
    ∙ map-append f old (y ∷ [])
    ∙ ap₂ (λ (a : List _) b. a ++ b ∷ []) so_far (e ∙ ap g at)
    ∙ sym (map-append g (take i xs) (get_or xs i x ∷ []))
    ∙ ap (map g) (sym (take-suc xs i x h))
    ∙ ap (λ k. map g (take k xs)) next

-- an item is seen by one function after another
pub map_of_map_grows : {A B C D : Type 0} (f : B → C) (g : D → C) (k : A → D) (old new : List B) (xs : List A) (i : ℕ) (x : A) (y : B) → i < length xs
    → x ≡ get_or xs i x → new ≡ old ++ y ∷ [] → f y ≡ g (k x) → map f old ≡ map g (map k (take i xs)) → map f new ≡ map g (map k (take (i + 1) xs))
map_of_map_grows f g k old new xs i x y h at n e so_far =
    one_more_done f (λ z. g (k z)) old new xs i x y h at n e (so_far ∙ map_map g k (take i xs)) ∙ sym (map_map g k (take (i + 1) xs))

-- A list that a loop fills with what it makes of the items of another.
use Rattle.std.proofs.Common.{◌≡◌, get_or, ℕ, ◌+◌, ◌<◌, length, take, List, [], ◌∷◌, ◌++◌, sym, ◌∙◌, ap}
use Rattle.std.specs.Prelude.{map}
use Rattle.std.proofs.lemmas.List.{take_more, map-append}

pub valued_more : {A B C : Type 0} (f : A → B) (g : B → C) (xs : List A) (i : ℕ) (x : A) (out new : List C) → i < length xs → x ≡ get_or xs i x
    → new ≡ out ++ g (f x) ∷ [] → out ≡ map g (map f (take i xs)) → new ≡ map g (map f (take (i + 1) xs))
valued_more f g xs i x out new h e n o =
    n ∙ ap (λ l. l ++ g (f x) ∷ []) o
    ∙ sym
    (ap (λ l. map g (map f l)) (take_more xs i x h ∙ ap (λ z. take i xs ++ z ∷ []) (sym e)) ∙ ap (map g) (map-append f (take i xs) (x ∷ []))
    ∙ map-append g (map f (take i xs)) (f x ∷ []))

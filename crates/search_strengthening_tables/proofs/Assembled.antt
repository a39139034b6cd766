-- What holds of each node that was made.
use Rattle.std.proofs.Common.{◌≡◌, List, [], ◌∷◌, ◌++◌, map, sym, subst}
use Rattle.std.specs.List.{AllByRecursion}

joined : {X Y : Type 0} (f : X → Y) (P : Y → Type 0) (xs : List X) (x : X) → AllByRecursion P (map f xs) → P (f x) → AllByRecursion P (map f (xs ++ x ∷ []))
joined f P [] x h g = (g, tt)
joined f P (y ∷ ys) x h g = (h.0, joined f P ys x h.1 g)

pub append_keeps_all : {X Y : Type 0} (f : X → Y) (P : Y → Type 0) (new old : List X) (x : X) → new ≡ old ++ x ∷ [] → AllByRecursion P (map f old) → P (f x)
    → AllByRecursion P (map f new)
append_keeps_all f P new old x e h g = subst (λ xs. AllByRecursion P (map f xs)) (sym e) (joined f P old x h g)

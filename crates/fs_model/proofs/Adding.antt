-- A list to which a value was added, where it was made.
use Rattle.std.proofs.Common.{◌≡◌, List, [], ◌∷◌, ◌++◌, map, Result, Ok, Err}
use Rattle.std.specs.Result.{IfOk}
use Rattle.base_laws.proofs.Lists.{map_grown}
use Rattle.fs_model.specs.declared.name.NoMemory.{NoMemory}
use Rattle.fs_model.specs.Adding.{AddsIfMade}

pub map_push_made : {T A : Type 0} (f : T → A) (made : Result T NoMemory) (old new : List T) (y : A) → AddsIfMade made old new → IfOk made (λ t. f t ≡ y)
    → map f new ≡ map f old ++ y ∷ []
map_push_made f (Ok x) old new y p e = map_grown f old new x y p e
map_push_made f (Err e) old new y p h = absurd p

-- Parts that were read, one behind another.
use Rattle.std.specs.Prelude.{◌≡◌, List, [], ◌∷◌, ◌++◌, Result, Ok, Err}
use Rattle.fs_grammar.specs.declared.fault.ReadError.{ReadError}
use Rattle.fs_grammar.specs.declared.fault.ReadError.TheVariants.{NoMemory}

-- a part that was read stands behind others: its refusal is passed on, and the one refusal more is want of memory
abbrev pub PushesRead : {X Y : Type 0} → List X → List X → Result (X × Y) ReadError → Result Y ReadError → Type 0
PushesRead old new (Ok x) (Ok y) = (new ≡ old ++ x.0 ∷ []) × (y ≡ x.1)
PushesRead old new (Ok x) (Err e) = e ≡ NoMemory
PushesRead old new (Err d) (Ok y) = ⊥
PushesRead old new (Err d) (Err e) = e ≡ d

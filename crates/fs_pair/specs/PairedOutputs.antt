-- The outputs of two machines, and when these hold the same.
use Rattle.std.specs.Prelude.{◌≡◌, ℕ, ◌+◌, cond, List, [], ◌∷◌, Option, Some}
use Rattle.std.specs.List.{position_from}
use Rattle.std.specs.Str.{bytes_eq}
use Rattle.fs_model.specs.declared.parts.Sort.{Sort}
use Rattle.fs_model.specs.declared.parts.VarInfo.{VarInfo}
use Rattle.fs_model.specs.Stores.{Store}
use Rattle.fs_model.specs.Runs.{is_output, content}

-- an output of the left machine by its number, with the number of the right machine's variable of its name
pub record OutputPair : Type 0 where
  pub left : ℕ
  pub sort : Sort
  pub right : Option ℕ

-- the outputs among variables that are numbered from x on
abbrev pub output_pairs : ℕ → (lefts rights : List VarInfo) → List OutputPair
output_pairs x [] rights = []
output_pairs x (v ∷ vs) rights =
    cond (is_output v.role)
    (record { left = x; sort = v.sort; right = position_from (λ u. bytes_eq u.name v.name) 0 rights }
    ∷ output_pairs (x + 1) vs rights) (output_pairs (x + 1) vs rights)

-- the two variables hold the same in these stores
abbrev pub AgreeOnOutput : Store → Store → OutputPair → Type 0
AgreeOnOutput s u o = (y : ℕ) → o.right ≡ Some y → content o.sort o.left s ≡ content o.sort y u

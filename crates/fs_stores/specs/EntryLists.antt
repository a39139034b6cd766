-- The entries of an array that are not 0, as a list.
use Rattle.std.specs.Prelude.{◌≡◌, ◌≢◌, ℤ, pos, Bool, not, List}
use Rattle.std.specs.List.{AllByRecursion}
use Rattle.std.specs.List.Sorted.{IsStrictlySortedBy}
use Rattle.std.specs.Ordering.{int_cmp, int_eq}
use Rattle.std.specs.Option.{unwrap_or}
use Rattle.std.specs.Map.{keys_of, lookup}

-- an index and the number there
abbrev pub Entry : Type 0
Entry = ℤ × ℤ

-- the number that a list of entries says of an index: 0 where it has none
abbrev pub listed_number : List Entry → ℤ → ℤ
listed_number es i = unwrap_or (lookup (int_eq i) es) (pos 0)

abbrev pub is_not_zero : Entry → Bool
is_not_zero e = not (int_eq e.1 (pos 0))

-- the entries of an array that are not 0, in increasing order of index
pub record IsListing (f : ℤ → ℤ) (es : List Entry) : Type 0 where
  pub rising : IsStrictlySortedBy int_cmp (keys_of es)
  pub not_zero : AllByRecursion (λ e. e.1 ≢ pos 0) es
  pub exact : (i : ℤ) → listed_number es i ≡ f i

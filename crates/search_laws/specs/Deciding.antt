-- Which obligation of a certificate decides.
use Rattle.std.specs.Prelude.{◌≡◌, ℕ, ◌+◌, List, ◌∷◌, ◌++◌, length, Some, None}
use Rattle.std.specs.List.{AllByRecursion}
use Rattle.nf_terms.specs.Computed.{Done, Wide, Large}
use Rattle.cert_model.specs.declared.reason.Reason.{Reason}
use Rattle.cert_model.specs.Obligations.{Judged}

-- an obligation holds
abbrev pub IsFulfilled : Judged → Type 0
IsFulfilled j = j ≡ Done None

-- an obligation fails for this reason
abbrev pub FailsFor : Reason → Judged → Type 0
FailsFor r j = j ≡ Done (Some r)

-- an operation of an obligation is not narrow
abbrev pub IsWideEvent : Judged → Type 0
IsWideEvent j = (left : ℕ) × (right : ℕ) × (j ≡ Wide left right)

-- an operation of an obligation is narrow and not small
abbrev pub IsLargeEvent : Judged → Type 0
IsLargeEvent j = (units : ℕ) × (depth : ℕ) × (j ≡ Large units depth)

-- obligation number k, counted from 1, decides so, and all earlier ones hold
pub record IsDecidedFirst (js : List Judged) (k : ℕ) (Decides : Judged → Type 0) : Type 0 where
  pub earlier : List Judged
  pub decisive : Judged
  pub later : List Judged
  pub in_order : earlier ++ decisive ∷ later ≡ js
  pub number : length earlier + 1 ≡ k
  pub hold : AllByRecursion IsFulfilled earlier
  pub decides : Decides decisive

-- Obligations one after another.
use Rattle.std.specs.Prelude.{ℕ, ◌+◌, List, [], ◌∷◌, Some, None}
use Rattle.nf_terms.specs.Computed.{Done, Wide, Large}
use Rattle.cert_model.specs.Obligations.{Judged, Verdict, Yes, No, IsWide, IsLarge}

-- all hold, and the next one has this number; or one stops the check
pub data Progress : Type 0 where
  Held : ℕ → Progress
  Stopped : Verdict → Progress

-- obligation number k, and else those after it
abbrev pub advance : ℕ → Judged → (later : Progress) → Progress
advance k (Done None) later = later
advance k (Done (Some r)) later = Stopped (No k r)
advance k (Wide left right) later = Stopped (IsWide k)
advance k (Large units depth) later = Stopped (IsLarge k)

-- obligations from number k on
abbrev pub progress_from : ℕ → List Judged → Progress
progress_from k [] = Held k
progress_from k (r ∷ rs) = advance k r (progress_from (k + 1) rs)

abbrev pub verdict_of : Progress → Verdict
verdict_of (Held k) = Yes
verdict_of (Stopped v) = v

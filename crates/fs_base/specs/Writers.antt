-- A writer as a sink.
use Rattle.std.specs.Prelude.{ℕ, List, Option}

-- what the writer holds, where that is known, and the failures so far
pub record WrittenSink : Type 0 where
  pub holds : Option (List ℕ)
  pub failures : ℕ

-- the writer holds this, and no call has failed
abbrev pub no_failures : Option (List ℕ) → WrittenSink
no_failures holds = record { holds = holds; failures = 0 }

-- A list of entries that grows.
use Rattle.std.specs.Prelude.{◌≡◌, ℕ, List, ◌++◌}
use Rattle.fs_model.specs.Runs.{Content}
use Rattle.hls_shrink.specs.declared.entries.InputEntry.{InputEntry}
use Rattle.hls_shrink.specs.InputEntries.{AreEntriesOf}

-- the entries of what an input is given are appended
pub record AddsEntries (input : ℕ) (c : Content) (old new : List InputEntry) : Type 0 where
  pub own : List InputEntry
  pub are : AreEntriesOf input c own
  pub all : new ≡ old ++ own

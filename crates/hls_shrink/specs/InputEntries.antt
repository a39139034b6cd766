-- The numbers of inputs that are not 0.
use Rattle.std.specs.Prelude.{◌≡◌, ℕ, ◌+◌, cond, ℤ, pos, List, [], ◌∷◌, ◌++◌, map}
use Rattle.std.specs.Ordering.{int_eq}
use Rattle.fs_model.specs.Runs.{Content, Number, Entries, Emitted}
use Rattle.fs_stores.specs.declared.inputs.Inputs.{Inputs}
use Rattle.fs_stores.specs.Values.{content_of}
use Rattle.fs_stores.specs.InputValues.{input_values}
use Rattle.fs_stores.specs.EntryLists.{IsListing}
use Rattle.hls_shrink.specs.declared.entries.InputEntry.{InputEntry}

-- what inputs are given, in order of declaration
abbrev pub contents_in : Inputs → List Content
contents_in ins = map content_of (input_values ins)

-- an index and its number, as an entry of an input
abbrev pub at_input : (input : ℕ) → ℤ × ℤ → InputEntry
at_input input e = record { input = input; index = e.0; number = e.1 }

-- the entries of a scalar: one, where it is not 0
abbrev pub number_entries : (input : ℕ) → ℤ → List InputEntry
number_entries input z = cond (int_eq z (pos 0)) [] (at_input input (pos 0, z) ∷ [])

-- the entries of an array: its numbers that are not 0, by rising index
pub record AreArrayEntries (input : ℕ) (f : ℤ → ℤ) (es : List InputEntry) : Type 0 where
  pub listing : List (ℤ × ℤ)
  pub lists : IsListing f listing
  pub all : es ≡ map (at_input input) listing

-- the entries of what an input is given
abbrev pub AreEntriesOf : (input : ℕ) → Content → List InputEntry → Type 0
AreEntriesOf input (Number z) es = es ≡ number_entries input z
AreEntriesOf input (Entries f) es = AreArrayEntries input f es
AreEntriesOf input (Emitted zs) es = es ≡ []

-- entries are those of one input, and then those of the others
pub record FirstAndOthers (First Others : List InputEntry → Type 0) (es : List InputEntry) : Type 0 where
  pub own : List InputEntry
  pub others : List InputEntry
  pub of_first : First own
  pub of_others : Others others
  pub all : es ≡ own ++ others

-- the entries of what inputs are given in order, of which the first has number k
abbrev pub AreEntries : (k : ℕ) → List Content → List InputEntry → Type 0
AreEntries k [] es = es ≡ []
AreEntries k (c ∷ cs) es = FirstAndOthers (AreEntriesOf k c) (AreEntries (k + 1) cs) es

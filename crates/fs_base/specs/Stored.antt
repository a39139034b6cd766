-- The files that are held in memory.
use Rattle.std.specs.Prelude.{ℕ, List, [], ◌∷◌, Option, Some, None, cond}
use Rattle.std.specs.Str.{bytes_eq}
use Rattle.fs_base.specs.Outside.{FileKnowledge, NoFile, Bytes}

-- the bytes of the newest file of that name, among the names and bytes of files, the newest first
abbrev pub newest : List (List ℕ × List ℕ) → List ℕ → Option (List ℕ)
newest [] name = None
newest (file ∷ older) name = cond (bytes_eq file.0 name) (Some file.1) (newest older name)

-- a name without a file holds nothing
abbrev pub held_or_nothing : Option (List ℕ) → FileKnowledge
held_or_nothing None = NoFile
held_or_nothing (Some bytes) = Bytes bytes

-- a name without a file holds the empty file
abbrev pub held_or_empty : Option (List ℕ) → FileKnowledge
held_or_empty None = Bytes []
held_or_empty (Some bytes) = Bytes bytes

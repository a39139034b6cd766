-- What was read of the files of a call.
use Rattle.std.specs.Prelude.{ℕ, List}

-- what was read of a file that was opened: its bytes, or it could not be read
pub data FileContent : Type 0 where
  Readable : List ℕ → FileContent
  Unreadable : FileContent

-- the bytes that were read meet P
abbrev pub OfBytes : FileContent → (List ℕ → Type 0) → Type 0
OfBytes (Readable bytes) P = P bytes
OfBytes Unreadable P = ⊥

-- what was read of the files of a call that were opened, in the order of work: none behind these was opened
abbrev pub Reading : Type 0
Reading = List FileContent

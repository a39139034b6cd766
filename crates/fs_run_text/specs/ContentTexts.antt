-- What contents print as.
use Rattle.std.specs.Prelude.{◌≡◌, ℕ, ℤ, List, [], ◌∷◌, ◌++◌, map, codes}
use Rattle.std.specs.List.{flat_map}
use Rattle.std.specs.Fmt.{signed_decimal}
use Rattle.fs_model.specs.Runs.{Content, Number, Entries, Emitted}
use Rattle.fs_stores.specs.EntryLists.{Entry, IsListing}

-- texts, joined by a comma and a space
abbrev pub join_texts : List (List ℕ) → List ℕ
join_texts [] = []
join_texts (first ∷ rest) = first ++ flat_map (λ item. codes ", " ++ item) rest

abbrev pub entry_text : Entry → List ℕ
entry_text e = signed_decimal e.0 ++ (codes ": " ++ signed_decimal e.1)

abbrev pub array_text : List Entry → List ℕ
array_text es = codes "{" ++ (join_texts (map entry_text es) ++ codes "}")

-- numbers between brackets
abbrev pub numbers_text : List ℤ → List ℕ
numbers_text zs = codes "[" ++ (join_texts (map signed_decimal zs) ++ codes "]")

-- an array prints as its entries that are not 0, in increasing order of index
pub record ShowsArray (f : ℤ → ℤ) (text : List ℕ) : Type 0 where
  pub entries : List Entry
  pub listing : IsListing f entries
  pub spelled : text ≡ array_text entries

-- a content prints as a text
abbrev pub PrintsAs : Content → List ℕ → Type 0
PrintsAs (Number n) text = text ≡ signed_decimal n
PrintsAs (Entries f) text = ShowsArray f text
PrintsAs (Emitted zs) text = text ≡ numbers_text zs

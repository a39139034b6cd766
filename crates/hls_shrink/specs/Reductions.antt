-- The reductions of inputs.
use Rattle.std.specs.Prelude.{ℕ, zero, suc, nat_lt, Bool, cond, ℤ, pos, int_div, unsigned_abs, List, [], ◌∷◌, map}
use Rattle.std.specs.List.{flat_map}
use Rattle.std.specs.Ordering.{int_eq}
use Rattle.fs_model.specs.Runs.{Content, Number, Entries, Emitted}
use Rattle.hls_shrink.specs.declared.entries.InputEntry.{InputEntry}

-- a number is beyond 1 and -1
abbrev pub is_beyond_one : ℤ → Bool
is_beyond_one z = nat_lt 1 (unsigned_abs z)

-- the numbers to which a number that is not 0 is reduced: 0, and where it is beyond 1 and -1 its half toward zero
abbrev pub lesser : ℤ → List ℤ
lesser z = pos 0 ∷ cond (is_beyond_one z) (int_div z (pos 2) ∷ []) []

-- a content with another number at an index
abbrev pub content_with : Content → (index number : ℤ) → Content
content_with (Number z) index number = Number number
content_with (Entries f) index number = Entries (λ i. cond (int_eq index i) number (f i))
content_with (Emitted zs) index number = Emitted zs

-- contents with another number at an index of an input
abbrev pub with_number_at : List Content → (input : ℕ) → (index number : ℤ) → List Content
with_number_at [] input index number = []
with_number_at (c ∷ cs) zero index number = content_with c index number ∷ cs
with_number_at (c ∷ cs) (suc input) index number = c ∷ with_number_at cs input index number

-- contents with another number where an entry is
abbrev pub contents_with : List Content → InputEntry → (number : ℤ) → List Content
contents_with cs e number = with_number_at cs e.input e.index number

-- the reductions of contents at an entry, in order
abbrev pub reductions_at : List Content → InputEntry → List (List Content)
reductions_at cs e = map (contents_with cs e) (lesser e.number)

-- the reductions of contents at entries, in order
abbrev pub reductions : List Content → List InputEntry → List (List Content)
reductions cs es = flat_map (reductions_at cs) es

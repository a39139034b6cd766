-- Texts in quotes, as DOT has them in labels.
use Rattle.std.specs.Prelude.{ℕ, ◌==◌, Bool, true, false, cond, List, [], ◌∷◌, ◌++◌, Option, Some, None}
use Rattle.std.specs.List.{flat_map}
use Rattle.std.specs.Option.{option_map}

-- a byte of a text: `"` and `\` stand behind a `\`, and the end of a line is `\l`
abbrev pub escaped_byte : ℕ → List ℕ
escaped_byte b = cond (b == 34) (92 ∷ 34 ∷ []) (cond (b == 92) (92 ∷ 92 ∷ []) (cond (b == 10) (92 ∷ 108 ∷ []) (b ∷ [])))

-- a text between quotes
unfoldable pub quoted_text : List ℕ → List ℕ
quoted_text text = 34 ∷ [] ++ (flat_map escaped_byte text ++ 34 ∷ [])

-- ---- reading

-- the byte that stands behind a `\`: the end of a line for `l`, and else itself
abbrev pub unescaped_byte : ℕ → ℕ
unescaped_byte b = cond (b == 108) 10 b

-- a byte before the text that is read
abbrev pub before : ℕ → Option (List ℕ × List ℕ) → Option (List ℕ × List ℕ)
before b = option_map (λ p. (b ∷ p.0, p.1))

-- the text up to the closing quote, and what follows it; where a `\` was the last byte, the next one stands behind it
abbrev pub read_text : (behind : Bool) → List ℕ → Option (List ℕ × List ℕ)
read_text behind [] = None
read_text true (b ∷ bs) = before (unescaped_byte b) (read_text false bs)
read_text false (b ∷ bs) = cond (b == 34) (Some ([], bs)) (cond (b == 92) (read_text true bs) (before b (read_text false bs)))

-- the text between quotes, and what follows them
abbrev pub read_quoted : List ℕ → Option (List ℕ × List ℕ)
read_quoted [] = None
read_quoted (b ∷ bs) = cond (b == 34) (read_text false bs) None

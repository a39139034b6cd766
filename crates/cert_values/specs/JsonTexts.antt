-- Texts in JSON.
use Rattle.std.specs.Prelude.{List, None, Option, Some, [], ℕ, ◌∷◌}
use Rattle.serde_json.specs.Data.{Data, Members, member, no_members}
use Rattle.serde_json.specs.Find.{as_str}

-- a text, empty where there is none
abbrev pub text_or_empty : Option (List ℕ) → List ℕ
text_or_empty None = []
text_or_empty (Some s) = s

abbrev pub text_of : Data → List ℕ
text_of d = text_or_empty (as_str d)

-- the texts of members, with their names
abbrev pub named_texts_of : Members → List (List ℕ × List ℕ)
named_texts_of no_members = []
named_texts_of (member k d ms) = (k, text_of d) ∷ named_texts_of ms

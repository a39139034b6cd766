-- The parts of a certificate in its JSON.
use Rattle.std.specs.Prelude.{ℕ, List, [], ◌∷◌, Option, Some, None, option_and_then, codes}
use Rattle.serde_json.specs.Data.{Data, Items, no_items, item, Members, no_members}
use Rattle.serde_json.specs.Find.{get, as_str, as_array, as_object}
use Rattle.cert_values.specs.Shape.{whole_number_in}
use Rattle.cert_json.specs.WrittenJson.{NodeText}
use Rattle.cert_values.specs.JsonTexts.{text_or_empty, text_of, named_texts_of}

abbrev pub texts_of : Items → List (List ℕ)
texts_of no_items = []
texts_of (item d ds) = text_of d ∷ texts_of ds

abbrev pub items_or_none : Option Items → Items
items_or_none None = no_items
items_or_none (Some ds) = ds

abbrev pub members_or_none : Option Members → Members
members_or_none None = no_members
members_or_none (Some ms) = ms

abbrev pub number_or_zero : Option ℕ → ℕ
number_or_zero None = 0
number_or_zero (Some n) = n

-- the text, and the number, that a value has under a name
abbrev pub text_at : List ℕ → Data → List ℕ
text_at key d = text_or_empty (option_and_then as_str (get key d))

abbrev pub json_number : List ℕ → Data → ℕ
json_number key d = number_or_zero (whole_number_in (get key d))

abbrev pub conditions_in : Data → List (List ℕ)
conditions_in d = texts_of (items_or_none (option_and_then as_array (get (codes "conds") d)))

abbrev pub equations_in : Data → List (List ℕ × List ℕ)
equations_in d = named_texts_of (members_or_none (option_and_then as_object (get (codes "equations") d)))

-- a node, with its terms and conditions as texts
abbrev pub node_text_in : Data → NodeText
node_text_in d = record {
  conds = conditions_in d;
  equations = equations_in d;
  left = text_at (codes "left") d;
  mode = text_at (codes "mode") d;
  rank = json_number (codes "rank") d;
  right = text_at (codes "right") d;
}

abbrev pub node_texts : Items → List NodeText
node_texts no_items = []
node_texts (item d ds) = node_text_in d ∷ node_texts ds

-- the nodes of a file, and its format
abbrev pub file_nodes : Data → List NodeText
file_nodes d = node_texts (items_or_none (option_and_then as_array (get (codes "nodes") d)))

abbrev pub file_format : Data → ℕ
file_format d = json_number (codes "format") d

-- The JSON value that a certificate is written as.
use Rattle.std.specs.Prelude.{ℕ, List, [], ◌∷◌, codes}
use Rattle.serde_json.specs.Data.{unsigned, Data, number, string, array, object, Items, no_items, item, Members, no_members}
use Rattle.serde_json.specs.Data.{member}

-- a node of a certificate, with its terms and conditions as texts
pub record NodeText : Type 0 where
  pub conds : List (List ℕ)
  pub equations : List (List ℕ × List ℕ)
  pub left : List ℕ
  pub mode : List ℕ
  pub rank : ℕ
  pub right : List ℕ

abbrev pub texts : List (List ℕ) → Items
texts [] = no_items
texts (s ∷ ss) = item (string s) (texts ss)

abbrev pub named_texts : List (List ℕ × List ℕ) → Members
named_texts [] = no_members
named_texts (e ∷ es) = member e.0 (string e.1) (named_texts es)

abbrev pub node_data : NodeText → Data
node_data n =
    object (member (codes "conds") (array (texts n.conds))
    (member (codes "equations") (object (named_texts n.equations))
    (member (codes "left") (string n.left)
    (member (codes "mode") (string n.mode)
    (member (codes "rank") (number (unsigned n.rank))
    (member (codes "right") (string n.right) no_members))))))

abbrev pub nodes_data : List NodeText → Items
nodes_data [] = no_items
nodes_data (n ∷ ns) = item (node_data n) (nodes_data ns)

-- a file of a format
abbrev pub file_data : ℕ → List NodeText → Data
file_data format ns =
    object (member (codes "format") (number (unsigned format)) (member (codes "nodes") (array (nodes_data ns)) no_members))

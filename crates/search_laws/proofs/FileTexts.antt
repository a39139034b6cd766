-- The JSON of a certificate has its parts again.
use Rattle.std.proofs.Common.{◌≡◌, ℕ, List, [], ◌∷◌, refl, ap, ap₂}
use Rattle.serde_json.proofs.OnLiterals.{serde_json_on_literals}
use Rattle.cert_json.specs.WrittenJson.{NodeText, texts, named_texts, node_data, nodes_data, file_data}
use Rattle.cert_json.specs.JsonTexts.{named_texts_of}
use Rattle.cert_facts.specs.JsonParts.{texts_of, node_text_in, node_texts, file_nodes, file_format}

texts_again : (ss : List (List ℕ)) → texts_of (texts ss) ≡ ss
texts_again [] = refl
texts_again (s ∷ ss) = ap (λ ts. s ∷ ts) (texts_again ss)

named_again : (es : List (List ℕ × List ℕ)) → named_texts_of (named_texts es) ≡ es
named_again [] = refl
named_again (e ∷ es) = ap (λ ds. e ∷ ds) (named_again es)

node_again : (n : NodeText) → node_text_in (node_data n) ≡ n
unfolding serde_json_on_literals
node_again n = λ k. record {
  conds = texts_again n.conds k;
  equations = named_again n.equations k;
  left = n.left;
  mode = n.mode;
  rank = n.rank;
  right = n.right;
}

nodes_again : (ns : List NodeText) → node_texts (nodes_data ns) ≡ ns
nodes_again [] = refl
nodes_again (n ∷ ns) = ap₂ (λ m ms. m ∷ ms) (node_again n) (nodes_again ns)

pub nodes_of_file : (format : ℕ) (ns : List NodeText) → file_nodes (file_data format ns) ≡ ns
unfolding serde_json_on_literals
nodes_of_file format ns = nodes_again ns

pub format_of_file : (format : ℕ) (ns : List NodeText) → file_format (file_data format ns) ≡ format
unfolding serde_json_on_literals
format_of_file format ns = refl

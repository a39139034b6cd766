-- What a certificate is written as has the form of one, and no float; its text reads as it.
use Rattle.std.proofs.Common.{◌≡◌, ℕ, suc, ◌≤◌, Bool, true, false, cond, List, [], ◌∷◌, map, length, Some, IsUtf8, refl, ap, ◌∙◌, arith}
use Rattle.std.specs.Prelude.{nat_le}
use Rattle.std.specs.List.{list_all, list_any, AllByRecursion}
use Rattle.std.proofs.lemmas.Bool.{and_from, le-ltb}
use Rattle.fs_model.proofs.Booleans.{and_first, and_second}
use Rattle.fs_model.proofs.Lists.{length_map}
use Rattle.serde_json.specs.Data.{Data, depth, items_depth, members_depth}
use Rattle.serde_json.specs.Events.{items_len}
use Rattle.serde_json.specs.Read.{read}
use Rattle.serde_json.specs.Written.{has_float, items_have_float, members_have_float, compact_text}
use Rattle.serde_json.proofs.OnLiterals.{serde_json_on_literals}
use Rattle.fs_model.specs.Machines.{Fsmd}
use Rattle.fs_model.specs.Runs.{is_port}
use Rattle.fs_pair.specs.declared.positions.Position.{Position}
use Rattle.fs_pair.specs.Partners.{position_name}
use Rattle.cert_bisimulation.specs.declared.mode.Mode.{Mode}
use Rattle.cert_bisimulation.specs.declared.mode.Mode.TheVariants as mode
use Rattle.cert_bisimulation.specs.Tables.{Node}
use Rattle.sym_facts.specs.Facts.{Fact}
use Rattle.cert_model.specs.Lawful.{IsLawful, points_differ}
use Rattle.cert_json.specs.Shape.{are_texts, name_texts, is_mode_name, is_node, are_nodes, is_format, is_file, has_many_conditions, some_has_many, has_too_many}
use Rattle.cert_json.specs.Refusals.{IsFileOf}
use Rattle.cert_json.specs.WrittenJson.{NodeText, texts, named_texts, node_data, nodes_data, file_data}
use Rattle.cert_writer.specs.WrittenCertificates.{literal_bytes, mode_written, node_written, needed_format, file_written}
use Rattle.cert_model.specs.Kept.{HasNormalFact}

-- ---- no float

texts_no_float : (ss : List (List ℕ)) → items_have_float (texts ss) ≡ false
texts_no_float [] = refl
texts_no_float (s ∷ ss) = texts_no_float ss

named_no_float : (es : List (List ℕ × List ℕ)) → members_have_float (named_texts es) ≡ false
named_no_float [] = refl
named_no_float (e ∷ es) = named_no_float es

node_no_float : (n : NodeText) → has_float (node_data n) ≡ false
node_no_float n = rw (texts_no_float n.conds, named_no_float n.equations) refl

nodes_no_float : (ns : List NodeText) → items_have_float (nodes_data ns) ≡ false
nodes_no_float [] = refl
nodes_no_float (n ∷ ns) = rw (node_no_float n, nodes_no_float ns) refl

pub file_no_float : (format : ℕ) (ns : List NodeText) → has_float (file_data format ns) ≡ false
file_no_float format ns = rw (nodes_no_float ns) refl

-- ---- brackets in brackets

texts_flat : (ss : List (List ℕ)) → items_depth (texts ss) ≡ 0
texts_flat [] = refl
texts_flat (s ∷ ss) = omega (arith, texts_flat ss)

named_flat : (es : List (List ℕ × List ℕ)) → members_depth (named_texts es) ≡ 0
named_flat [] = refl
named_flat (e ∷ es) = omega (arith, named_flat es)

node_flat : (n : NodeText) → depth (node_data n) ≤ 2
node_flat n = omega (arith, texts_flat n.conds, named_flat n.equations)

nodes_flat : (ns : List NodeText) → items_depth (nodes_data ns) ≤ 2
nodes_flat [] = omega arith
nodes_flat (n ∷ ns) = omega (arith, node_flat n, nodes_flat ns)

file_flat : (format : ℕ) (ns : List NodeText) → depth (file_data format ns) ≤ 127
file_flat format ns = omega (arith, nodes_flat ns)

-- ---- the form

texts_shape : (ss : List (List ℕ)) → are_texts (texts ss) ≡ true
texts_shape [] = refl
texts_shape (s ∷ ss) = texts_shape ss

named_shape : (es : List (List ℕ × List ℕ)) → name_texts (named_texts es) ≡ true
named_shape [] = refl
named_shape (e ∷ es) = named_shape es

mode_shape : (m : Mode) → is_mode_name (mode_written m) ≡ true
mode_shape mode.Both = refl
mode_shape mode.Left = refl
mode_shape mode.Right = refl
mode_shape mode.End = refl

node_shape : (n : NodeText) → is_mode_name n.mode ≡ true → nat_le n.rank 4096 ≡ true → is_node (node_data n) ≡ true
unfolding serde_json_on_literals
node_shape n m r = rw (texts_shape n.conds, named_shape n.equations, m, r) refl

nodes_shape : (a b : Fsmd) (ns : List (Node Fact)) → list_all (λ n. nat_le n.rank 4096) ns ≡ true → are_nodes (nodes_data (map (node_written a b) ns)) ≡ true
nodes_shape a b [] h = refl
nodes_shape a b (n ∷ ns) h =
    let rest = list_all (λ (k : Node Fact). nat_le k.rank 4096) ns in
    and_from (is_node (node_data (node_written a b n))) (are_nodes (nodes_data (map (node_written a b) ns)))
    (node_shape (node_written a b n) (mode_shape n.mode) (and_first (nat_le n.rank 4096) rest h)) (nodes_shape a b ns (and_second (nat_le n.rank 4096) rest h))

format_shape : (differ : Bool) (ps : List Position) → is_format (Some (needed_format differ ps)) ≡ true
format_shape true ps = by_ports (list_any (λ p. is_port p.sort) ps)
  where
    by_ports : (t : Bool) → is_format (Some (cond t 2 1)) ≡ true
    by_ports true = refl
    by_ports false = refl
format_shape false ps = refl

file_shape : (a b : Fsmd) (ps : List Position) (ns : List (Node Fact)) → list_all (λ n. nat_le n.rank 4096) ns ≡ true → is_file (file_written a b ps ns) ≡ true
unfolding serde_json_on_literals
file_shape a b ps ns h = rw (format_shape (points_differ ns) ps, nodes_shape a b ns h) refl

-- ---- the limits

texts_len : (ss : List (List ℕ)) → items_len (texts ss) ≡ length ss
texts_len [] = refl
texts_len (s ∷ ss) = ap suc (texts_len ss)

nodes_len : (ns : List NodeText) → items_len (nodes_data ns) ≡ length ns
nodes_len [] = refl
nodes_len (n ∷ ns) = ap suc (nodes_len ns)

node_few : (a b : Fsmd) (n : Node Fact) → HasNormalFact n → has_many_conditions (node_data (node_written a b n)) ≡ false
unfolding serde_json_on_literals
node_few a b n k = let ss = (node_written a b n).conds in
    le-ltb 64 (items_len (texts ss)) (omega (arith, texts_len ss, length_map (literal_bytes (position_name a b)) n.fact.literals, k.fact.few))

nodes_few : (a b : Fsmd) (ns : List (Node Fact)) → AllByRecursion HasNormalFact ns → some_has_many (nodes_data (map (node_written a b) ns)) ≡ false
nodes_few a b [] h = refl
nodes_few a b (n ∷ ns) h = rw (node_few a b n h.0, nodes_few a b ns h.1) refl

file_few : (a b : Fsmd) (ps : List Position) (ns : List (Node Fact)) → length ns ≤ 4096 → AllByRecursion HasNormalFact ns
    → has_too_many (file_written a b ps ns) ≡ false
unfolding serde_json_on_literals
file_few a b ps ns l h = let ds = map (node_written a b) ns in
    rw (le-ltb 4096 (items_len (nodes_data ds)) (omega (arith, nodes_len ds, length_map (node_written a b) ns, l)), nodes_few a b ns h) refl

-- ---- the file

pub text_is : (a b : Fsmd) (ps : List Position) (ns : List (Node Fact)) (bytes : List ℕ) (d : Data) → d ≡ file_written a b ps ns
    → (has_float d ≡ false → bytes ≡ compact_text d) → bytes ≡ compact_text (file_written a b ps ns)
text_is a b ps ns bytes d e text = text (ap has_float e ∙ file_no_float (needed_format (points_differ ns) ps) (map (node_written a b) ns)) ∙ ap compact_text e

pub is_file_of : (a b : Fsmd) (ps : List Position) (ns : List (Node Fact)) → IsLawful a b ns → AllByRecursion HasNormalFact ns → (bytes : List ℕ) (d : Data)
    → d ≡ file_written a b ps ns → IsUtf8 bytes → (depth d ≤ 127 → read bytes ≡ Some d) → IsFileOf bytes (file_written a b ps ns)
is_file_of a b ps ns lawful kept bytes d e utf8 back = record {
  json = record {
    text = utf8;
    value = back (omega (arith, ap depth e, file_flat (needed_format (points_differ ns) ps) (map (node_written a b) ns))) ∙ ap Some e;
  };
  shape = file_shape a b ps ns lawful.ranks;
  few = file_few a b ps ns lawful.few kept;
}

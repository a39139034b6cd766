-- What the form of a certificate says of its numbers.
use Rattle.std.proofs.Common.{◌≡◌, ℕ, ◌≤◌, Bool, true, false, ◌&&◌, Option, Some, None, refl, ap, List, length, arith}
use Rattle.std.specs.Prelude.{option_and_then, codes}
use Rattle.std.proofs.lemmas.Bool.{leb-true, or_parts}
use Rattle.fs_model.proofs.Booleans.{and_first, and_second}
use Rattle.serde_json.specs.Data.{Data, Items}
use Rattle.serde_json.specs.Events.{items_len}
use Rattle.cert_values.specs.View.{items_view}
use Rattle.cert_values.specs.declared.value.Value.{Value}
use Rattle.cert_values.proofs.Views.{items_len-items_view}
use Rattle.serde_json.specs.Find.{get, as_str, as_array, as_object}
use Rattle.cert_values.specs.Shape.{has_members, is_list_of_texts, is_map_of_texts, is_text, is_mode, is_within, whole_number_in, is_node, is_format, are_nodes}
use Rattle.cert_values.specs.Shape.{is_list_of_nodes, is_file, has_more, some_has_many, some_of_file_has_many, has_too_many}
use Rattle.cert_facts.proofs.FewConditions.{at_most}
use Rattle.cert_facts.specs.JsonParts.{number_or_zero, json_number, items_or_none}

low : (o : Option ℕ) → is_within 4096 o ≡ true → number_or_zero o ≤ 4096
low None h = omega arith
low (Some n) h = leb-true n 4096 h

-- the rank of a node is low
pub rank_low : (d : Data) → is_node d ≡ true → json_number (codes "rank") d ≤ 4096
rank_low d h =
    let rank : Bool = is_within 4096 (whole_number_in (get (codes "rank") d)) in
    let right : Bool = is_text (get (codes "right") d) in
    let front : Bool =
    has_members 6 d && is_list_of_texts (option_and_then as_array (get (codes "conds") d))
    && is_map_of_texts (option_and_then as_object (get (codes "equations") d)) && is_text (get (codes "left") d)
    && is_mode (option_and_then as_str (get (codes "mode") d)) in
    low (whole_number_in (get (codes "rank") d)) (and_second front rank (and_first (front && rank) right h))

shaped : (o : Option Items) → is_list_of_nodes o ≡ true → are_nodes (items_or_none o) ≡ true
shaped None h = absurd (cc h)
shaped (Some ds) h = h

few_each : (o : Option Items) → some_of_file_has_many o ≡ false → some_has_many (items_or_none o) ≡ false
few_each None h = refl
few_each (Some ds) h = h

-- the nodes of a file have the form of nodes
pub nodes_shaped : (d : Data) → is_file d ≡ true → are_nodes (items_or_none (option_and_then as_array (get (codes "nodes") d))) ≡ true
nodes_shaped d h =
    let nodes : Option Items = option_and_then as_array (get (codes "nodes") d) in
    shaped nodes (and_second (has_members 2 d && is_format (whole_number_in (get (codes "format") d))) (is_list_of_nodes nodes) h)

-- each has few conditions, and they are few
pub conditions_few : (d : Data) → has_too_many d ≡ false → some_has_many (items_or_none (option_and_then as_array (get (codes "nodes") d))) ≡ false
conditions_few d h =
    let nodes : Option Items = option_and_then as_array (get (codes "nodes") d) in
    few_each nodes (or_parts (has_more 4096 nodes) (some_of_file_has_many nodes) h).1

pub nodes_few : (d : Data) (vs : List Value) → items_view vs ≡ items_or_none (option_and_then as_array (get (codes "nodes") d)) → has_too_many d ≡ false
    → length vs ≤ 4096
nodes_few d vs e h =
    let nodes : Option Items = option_and_then as_array (get (codes "nodes") d) in
    let few : items_len (items_or_none nodes) ≤ 4096 = at_most 4096 nodes (or_parts (has_more 4096 nodes) (some_of_file_has_many nodes) h).0 in
    let many : items_len (items_view vs) ≡ items_len (items_or_none nodes) = ap items_len e in
    omega (arith, few, many, items_len-items_view vs)

-- what is known of the nodes of a file
pub ruleset file_shapes = (nodes_shaped, conditions_few, nodes_few)

-- The form of a certificate as JSON.
use Rattle.std.specs.Prelude.{ℕ, Bool, true, false, ◌&&◌, ◌||◌, ◌==◌, nat_le, nat_lt, List, Option, Some, None, option_and_then}
use Rattle.std.specs.Prelude.{is_some, codes}
use Rattle.std.specs.Str.{bytes_eq}
use Rattle.serde_json.specs.Data.{Data, Items, no_items, item, Members, no_members, member}
use Rattle.serde_json.specs.Events.{members_len, items_len}
use Rattle.serde_json.specs.Find.{get, as_number, as_str, as_array, as_object, as_u64}

abbrev pub member_count_of : Option Members → ℕ
member_count_of None = 0
member_count_of (Some ms) = members_len ms

-- whether a value is an object of so many members, or no object and so many are none
abbrev pub has_members : ℕ → Data → Bool
has_members n d = member_count_of (as_object d) == n

abbrev pub is_text : Option Data → Bool
is_text o = is_some (option_and_then as_str o)

-- whether each item is a string
abbrev pub are_texts : Items → Bool
are_texts no_items = true
are_texts (item d ds) = is_some (as_str d) && are_texts ds

-- whether each member is a string
abbrev pub name_texts : Members → Bool
name_texts no_members = true
name_texts (member k d ms) = is_some (as_str d) && name_texts ms

abbrev pub is_list_of_texts : Option Items → Bool
is_list_of_texts None = false
is_list_of_texts (Some ds) = are_texts ds

abbrev pub is_map_of_texts : Option Members → Bool
is_map_of_texts None = false
is_map_of_texts (Some ms) = name_texts ms

abbrev pub is_mode_name : List ℕ → Bool
is_mode_name s = bytes_eq s (codes "both") || bytes_eq s (codes "left") || bytes_eq s (codes "right") || bytes_eq s (codes "end")

abbrev pub is_mode : Option (List ℕ) → Bool
is_mode None = false
is_mode (Some s) = is_mode_name s

-- a whole number up to a limit
abbrev pub is_within : ℕ → Option ℕ → Bool
is_within limit None = false
is_within limit (Some n) = nat_le n limit

abbrev pub whole_number_in : Option Data → Option ℕ
whole_number_in o = option_and_then as_u64 (option_and_then as_number o)

-- a node has these members and no others
abbrev pub is_node : Data → Bool
is_node d =
    has_members 6 d
    && is_list_of_texts (option_and_then as_array (get (codes "conds") d))
    && is_map_of_texts (option_and_then as_object (get (codes "equations") d))
    && is_text (get (codes "left") d)
    && is_mode (option_and_then as_str (get (codes "mode") d))
    && is_within 4096 (whole_number_in (get (codes "rank") d))
    && is_text (get (codes "right") d)

abbrev pub are_nodes : Items → Bool
are_nodes no_items = true
are_nodes (item d ds) = is_node d && are_nodes ds

abbrev pub is_list_of_nodes : Option Items → Bool
is_list_of_nodes None = false
is_list_of_nodes (Some ds) = are_nodes ds

-- the number of a format
abbrev pub is_format : Option ℕ → Bool
is_format None = false
is_format (Some n) = n == 1 || n == 2 || n == 4

-- a file has these two members and no others
abbrev pub is_file : Data → Bool
is_file d = has_members 2 d && is_format (whole_number_in (get (codes "format") d))
    && is_list_of_nodes (option_and_then as_array (get (codes "nodes") d))

-- whether there are more items than this
abbrev pub has_more : ℕ → Option Items → Bool
has_more limit None = false
has_more limit (Some ds) = nat_lt limit (items_len ds)

-- whether a node has more than 64 conditions
abbrev pub has_many_conditions : Data → Bool
has_many_conditions d = has_more 64 (option_and_then as_array (get (codes "conds") d))

abbrev pub some_has_many : Items → Bool
some_has_many no_items = false
some_has_many (item d ds) = has_many_conditions d || some_has_many ds

abbrev pub some_of_file_has_many : Option Items → Bool
some_of_file_has_many None = false
some_of_file_has_many (Some ds) = some_has_many ds

-- whether a file has more than 4,096 nodes, or a node with more than 64 conditions
abbrev pub has_too_many : Data → Bool
has_too_many d =
    has_more 4096 (option_and_then as_array (get (codes "nodes") d))
    || some_of_file_has_many (option_and_then as_array (get (codes "nodes") d))

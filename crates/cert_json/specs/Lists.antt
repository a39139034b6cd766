-- Lists of values that grow at their end.
use Rattle.std.specs.Prelude.{◌≡◌, ℕ, Bool, true, false, ◌&&◌, ◌||◌, nat_lt, if◌then◌else◌}
use Rattle.serde_json.specs.Data.{Data, null, array, Items, no_items, item}
use Rattle.serde_json.specs.Events.{items_len}
use Rattle.cert_values.specs.View.{items_view}
use Rattle.cert_values.specs.Shape.{are_texts, are_nodes}
use Rattle.cert_json.specs.Trim.{short_items}
use Rattle.cert_json.specs.declared.short_list.ShortList.{ShortList}

-- items with further ones behind them
abbrev pub join_items : Items → Items → Items
join_items no_items rest = rest
join_items (item d ds) rest = item d (join_items ds rest)

abbrev pub add_item : Items → Data → Items
add_item ds d = join_items ds (item d no_items)

-- one item more, where there are fewer than so many
abbrev pub add_below : ℕ → Items → Data → Items
add_below most ds d = if nat_lt (items_len ds) most then add_item ds d else ds

-- how many items are kept of a list, which may be one of texts or one of nodes
abbrev pub most_items : Bool → Bool → ℕ
most_items true nodes = 65
most_items false true = 4097
most_items false false = 0

-- the items that are left of those that were kept
abbrev pub kept_items : Bool → Bool → Items → Items
kept_items true nodes ds = ds
kept_items false true ds = ds
kept_items false false ds = no_items

-- what is kept of these items
pub record IsShort (ds : Items) (l : ShortList) : Type 0 where
  pub texts : l.all_texts ≡ are_texts ds
  pub nodes : l.all_nodes ≡ are_nodes ds
  pub items : items_view l.items.items ≡ short_items ds

-- what becomes of a list of which what follows changes nothing, but whether all are texts
abbrev pub final_list : ShortList → Bool → Data
final_list l texts = if l.all_texts && texts then array (items_view l.items.items) else null

-- the list of what is kept, or null where it is neither one of texts nor one of nodes
abbrev pub list_of : ShortList → Data
list_of l = if l.all_texts || l.all_nodes then array (items_view l.items.items) else null

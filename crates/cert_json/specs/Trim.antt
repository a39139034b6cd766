-- A value without what no certificate has in a list or an object.
use Rattle.std.specs.Prelude.{ℕ, zero, suc, Bool, true, false, ◌||◌, nat_lt, if◌then◌else◌}
use Rattle.serde_json.specs.Data.{Data, null, boolean, number, string, array, object, Items, no_items, item, Members, no_members}
use Rattle.serde_json.specs.Data.{member}
use Rattle.serde_json.specs.Events.{members_len}
use Rattle.cert_values.specs.Shape.{are_texts, are_nodes, name_texts}
use Rattle.cert_json.specs.declared.level.Level.{Level}
use Rattle.cert_json.specs.declared.level.Level.TheVariants.{File, FileMember, Node, NodeMember, Deeper}

-- the first items, up to a number
abbrev pub first_items : ℕ → Items → Items
first_items zero ds = no_items
first_items (suc n) no_items = no_items
first_items (suc n) (item d ds) = item d (first_items n ds)

-- of texts one more than a node may have of conditions, of nodes one more than a file may have, and nothing of other items
abbrev pub short_items : Items → Items
short_items ds = if are_texts ds then first_items 65 ds else (if are_nodes ds then first_items 4097 ds else no_items)

-- a list of texts or of nodes, cut short, and null in place of another
abbrev pub short_list : Items → Data
short_list ds = if are_texts ds || are_nodes ds then array (short_items ds) else null

-- the level of what stands in a value
abbrev pub below : Level → Level
below File = FileMember
below FileMember = Node
below Node = NodeMember
below NodeMember = Deeper
below Deeper = Deeper

-- whether no object of a certificate has so many names at this level: a file has 2, a node has 6, and the equations of a
-- node, which are a member of it, may be written with any number
abbrev pub exceeds : Level → ℕ → Bool
exceeds File n = nat_lt 2 n
exceeds FileMember n = nat_lt 0 n
exceeds Node n = nat_lt 6 n
exceeds NodeMember n = false
exceeds Deeper n = nat_lt 0 n

-- whether the first names of an object at this level are kept: of the equations of a node
abbrev pub keeps_first : Level → Bool
keeps_first File = false
keeps_first FileMember = false
keeps_first Node = false
keeps_first NodeMember = true
keeps_first Deeper = false

-- the first members, up to a number
abbrev pub first_members : ℕ → Members → Members
first_members zero ms = no_members
first_members (suc n) no_members = no_members
first_members (suc n) (member k d ms) = member k d (first_members n ms)

-- one name more than two machines have positions
abbrev pub first_names : Members → Members
first_names ms = first_members 385 ms

-- equations, cut short, and null in place of members that are not all texts
abbrev pub short_equations : Members → Data
short_equations ms = if name_texts ms then object (first_names ms) else null

-- an object, and null in place of one that has more names than any of a certificate has at its level
abbrev pub short_object : Level → Members → Data
short_object v ms = if keeps_first v then short_equations ms else (if exceeds v (members_len ms) then null else object ms)

abbrev mutual
  pub trim : Level → Data → Data
  trim v null = null
  trim v (boolean b) = boolean b
  trim v (number n) = number n
  trim v (string s) = string s
  trim v (array ds) = short_list (trim_items (below v) ds)
  trim v (object ms) = short_object v (trim_members (below v) ms)

  pub trim_items : Level → Items → Items
  trim_items v no_items = no_items
  trim_items v (item d ds) = item (trim v d) (trim_items v ds)

  pub trim_members : Level → Members → Members
  trim_members v no_members = no_members
  trim_members v (member k d ms) = member k (trim v d) (trim_members v ms)

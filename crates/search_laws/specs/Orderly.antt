-- Values that their text has again.
use Rattle.std.specs.Prelude.{◌≡◌, ℕ, ◌<◌, ◌^◌, List, IsUtf8}
use Rattle.std.specs.declared.cmp.Ordering.TheVariants.{Less}
use Rattle.std.specs.Ordering.{nat_cmp}
use Rattle.std.specs.Cmp.Lexicographic.{slice_cmp}
use Rattle.serde_json.specs.Data.{Num, unsigned, negative, float, Data, null, boolean, number, string, array, object, Items}
use Rattle.serde_json.specs.Data.{no_items, item, Members, no_members, member}

-- a key stands before each key of members, in byte order
abbrev pub IsBefore : List ℕ → Members → Type 0
IsBefore k no_members = Unit {0}
IsBefore k (member l d ms) = (slice_cmp nat_cmp k l ≡ Less) × IsBefore k ms

-- each key stands before those that follow
abbrev pub KeysRise : Members → Type 0
KeysRise no_members = Unit {0}
KeysRise (member k d ms) = IsBefore k ms × KeysRise ms

-- a number without a sign, of 64 bits
abbrev pub IsCount : Num → Type 0
IsCount (unsigned n) = n < 2 ^ 64
IsCount (negative z) = ⊥
IsCount (float x) = ⊥

-- texts are UTF-8, numbers are without a sign and of 64 bits, and the keys of each object rise
abbrev mutual
  pub IsOrderly : Data → Type 0
  IsOrderly null = Unit {0}
  IsOrderly (boolean b) = Unit {0}
  IsOrderly (number n) = IsCount n
  IsOrderly (string s) = IsUtf8 s
  IsOrderly (array ds) = AreOrderly ds
  IsOrderly (object ms) = KeysRise ms × MembersAreOrderly ms

  pub AreOrderly : Items → Type 0
  AreOrderly no_items = Unit {0}
  AreOrderly (item d ds) = IsOrderly d × AreOrderly ds

  pub MembersAreOrderly : Members → Type 0
  MembersAreOrderly no_members = Unit {0}
  MembersAreOrderly (member k d ms) = IsUtf8 k × IsOrderly d × MembersAreOrderly ms

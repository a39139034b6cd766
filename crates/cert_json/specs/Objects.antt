-- Objects whose names get more, and what is kept of them.
use Rattle.std.specs.Prelude.{◌≡◌, ℕ, Bool, true, false, not, List, [], if◌then◌else◌, Option, Some, None, is_some}
use Rattle.std.specs.Borrow.{Bor}
use Rattle.std.specs.Cmp.Lexicographic.{slice_cmp}
use Rattle.std.specs.List.{list_any}
use Rattle.std.specs.BTreeMap.{is_at}
use Rattle.std.specs.Ordering.{nat_cmp}
use Rattle.std.specs.declared.cmp.Ordering.TheVariants.{Less}
use Rattle.serde_json.specs.Data.{Data, null, object, Members, no_members, member}
use Rattle.serde_json.specs.Find.{get_member, as_str}
use Rattle.cert_values.specs.View.{members_view}
use Rattle.cert_json.specs.Trim.{keeps_first, first_names}
use Rattle.cert_json.specs.declared.level.Level.{Level}
use Rattle.cert_json.specs.declared.short_object.ShortObject.{ShortObject}

-- each name comes behind this one
abbrev pub AreBehind : List ℕ → Members → Type 0
AreBehind k no_members = Unit {0}
AreBehind k (member l d ms) = (slice_cmp nat_cmp k l ≡ Less) × AreBehind k ms

-- the names ascend
abbrev pub AreAscending : Members → Type 0
AreAscending no_members = Unit {0}
AreAscending (member k d ms) = AreBehind k ms × AreAscending ms

-- whether there is a value, and it is no text
abbrev pub is_no_text : Option Data → Bool
is_no_text None = false
is_no_text (Some d) = not (is_some (as_str d))

-- whether a name is among others
abbrev pub is_noted : List ℕ → List (Bor (List ℕ)) → Bool
is_noted q ks = list_any (is_at (λ k. slice_cmp nat_cmp q k.now)) ks

-- of the names that are noted the last value is no text, and of no other name, where none was left out
pub record TellsOthers (ms : Members) (noted : List (Bor (List ℕ))) (is_partial : Bool) : Type 0 where
  pub agree : (q : List ℕ) → is_noted q noted ≡ true → is_no_text (get_member q ms) ≡ true
  pub rest : is_partial ≡ false → (q : List ℕ) → is_noted q noted ≡ false → is_no_text (get_member q ms) ≡ false

-- what is kept of these members at a level: where the first names are kept, these, and of which the values are no texts
pub record IsShortObject (v : Level) (ms : Members) (o : ShortObject) : Type 0 where
  pub whole : keeps_first v ≡ false → members_view o.members.entries ≡ ms
  pub first : first_names (members_view o.members.entries) ≡ first_names ms
  pub others : keeps_first v ≡ true → TellsOthers ms o.others.keys o.is_partial
  pub ascending : AreAscending ms

-- nothing is kept yet
pub record IsEmpty (o : ShortObject) : Type 0 where
  pub short : (v : Level) → IsShortObject v no_members o
  pub none : o.members.entries ≡ []
  pub whole : o.is_partial ≡ false

-- the object of what is kept, or null
abbrev pub object_of : ShortObject → Bool → Data
object_of o is_null = if is_null then null else object (members_view o.members.entries)

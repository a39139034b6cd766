-- The names of each object that was read ascend.
use Rattle.std.proofs.Common.{◌≡◌, ℕ, List, Option, Some, None, option_map, Ordering, Less, Equal, Greater, nat_cmp, subst}
use Rattle.std.specs.Prelude.{option_and_then, IfSome}
use Rattle.std.specs.Cmp.Lexicographic.{slice_cmp}
use Rattle.std.specs.Ordering.{match_ordering}
use Rattle.json.specs.Json as json
use Rattle.json.specs.Lex.{tokens}
use Rattle.serde_json.specs.Data.{Num, Data, null, boolean, number, string, array, object, Items, no_items, item, Members, no_members, member, put}
use Rattle.serde_json.specs.Find.{get_member, as_array, as_object}
use Rattle.serde_json.specs.Read.{number_of, of_json, of_items, of_members, max_depth, read}
use Rattle.cert_json.specs.Objects.{AreAscending}
use Rattle.cert_json.proofs.FirstNames.{ascending_put}

abbrev mutual
  pub IsOrdered : Data → Type 0
  IsOrdered null = Unit {0}
  IsOrdered (boolean b) = Unit {0}
  IsOrdered (number n) = Unit {0}
  IsOrdered (string s) = Unit {0}
  IsOrdered (array ds) = AreOrdered ds
  IsOrdered (object ms) = AreAscending ms × HaveOrdered ms

  pub AreOrdered : Items → Type 0
  AreOrdered no_items = Unit {0}
  AreOrdered (item d ds) = IsOrdered d × AreOrdered ds

  pub HaveOrdered : Members → Type 0
  HaveOrdered no_members = Unit {0}
  HaveOrdered (member k d ms) = IsOrdered d × HaveOrdered ms

-- ---- values that are made

have_put_at : (k l : List ℕ) (d e : Data) (ms : Members) (o : Ordering) → IsOrdered d → IsOrdered e → HaveOrdered ms → HaveOrdered (put k d ms)
    → HaveOrdered (match_ordering o (member k d (member l e ms)) (member l d ms) (member l e (put k d ms)))
have_put_at k l d e ms Less h i is more = (h, (i, is))
have_put_at k l d e ms Equal h i is more = (h, is)
have_put_at k l d e ms Greater h i is more = (i, more)

have_put : (k : List ℕ) (d : Data) (ms : Members) → IsOrdered d → HaveOrdered ms → HaveOrdered (put k d ms)
have_put k d no_members h is = (h, tt)
have_put k d (member l e ms) h is = have_put_at k l d e ms (slice_cmp nat_cmp k l) h is.0 is.1 (have_put k d ms h is.1)

abbrev AreMade : Members → Type 0
AreMade ms = AreAscending ms × HaveOrdered ms

number_made : (o : Option Num) → IfSome (option_map number o) IsOrdered
number_made None = tt
number_made (Some n) = tt

array_made : (o : Option Items) → IfSome o AreOrdered → IfSome (option_map array o) IsOrdered
array_made None h = tt
array_made (Some ds) h = h

object_made : (o : Option Members) → IfSome o AreMade → IfSome (option_map object o) IsOrdered
object_made None h = tt
object_made (Some ms) h = h

item_made : (o : Option Data) (p : Option Items) → IfSome o IsOrdered → IfSome p AreOrdered
    → IfSome (option_and_then (λ d. option_map (item d) p) o) AreOrdered
item_made None p h i = tt
item_made (Some d) None h i = tt
item_made (Some d) (Some ds) h i = (h, i)

member_made : (o : Option Data) (next : Data → Option Members) → IfSome o IsOrdered → ((d : Data) → IsOrdered d → IfSome (next d) AreMade)
    → IfSome (option_and_then next o) AreMade
member_made None next h more = tt
member_made (Some d) next h more = more d h

mutual
  json_made : (j : json.Json) → IfSome (of_json j) IsOrdered
  json_made json.null = tt
  json_made (json.boolean b) = tt
  json_made (json.number s) = number_made (number_of s)
  json_made (json.string s) = tt
  json_made (json.array js) = array_made (of_items js) (items_made js)
  json_made (json.object ms) = object_made (of_members ms no_members) (members_made ms no_members tt tt)

  items_made : (js : json.Items) → IfSome (of_items js) AreOrdered
  items_made json.no_items = tt
  items_made (json.item j js) = item_made (of_json j) (of_items js) (json_made j) (items_made js)

  members_made : (ms : json.Members) (found : Members) → AreAscending found → HaveOrdered found → IfSome (of_members ms found) AreMade
  members_made json.no_members found up have = (up, have)
  members_made (json.member k j ms) found up have =
      member_made (of_json j) (λ d. of_members ms (put k d found)) (json_made j)
      (λ d h. members_made ms (put k d found) (ascending_put k d found up) (have_put k d found h have))

whole_made : (o : Option json.Json) → IfSome (option_and_then of_json o) IsOrdered
whole_made None = tt
whole_made (Some j) = json_made j

pub read_ordered : (text : List ℕ) (d : Data) → read text ≡ Some d → IsOrdered d
read_ordered text d is = subst (λ o. IfSome o IsOrdered) is
    (whole_made (option_and_then (λ p. json.if_last p.0 p.1) (json.value max_depth (tokens text))))

-- ---- their parts

got_at : (o : Ordering) (a : Option Data) (d : Data) → IfSome a IsOrdered → IsOrdered d → IfSome (match_ordering o a (Some d) a) IsOrdered
got_at Less a d h i = h
got_at Equal a d h i = i
got_at Greater a d h i = h

pub got_ordered : (k : List ℕ) (ms : Members) → HaveOrdered ms → IfSome (get_member k ms) IsOrdered
got_ordered k no_members h = tt
got_ordered k (member l d ms) h = got_at (slice_cmp nat_cmp k l) (get_member k ms) d (got_ordered k ms h.1) h.0

pub items_ordered : (o : Option Data) → IfSome o IsOrdered → IfSome (option_and_then as_array o) AreOrdered
items_ordered None h = tt
items_ordered (Some null) h = tt
items_ordered (Some (boolean b)) h = tt
items_ordered (Some (number n)) h = tt
items_ordered (Some (string s)) h = tt
items_ordered (Some (array ds)) h = h
items_ordered (Some (object ms)) h = tt

pub names_ascend : (o : Option Data) → IfSome o IsOrdered → IfSome (option_and_then as_object o) AreAscending
names_ascend None h = tt
names_ascend (Some null) h = tt
names_ascend (Some (boolean b)) h = tt
names_ascend (Some (number n)) h = tt
names_ascend (Some (string s)) h = tt
names_ascend (Some (array ds)) h = tt
names_ascend (Some (object ms)) h = h.0

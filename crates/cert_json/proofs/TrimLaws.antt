-- A trimmed value has the form of a certificate, or too many nodes or conditions, where the value has.
use Rattle.std.proofs.Common.{◌≡◌, ℕ, zero, suc, ◌≤◌, List, Bool, true, false, ◌&&◌, ◌||◌, ◌==◌, nat_lt, Option, Some, None, option_map, Ordering, Less, Equal}
use Rattle.std.proofs.Common.{Greater, nat_cmp, refl, sym, ap, ap₂, ◌∙◌, arith}
use Rattle.std.specs.Prelude.{option_and_then, is_some, codes, if◌then◌else◌}
use Rattle.std.specs.Cmp.Lexicographic.{slice_cmp}
use Rattle.std.specs.Ordering.{match_ordering}
use Rattle.std.proofs.lemmas.Bool.{and_parts, ltb-true, ltb-false, lt-ltb, le-ltb, eqb-true, ne_eqb, false≢true}
use Rattle.serde_json.specs.Data.{Num, Data, null, boolean, number, string, array, object, Items, no_items, item, Members, no_members, member}
use Rattle.serde_json.specs.Events.{items_len, members_len}
use Rattle.serde_json.specs.Find.{get_member, as_number, as_str, as_array, as_object, as_u64}
use Rattle.cert_values.specs.Shape.{has_members, are_texts, name_texts, is_list_of_texts, is_map_of_texts, is_mode, is_within, whole_number_in}
use Rattle.cert_values.specs.Shape.{is_node, are_nodes, is_list_of_nodes, is_format, is_file, has_more, has_many_conditions}
use Rattle.cert_values.specs.Shape.{some_has_many, some_of_file_has_many}
use Rattle.cert_values.specs.Shape.{has_too_many}
use Rattle.cert_json.specs.Trim.{first_items, short_items, short_list, below, exceeds, keeps_first, first_names, short_equations, short_object, trim}
use Rattle.cert_json.specs.Trim.{trim_items, trim_members}
use Rattle.cert_json.specs.declared.level.Level.{Level}
use Rattle.cert_json.specs.declared.level.Level.TheVariants.{File, FileMember, Node, NodeMember, Deeper}
use Rattle.cert_json.proofs.FirstNames.{texts_first}

-- ---- what a list or an object never is

not_text : (b : Bool) (ds : Items) → as_str (if b then array ds else null) ≡ None
not_text true ds = refl
not_text false ds = refl

not_number : (b : Bool) (ds : Items) → as_number (if b then array ds else null) ≡ None
not_number true ds = refl
not_number false ds = refl

not_object : (b : Bool) (ds : Items) → as_object (if b then array ds else null) ≡ None
not_object true ds = refl
not_object false ds = refl

not_node : (b : Bool) (ds : Items) → is_node (if b then array ds else null) ≡ false
not_node true ds = refl
not_node false ds = refl

not_file : (b : Bool) (ds : Items) → is_file (if b then array ds else null) ≡ false
not_file true ds = refl
not_file false ds = refl

equations_no_text : (b : Bool) (ms : Members) → as_str (if b then object ms else null) ≡ None
equations_no_text true ms = refl
equations_no_text false ms = refl

equations_no_number : (b : Bool) (ms : Members) → as_number (if b then object ms else null) ≡ None
equations_no_number true ms = refl
equations_no_number false ms = refl

equations_no_list : (b : Bool) (ms : Members) → as_array (if b then object ms else null) ≡ None
equations_no_list true ms = refl
equations_no_list false ms = refl

object_no_text : (first b : Bool) (d : Data) (ms : Members) → as_str d ≡ None → as_str (if first then d else (if b then null else object ms)) ≡ None
object_no_text true b d ms e = e
object_no_text false true d ms e = refl
object_no_text false false d ms e = refl

object_no_number : (first b : Bool) (d : Data) (ms : Members) → as_number d ≡ None → as_number (if first then d else (if b then null else object ms)) ≡ None
object_no_number true b d ms e = e
object_no_number false true d ms e = refl
object_no_number false false d ms e = refl

object_no_list : (b : Bool) (ms : Members) → as_array (if b then null else object ms) ≡ None
object_no_list true ms = refl
object_no_list false ms = refl

-- ---- an object that is kept, and one that has a name too many

if_false : (b : Bool) (ms : Members) → b ≡ false → (if b then null else object ms) ≡ object ms
if_false true ms e = absurd (false≢true (sym e))
if_false false ms e = refl

if_true : (b : Bool) (ms : Members) → b ≡ true → (if b then null else object ms) ≡ null
if_true true ms e = refl
if_true false ms e = absurd (false≢true e)

pub few_names : (v : Level) (ms : Members) → keeps_first v ≡ false → exceeds v (members_len ms) ≡ false → short_object v ms ≡ object ms
few_names v ms all e = rw all (if_false (exceeds v (members_len ms)) ms e)

pub many_names : (v : Level) (ms : Members) → keeps_first v ≡ false → exceeds v (members_len ms) ≡ true → short_object v ms ≡ null
many_names v ms all e = rw all (if_true (exceeds v (members_len ms)) ms e)

-- ---- texts, numbers and members stay

pub trim-text : (v : Level) (d : Data) → as_str (trim v d) ≡ as_str d
trim-text v null = refl
trim-text v (boolean b) = refl
trim-text v (number n) = refl
trim-text v (string s) = refl
trim-text v (array ds) = let es = trim_items (below v) ds in not_text (are_texts es || are_nodes es) (short_items es)
trim-text v (object ms) =
    let ns = trim_members (below v) ms in
    object_no_text (keeps_first v) (exceeds v (members_len ns)) (short_equations ns) ns (equations_no_text (name_texts ns) (first_names ns))

trim-number : (v : Level) (d : Data) → as_number (trim v d) ≡ as_number d
trim-number v null = refl
trim-number v (boolean b) = refl
trim-number v (number n) = refl
trim-number v (string s) = refl
trim-number v (array ds) = let es = trim_items (below v) ds in not_number (are_texts es || are_nodes es) (short_items es)
trim-number v (object ms) =
    let ns = trim_members (below v) ms in
    object_no_number (keeps_first v) (exceeds v (members_len ns)) (short_equations ns) ns (equations_no_number (name_texts ns) (first_names ns))

pub trim-members_len : (v : Level) (ms : Members) → members_len (trim_members v ms) ≡ members_len ms
trim-members_len v no_members = refl
trim-members_len v (member k d ms) = ap (λ n. suc n) (trim-members_len v ms)

module _ (v : Level) where
  chosen : (o : Ordering) (a : Option Data) (d : Data)
      → match_ordering o (option_map (trim v) a) (Some (trim v d)) (option_map (trim v) a) ≡ option_map (trim v) (match_ordering o a (Some d) a)
  chosen Less a d = refl
  chosen Equal a d = refl
  chosen Greater a d = refl

  pub trim-get_member : (k : List ℕ) (ms : Members) → get_member k (trim_members v ms) ≡ option_map (trim v) (get_member k ms)
  trim-get_member k no_members = refl
  trim-get_member k (member l d ms) = ap (λ a. match_ordering (slice_cmp nat_cmp k l) a (Some (trim v d)) a) (trim-get_member k ms)
      ∙ chosen (slice_cmp nat_cmp k l) (get_member k ms) d

  pub text_under : (o : Option Data) → option_and_then as_str (option_map (trim v) o) ≡ option_and_then as_str o
  text_under None = refl
  text_under (Some d) = trim-text v d

  pub number_under : (o : Option Data) → option_and_then as_number (option_map (trim v) o) ≡ option_and_then as_number o
  number_under None = refl
  number_under (Some d) = trim-number v d

-- ---- first items

pub first_all : (n : ℕ) (ds : Items) → items_len ds ≤ n → first_items n ds ≡ ds
first_all zero no_items le = refl
first_all zero (item d ds) le = absurd (omega arith)
first_all (suc n) no_items le = refl
first_all (suc n) (item d ds) le = ap (item d) (first_all n ds (omega arith))

pub first_len : (n : ℕ) (ds : Items) → n ≤ items_len ds → items_len (first_items n ds) ≡ n
first_len zero ds le = refl
first_len (suc n) no_items le = absurd (omega arith)
first_len (suc n) (item d ds) le = ap (λ k. suc k) (first_len n ds (omega arith))

more_at : (n : ℕ) (ds : Items) (b : Bool) → nat_lt n (items_len ds) ≡ b → nat_lt n (items_len (first_items (suc n) ds)) ≡ nat_lt n (items_len ds)
more_at n ds true e =
    let long : suc n ≤ items_len ds = omega (arith, ltb-true n (items_len ds) e) in
    ap (λ k. nat_lt n k) (first_len (suc n) ds long) ∙ lt-ltb n (suc n) (omega arith) ∙ sym e
more_at n ds false e = ap (λ es. nat_lt n (items_len es)) (first_all (suc n) ds (omega (arith, ltb-false n (items_len ds) e)))

more : (n : ℕ) (ds : Items) → nat_lt n (items_len (first_items (suc n) ds)) ≡ nat_lt n (items_len ds)
more n ds = more_at n ds (nat_lt n (items_len ds)) refl

pub trim-items_len : (v : Level) (ds : Items) → items_len (trim_items v ds) ≡ items_len ds
trim-items_len v no_items = refl
trim-items_len v (item d ds) = ap (λ n. suc n) (trim-items_len v ds)

first_texts : (n : ℕ) (ds : Items) → are_texts ds ≡ true → are_texts (first_items n ds) ≡ true
first_texts zero ds e = refl
first_texts (suc n) no_items e = refl
first_texts (suc n) (item d ds) e = let p = and_parts (is_some (as_str d)) (are_texts ds) e in rw (p.0, first_texts n ds p.1)

first_nodes : (n : ℕ) (ds : Items) → are_nodes ds ≡ true → are_nodes (first_items n ds) ≡ true
first_nodes zero ds e = refl
first_nodes (suc n) no_items e = refl
first_nodes (suc n) (item d ds) e = let p = and_parts (is_node d) (are_nodes ds) e in rw (p.0, first_nodes n ds p.1)

-- ---- no value is both a text and a node

pub node_no_text : (d : Data) → is_node d ≡ true → as_str d ≡ None
node_no_text null e = refl
node_no_text (boolean b) e = refl
node_no_text (number n) e = refl
node_no_text (string s) e = absurd (cc e)
node_no_text (array ds) e = refl
node_no_text (object ms) e = refl

pub text_no_node : (d : Data) → is_some (as_str d) ≡ true → is_node d ≡ false
text_no_node null e = refl
text_no_node (boolean b) e = refl
text_no_node (number n) e = refl
text_no_node (string s) e = refl
text_no_node (array ds) e = refl
text_no_node (object ms) e = absurd (cc e)

nodes_no_texts : (n : ℕ) (ds : Items) → are_texts ds ≡ false → are_nodes ds ≡ true → are_texts (first_items (suc n) ds) ≡ false
nodes_no_texts n no_items e f = e
nodes_no_texts n (item d ds) e f = let p = and_parts (is_node d) (are_nodes ds) f in rw (node_no_text d p.0)

texts_no_nodes : (n : ℕ) (ds : Items) → are_texts ds ≡ true → are_nodes (first_items (suc n) ds) ≡ are_nodes ds
texts_no_nodes n no_items e = refl
texts_no_nodes n (item d ds) e = let p = and_parts (is_some (as_str d)) (are_texts ds) e in rw (text_no_node d p.0)

-- ---- lists

short_texts : (ds : Items) (t n : Bool) → are_texts ds ≡ t → are_nodes ds ≡ n → is_list_of_texts (as_array (short_list ds)) ≡ t
short_texts ds true n e f = rw e (first_texts 65 ds e)
short_texts ds false true e f = rw (e, f) (nodes_no_texts 4096 ds e f)
short_texts ds false false e f = rw (e, f)

short_nodes : (ds : Items) (t n : Bool) → are_texts ds ≡ t → are_nodes ds ≡ n → is_list_of_nodes (as_array (short_list ds)) ≡ n
short_nodes ds true n e f = rw e (texts_no_nodes 64 ds e ∙ f)
short_nodes ds false true e f = rw (e, f) (first_nodes 4097 ds f)
short_nodes ds false false e f = rw (e, f)

pub trim-are_texts : (v : Level) (ds : Items) → are_texts (trim_items v ds) ≡ are_texts ds
trim-are_texts v no_items = refl
trim-are_texts v (item d ds) = ap₂ (λ (s : Option (List ℕ)) (b : Bool). is_some s && b) (trim-text v d) (trim-are_texts v ds)

texts_under : (o : Option Data) → is_list_of_texts (option_and_then as_array (option_map (trim NodeMember) o)) ≡ is_list_of_texts (option_and_then as_array o)
texts_under None = refl
texts_under (Some null) = refl
texts_under (Some (boolean b)) = refl
texts_under (Some (number n)) = refl
texts_under (Some (string s)) = refl
texts_under (Some (array ds)) =
    let es = trim_items Deeper ds in short_texts es (are_texts es) (are_nodes es) refl refl ∙ trim-are_texts Deeper ds
texts_under (Some (object ms)) = let ns = trim_members Deeper ms in ap is_list_of_texts (equations_no_list (name_texts ns) (first_names ns))

pub trim-name_texts : (v : Level) (ms : Members) → name_texts (trim_members v ms) ≡ name_texts ms
trim-name_texts v no_members = refl
trim-name_texts v (member k d ms) = ap₂ (λ (s : Option (List ℕ)) (b : Bool). is_some s && b) (trim-text v d) (trim-name_texts v ms)

short_names : (ms : Members) (b : Bool) → name_texts ms ≡ b → is_map_of_texts (as_object (short_equations ms)) ≡ b
short_names ms true e = rw e (texts_first 385 ms e)
short_names ms false e = rw e

names_under : (o : Option Data) → is_map_of_texts (option_and_then as_object (option_map (trim NodeMember) o)) ≡ is_map_of_texts (option_and_then as_object o)
names_under None = refl
names_under (Some null) = refl
names_under (Some (boolean b)) = refl
names_under (Some (number n)) = refl
names_under (Some (string s)) = refl
names_under (Some (array ds)) =
    let es = trim_items Deeper ds in ap is_map_of_texts (not_object (are_texts es || are_nodes es) (short_items es))
names_under (Some (object ms)) = let ns = trim_members Deeper ms in short_names ns (name_texts ns) refl ∙ trim-name_texts Deeper ms

-- ---- objects

-- a test that null does not pass, nor an object with one name too many
object_if : (test : Data → Bool) (b : Bool) (ms ns : Members) → test null ≡ false → test (object ns) ≡ test (object ms)
    → (b ≡ true → test (object ms) ≡ false)
    → test (if b then null else object ns) ≡ test (object ms)
object_if test true ms ns none same many = none ∙ sym (many refl)
object_if test false ms ns none same many = same

not_so_many : (n limit : ℕ) → nat_lt limit n ≡ true → (n == limit) ≡ false
not_so_many n limit e = ne_eqb n limit (λ z. omega (arith, z, ltb-true limit n e))

-- ---- nodes

abbrev node_by : ℕ → Bool → Bool → Option (List ℕ) → Option (List ℕ) → Option Num → Option (List ℕ) → Bool
node_by n conds equations left mode rank right =
    n == 6 && conds && equations && is_some left && is_mode mode && is_within 4096 (option_and_then as_u64 rank) && is_some right

module _ (ms : Members) (k : List ℕ) where
  trim-texts_at : is_list_of_texts (option_and_then as_array (get_member k (trim_members NodeMember ms)))
      ≡ is_list_of_texts (option_and_then as_array (get_member k ms))
  trim-texts_at = ap (λ o. is_list_of_texts (option_and_then as_array o)) (trim-get_member NodeMember k ms) ∙ texts_under (get_member k ms)

  trim-names_at : is_map_of_texts (option_and_then as_object (get_member k (trim_members NodeMember ms)))
      ≡ is_map_of_texts (option_and_then as_object (get_member k ms))
  trim-names_at = ap (λ o. is_map_of_texts (option_and_then as_object o)) (trim-get_member NodeMember k ms) ∙ names_under (get_member k ms)

  trim-text_at : option_and_then as_str (get_member k (trim_members NodeMember ms)) ≡ option_and_then as_str (get_member k ms)
  trim-text_at = ap (option_and_then as_str) (trim-get_member NodeMember k ms) ∙ text_under NodeMember (get_member k ms)

  trim-number_at : (v : Level) → option_and_then as_number (get_member k (trim_members v ms)) ≡ option_and_then as_number (get_member k ms)
  trim-number_at v = ap (option_and_then as_number) (trim-get_member v k ms) ∙ number_under v (get_member k ms)

same_node : (n m : ℕ) (a b : Bool) (e f : Bool) (k l : Option (List ℕ)) (o p : Option (List ℕ)) (r s : Option Num) (u v : Option (List ℕ)) → n ≡ m → a ≡ b
    → e ≡ f → k ≡ l → o ≡ p → r ≡ s → u ≡ v
    → node_by n a e k o r u ≡ node_by m b f l p s v
same_node n m a b e f k l o p r s u v h0 h1 h2 h3 h4 h5 h6 = rw (h0, h1, h2, h3, h4, h5, h6)

node_members : (ms : Members) → is_node (object (trim_members NodeMember ms)) ≡ is_node (object ms)
node_members ms =
    same_node _ _ _ _ _ _ _ _ _ _ _ _ _ _ (trim-members_len NodeMember ms) (trim-texts_at ms (codes "conds")) (trim-names_at ms (codes "equations"))
    (trim-text_at ms (codes "left"))
    (trim-text_at ms (codes "mode"))
    (trim-number_at ms (codes "rank") NodeMember) (trim-text_at ms (codes "right"))

many_no_node : (ms : Members) → exceeds Node (members_len (trim_members NodeMember ms)) ≡ true → is_node (object ms) ≡ false
many_no_node ms e =
    let apart : (members_len ms == 6) ≡ false = not_so_many (members_len ms) 6 (ap (λ n. nat_lt 6 n) (sym (trim-members_len NodeMember ms)) ∙ e) in
    rw apart

pub trim-is_node : (d : Data) → is_node (trim Node d) ≡ is_node d
trim-is_node null = refl
trim-is_node (boolean b) = refl
trim-is_node (number n) = refl
trim-is_node (string s) = refl
trim-is_node (array ds) = let es = trim_items NodeMember ds in not_node (are_texts es || are_nodes es) (short_items es)
trim-is_node (object ms) =
    let ns = trim_members NodeMember ms in
    object_if is_node (exceeds Node (members_len ns)) ms ns refl (node_members ms) (many_no_node ms)

pub trim-are_nodes : (ds : Items) → are_nodes (trim_items Node ds) ≡ are_nodes ds
trim-are_nodes no_items = refl
trim-are_nodes (item d ds) = ap₂ (λ a b. a && b) (trim-is_node d) (trim-are_nodes ds)

nodes_under : (o : Option Data) → is_list_of_nodes (option_and_then as_array (option_map (trim FileMember) o)) ≡ is_list_of_nodes (option_and_then as_array o)
nodes_under None = refl
nodes_under (Some null) = refl
nodes_under (Some (boolean b)) = refl
nodes_under (Some (number n)) = refl
nodes_under (Some (string s)) = refl
nodes_under (Some (array ds)) = let es = trim_items Node ds in short_nodes es (are_texts es) (are_nodes es) refl refl ∙ trim-are_nodes ds
nodes_under (Some (object ms)) = let ns = trim_members Node ms in ap is_list_of_nodes (object_no_list (exceeds FileMember (members_len ns)) ns)

-- ---- files

abbrev file_by : ℕ → Option Num → Bool → Bool
file_by n format nodes = n == 2 && is_format (option_and_then as_u64 format) && nodes

same_file : (n m : ℕ) (r s : Option Num) (a b : Bool) → n ≡ m → r ≡ s → a ≡ b → file_by n r a ≡ file_by m s b
same_file n m r s a b h0 h1 h2 = rw (h0, h1, h2)

file_members : (ms : Members) → is_file (object (trim_members FileMember ms)) ≡ is_file (object ms)
file_members ms =
    same_file _ _ _ _ _ _ (trim-members_len FileMember ms) (trim-number_at ms (codes "format") FileMember)
    (ap (λ o. is_list_of_nodes (option_and_then as_array o)) (trim-get_member FileMember (codes "nodes") ms) ∙ nodes_under (get_member (codes "nodes") ms))

many_no_file : (ms : Members) → exceeds File (members_len (trim_members FileMember ms)) ≡ true → is_file (object ms) ≡ false
many_no_file ms e =
    let apart : (members_len ms == 2) ≡ false = not_so_many (members_len ms) 2 (ap (λ n. nat_lt 2 n) (sym (trim-members_len FileMember ms)) ∙ e) in
    rw apart

pub trim-is_file : (d : Data) → is_file (trim File d) ≡ is_file d
trim-is_file null = refl
trim-is_file (boolean b) = refl
trim-is_file (number n) = refl
trim-is_file (string s) = refl
trim-is_file (array ds) = let es = trim_items FileMember ds in not_file (are_texts es || are_nodes es) (short_items es)
trim-is_file (object ms) =
    let ns = trim_members FileMember ms in
    object_if is_file (exceeds File (members_len ns)) ms ns refl (file_members ms) (many_no_file ms)

-- ---- a node and a file have few names

names_of_node : (a b c d e f g : Bool) → (a && b && c && d && e && f && g) ≡ true → a ≡ true
names_of_node true b c d e f g h = refl
names_of_node false b c d e f g h = absurd (cc h)

few_in_node : (ms : Members) → is_node (object ms) ≡ true → exceeds Node (members_len ms) ≡ false
few_in_node ms e =
    let six : members_len ms ≡ 6 = eqb-true (members_len ms) 6 (names_of_node _ _ _ _ _ _ _ e) in
    le-ltb 6 (members_len ms) (omega (arith, six))

names_of_file : (a b c : Bool) → (a && b && c) ≡ true → a ≡ true
names_of_file true b c h = refl
names_of_file false b c h = absurd (cc h)

few_in_file : (ms : Members) → is_file (object ms) ≡ true → exceeds File (members_len ms) ≡ false
few_in_file ms e =
    let two : members_len ms ≡ 2 = eqb-true (members_len ms) 2 (names_of_file _ _ _ e) in
    le-ltb 2 (members_len ms) (omega (arith, two))

-- the names of a node or of a file stay
pub kept_node : (ms : Members) → is_node (object ms) ≡ true → trim Node (object ms) ≡ object (trim_members NodeMember ms)
kept_node ms e = few_names Node (trim_members NodeMember ms) refl (ap (exceeds Node) (trim-members_len NodeMember ms) ∙ few_in_node ms e)

pub kept_file : (ms : Members) → is_file (object ms) ≡ true → trim File (object ms) ≡ object (trim_members FileMember ms)
kept_file ms e = few_names File (trim_members FileMember ms) refl (ap (exceeds File) (trim-members_len FileMember ms) ∙ few_in_file ms e)

-- ---- too many nodes or conditions

short_more : (ds : Items) → are_texts ds ≡ true → has_more 64 (as_array (short_list ds)) ≡ nat_lt 64 (items_len ds)
short_more ds e = rw e (more 64 ds)

conds_under : (o : Option Data) → is_list_of_texts (option_and_then as_array o) ≡ true
    → has_more 64 (option_and_then as_array (option_map (trim NodeMember) o)) ≡ has_more 64 (option_and_then as_array o)
conds_under None e = refl
conds_under (Some null) e = refl
conds_under (Some (boolean b)) e = refl
conds_under (Some (number n)) e = refl
conds_under (Some (string s)) e = refl
conds_under (Some (array ds)) e =
    short_more (trim_items Deeper ds) (trim-are_texts Deeper ds ∙ e) ∙ ap (λ n. nat_lt 64 n) (trim-items_len Deeper ds)
conds_under (Some (object ms)) e = absurd (false≢true e)

conds_of : (a b c d e f g : Bool) → (a && b && c && d && e && f && g) ≡ true → b ≡ true
conds_of a true c d e f g h = refl
conds_of true false c d e f g h = absurd (cc h)
conds_of false false c d e f g h = absurd (cc h)

trim-conditions : (d : Data) → is_node d ≡ true → has_many_conditions (trim Node d) ≡ has_many_conditions d
trim-conditions null e = refl
trim-conditions (boolean b) e = refl
trim-conditions (number n) e = refl
trim-conditions (string s) e = refl
trim-conditions (array ds) e = absurd (false≢true e)
trim-conditions (object ms) e =
    let conds : Option Data = get_member (codes "conds") ms in
    let texts : is_list_of_texts (option_and_then as_array conds) ≡ true = conds_of _ _ _ _ _ _ _ e in
    ap has_many_conditions (kept_node ms e)
    ∙ ap (λ o. has_more 64 (option_and_then as_array o)) (trim-get_member NodeMember (codes "conds") ms) ∙ conds_under conds texts

trim-some_has_many : (ds : Items) → are_nodes ds ≡ true → some_has_many (trim_items Node ds) ≡ some_has_many ds
trim-some_has_many no_items e = refl
trim-some_has_many (item d ds) e =
    let p = and_parts (is_node d) (are_nodes ds) e in
    ap₂ (λ a b. a || b) (trim-conditions d p.0) (trim-some_has_many ds p.1)

abbrev too_many : Items → Bool
too_many ds = nat_lt 4096 (items_len ds) || some_has_many ds

first_too_many : (ds : Items) (b : Bool) → nat_lt 4096 (items_len ds) ≡ b → too_many (first_items 4097 ds) ≡ too_many ds
first_too_many ds true e = rw (more 4096 ds, e)
first_too_many ds false e = ap too_many (first_all 4097 ds (omega (arith, ltb-false 4096 (items_len ds) e)))

abbrev too_many_in : Option Items → Bool
too_many_in o = has_more 4096 o || some_of_file_has_many o

short_too_many : (ds : Items) (b : Bool) → are_texts ds ≡ b → are_nodes ds ≡ true → too_many_in (as_array (short_list ds)) ≡ too_many ds
short_too_many no_items b e f = refl
short_too_many (item d ds) b e f =
    let p = and_parts (is_node d) (are_nodes ds) f in
    let apart : are_texts (item d ds) ≡ false = rw (node_no_text d p.0) in
    rw (apart, f) (first_too_many (item d ds) (nat_lt 4096 (items_len (item d ds))) refl)

too_many_under : (o : Option Data) → is_list_of_nodes (option_and_then as_array o) ≡ true
    → too_many_in (option_and_then as_array (option_map (trim FileMember) o)) ≡ too_many_in (option_and_then as_array o)
too_many_under None e = refl
too_many_under (Some null) e = refl
too_many_under (Some (boolean b)) e = refl
too_many_under (Some (number n)) e = refl
too_many_under (Some (string s)) e = refl
too_many_under (Some (array ds)) e =
    short_too_many (trim_items Node ds) (are_texts (trim_items Node ds)) refl (trim-are_nodes ds ∙ e)
    ∙ ap₂ (λ n b. nat_lt 4096 n || b) (trim-items_len Node ds) (trim-some_has_many ds e)
too_many_under (Some (object ms)) e = absurd (false≢true e)

pub trim-has_too_many : (d : Data) → is_file d ≡ true → has_too_many (trim File d) ≡ has_too_many d
trim-has_too_many null e = refl
trim-has_too_many (boolean b) e = refl
trim-has_too_many (number n) e = refl
trim-has_too_many (string s) e = refl
trim-has_too_many (array ds) e = absurd (false≢true e)
trim-has_too_many (object ms) e =
    let nodes : Option Data = get_member (codes "nodes") ms in
    let p = and_parts (has_members 2 (object ms) && is_format (whole_number_in (get_member (codes "format") ms)))
    (is_list_of_nodes (option_and_then as_array nodes)) e in
    ap has_too_many (kept_file ms e)
    ∙ ap (λ o. too_many_in (option_and_then as_array o)) (trim-get_member FileMember (codes "nodes") ms) ∙ too_many_under nodes p.1

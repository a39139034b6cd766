-- Lists of values that grow at their end, and what is kept of them.
use Rattle.std.proofs.Common.{◌≡◌, ℕ, zero, suc, ◌<◌, ◌≤◌, List, [], ◌∷◌, ◌++◌, length, Bool, true, false, ◌&&◌, ◌||◌, nat_lt, Option, Some, None}
use Rattle.std.proofs.Common.{refl, sym, ap, ap₂, ◌∙◌, subst, arith}
use Rattle.std.specs.Prelude.{is_some, if◌then◌else◌}
use Rattle.std.proofs.lemmas.Bool.{and_parts, ltb-true, ltb-false, lt-ltb, le-ltb, false≢true}
use Rattle.base_laws.proofs.Booleans.{and_true}
use Rattle.json.specs.Token.{Token}
use Rattle.json.specs.Json.{parse_map}
use Rattle.serde_json.specs.Data.{Data, null, array, Items, no_items, item}
use Rattle.serde_json.specs.Events.{items_len}
use Rattle.serde_json.specs.Find.{as_str}
use Rattle.cert_values.specs.View.{view, items_view}
use Rattle.cert_values.specs.declared.value.Value.{Value}
use Rattle.cert_values.proofs.Views.{items_len-items_view}
use Rattle.cert_values.specs.Shape.{are_texts, is_node, are_nodes}
use Rattle.cert_json.specs.Trim.{first_items, short_items, short_list, trim, trim_items}
use Rattle.cert_json.specs.declared.level.Level.{Level}
use Rattle.cert_json.specs.Lists.{join_items, add_item, add_below, most_items, kept_items, IsShort, final_list, list_of}
use Rattle.cert_json.specs.declared.short_list.ShortList.{ShortList}
use Rattle.cert_json.proofs.TrimLaws.{node_no_text, text_no_node}

-- ---- lists that grow

pub join-no_items : (ds : Items) → join_items ds no_items ≡ ds
join-no_items no_items = refl
join-no_items (item d ds) = ap (item d) (join-no_items ds)

join-add_item : (ds : Items) (d : Data) (rest : Items) → join_items ds (item d rest) ≡ join_items (add_item ds d) rest
join-add_item no_items d rest = refl
join-add_item (item e ds) d rest = ap (item e) (join-add_item ds d rest)

pub none_before : (r : Option (Items × List Token)) → r ≡ parse_map (join_items no_items) r
none_before None = refl
none_before (Some p) = refl

pub one_more_item : (ds : Items) (d : Data) (r : Option (Items × List Token))
    → parse_map (join_items ds) (parse_map (item d) r) ≡ parse_map (join_items (add_item ds d)) r
one_more_item ds d None = refl
one_more_item ds d (Some p) = ap (λ es. Some (es, p.1)) (join-add_item ds d p.0)

pub items_view-push : (vs : List Value) (v : Value) → items_view (vs ++ v ∷ []) ≡ add_item (items_view vs) (view v)
items_view-push [] v = refl
items_view-push (w ∷ vs) v = ap (item (view w)) (items_view-push vs v)

pub trim-add_item : (v : Level) (ds : Items) (d : Data) → trim_items v (add_item ds d) ≡ add_item (trim_items v ds) (trim v d)
trim-add_item v no_items d = refl
trim-add_item v (item e ds) d = ap (item (trim v e)) (trim-add_item v ds d)

-- ---- texts and nodes behind others

and_swap : (a b c : Bool) → (a && (b && c)) ≡ ((a && b) && c)
and_swap true b c = refl
and_swap false b c = refl

are_texts-add_item : (ds : Items) (d : Data) → are_texts (add_item ds d) ≡ (are_texts ds && is_some (as_str d))
are_texts-add_item no_items d = and_true (is_some (as_str d))
are_texts-add_item (item e ds) d = ap (λ b. is_some (as_str e) && b) (are_texts-add_item ds d)
    ∙ and_swap (is_some (as_str e)) (are_texts ds) (is_some (as_str d))

are_nodes-add_item : (ds : Items) (d : Data) → are_nodes (add_item ds d) ≡ (are_nodes ds && is_node d)
are_nodes-add_item no_items d = and_true (is_node d)
are_nodes-add_item (item e ds) d = ap (λ b. is_node e && b) (are_nodes-add_item ds d) ∙ and_swap (is_node e) (are_nodes ds) (is_node d)

-- ---- the first items of a list that grows

below_next : (n : ℕ) (e : Data) (ds : Items) (d : Data) (b : Bool) → nat_lt (items_len ds) n ≡ b → item e (add_below n ds d) ≡ add_below (suc n) (item e ds) d
below_next n e ds d true h = let more : nat_lt (items_len (item e ds)) (suc n) ≡ true =
    lt-ltb (items_len (item e ds)) (suc n) (omega (arith, ltb-true (items_len ds) n h)) in rw (h, more)
below_next n e ds d false h = let more : nat_lt (items_len (item e ds)) (suc n) ≡ false =
    le-ltb (items_len (item e ds)) (suc n) (omega (arith, ltb-false (items_len ds) n h)) in rw (h, more)

none_first : (n : ℕ) → first_items n no_items ≡ no_items
none_first zero = refl
none_first (suc n) = refl

first-add_item : (n : ℕ) (ds : Items) (d : Data) → first_items n (add_item ds d) ≡ add_below n (first_items n ds) d
first-add_item zero ds d = refl
first-add_item (suc n) no_items d = let some : nat_lt 0 (suc n) ≡ true = lt-ltb 0 (suc n) (omega arith) in rw some (ap (item d) (none_first n))
first-add_item (suc n) (item e ds) d = ap (item e) (first-add_item n ds d) ∙ below_next n e (first_items n ds) d (nat_lt (items_len (first_items n ds)) n) refl

pub none_are : (ds : Items) → are_texts ds ≡ true → are_nodes ds ≡ true → ds ≡ no_items
none_are no_items e f = refl
none_are (item d ds) e f =
    let text = and_parts (is_some (as_str d)) (are_texts ds) e in
    let node = and_parts (is_node d) (are_nodes ds) f in
    absurd (false≢true (ap is_some (sym (node_no_text d node.0)) ∙ text.0))

-- what is kept of one item more
kept_texts : (ds : Items) (d : Data) → are_texts ds ≡ true → are_texts (add_item ds d) ≡ true → add_below 65 (short_items ds) d ≡ short_items (add_item ds d)
kept_texts ds d e f = rw (e, f) (sym (first-add_item 65 ds d))

kept_nodes : (ds : Items) (d : Data) (b : Bool) → are_texts ds ≡ b → are_texts (add_item ds d) ≡ false → are_nodes ds ≡ true → are_nodes (add_item ds d) ≡ true
    → add_below 4097 (short_items ds) d ≡ short_items (add_item ds d)
kept_nodes ds d false e f g h = rw (e, f, g, h) (sym (first-add_item 4097 ds d))
kept_nodes ds d true e f g h = let none = none_are ds e g in rw (f, h, none) (sym (first-add_item 4097 no_items d))

kept_at : (ds : Items) (d : Data) (texts nodes : Bool) → are_texts (add_item ds d) ≡ texts → are_nodes (add_item ds d) ≡ nodes
    → add_below (most_items texts nodes) (kept_items texts nodes (short_items ds)) d ≡ short_items (add_item ds d)
kept_at ds d true nodes e f = kept_texts ds d (and_parts (are_texts ds) (is_some (as_str d)) (sym (are_texts-add_item ds d) ∙ e)).0 e
kept_at ds d false true e f = kept_nodes ds d (are_texts ds) refl e (and_parts (are_nodes ds) (is_node d) (sym (are_nodes-add_item ds d) ∙ f)).0 f
kept_at ds d false false e f = rw (e, f)

pub texts_on : (ds : Items) (d : Data) (old new : Bool) → old ≡ are_texts ds → new ≡ (old && is_some (as_str d)) → new ≡ are_texts (add_item ds d)
texts_on ds d old new e f = f ∙ ap (λ b. b && is_some (as_str d)) e ∙ sym (are_texts-add_item ds d)

pub nodes_on : (ds : Items) (d : Data) (old new : Bool) → old ≡ are_nodes ds → new ≡ (old && is_node d) → new ≡ are_nodes (add_item ds d)
nodes_on ds d old new e f = f ∙ ap (λ b. b && is_node d) e ∙ sym (are_nodes-add_item ds d)

-- what is kept where an item is added
pub kept_below : (ds : Items) (d : Data) (texts nodes : Bool) (most : ℕ) (before room after : Items) → texts ≡ are_texts (add_item ds d)
    → nodes ≡ are_nodes (add_item ds d)
    → most ≡ most_items texts nodes → before ≡ short_items ds → room ≡ kept_items texts nodes before
    → after ≡ add_below most room d → after ≡ short_items (add_item ds d)
kept_below ds d texts nodes most before room after e f limit is left more =
    more ∙ ap₂ (λ n es. add_below n es d) limit (left ∙ ap (kept_items texts nodes) is)
    ∙ kept_at ds d texts nodes (sym e) (sym f)

-- ---- a value behind others

pub more_below : (vs : List Value) (v : Value) (most : ℕ) → length vs < most → items_view (vs ++ v ∷ []) ≡ add_below most (items_view vs) (view v)
more_below vs v most h = items_view-push vs v ∙ rw (lt-ltb (items_len (items_view vs)) most (omega (arith, items_len-items_view vs, h)))

pub none_below : (vs : List Value) (v : Value) (most : ℕ) → most ≤ length vs → items_view vs ≡ add_below most (items_view vs) (view v)
none_below vs v most h = rw (le-ltb (items_len (items_view vs)) most (omega (arith, items_len-items_view vs, h)))

-- ---- the list of what is kept

pub list_kept : (ds : Items) (l : ShortList) → IsShort ds l → list_of l ≡ short_list ds
list_kept ds l h = rw (h.texts, h.nodes, h.items) refl

settled_at : (a b : Bool) (es : Items) → b ≡ false → (if a || b then array es else null) ≡ (if a then array es else null)
settled_at true b es e = refl
settled_at false true es e = absurd (false≢true (sym e))
settled_at false false es e = refl

pub settled_list : (old new : ShortList) (texts : Bool) → new.all_texts ≡ (old.all_texts && texts) → new.all_nodes ≡ false → new.items ≡ old.items
    → list_of new ≡ final_list old texts
settled_list old new texts e none same =
    let es : Items = items_view old.items.items in
    let kept : items_view new.items.items ≡ es = ap (λ v. items_view v.items) same in
    ap (λ (k : Items). if new.all_texts || new.all_nodes then array k else null) kept
    ∙ settled_at new.all_texts new.all_nodes es none
    ∙ ap (λ (b : Bool). if b then array es else null) e

-- ---- a list of which nothing is kept, and whatever follows

pub trim-join_items : (v : Level) (ds rest : Items) → trim_items v (join_items ds rest) ≡ join_items (trim_items v ds) (trim_items v rest)
trim-join_items v no_items rest = refl
trim-join_items v (item d ds) rest = ap (item (trim v d)) (trim-join_items v ds rest)

still_false : (a b c : Bool) → (b ≡ false → c ≡ false) → (a && b) ≡ false → (a && c) ≡ false
still_false true b c f e = f e
still_false false b c f e = refl

no_texts : (ds rest : Items) → are_texts ds ≡ false → are_texts (join_items ds rest) ≡ false
no_texts no_items rest e = absurd (false≢true (sym e))
no_texts (item d ds) rest e = still_false (is_some (as_str d)) (are_texts ds) (are_texts (join_items ds rest)) (no_texts ds rest) e

no_nodes : (ds rest : Items) → are_nodes ds ≡ false → are_nodes (join_items ds rest) ≡ false
no_nodes no_items rest e = absurd (false≢true (sym e))
no_nodes (item d ds) rest e = still_false (is_node d) (are_nodes ds) (are_nodes (join_items ds rest)) (no_nodes ds rest) e

null_joined : (ds rest : Items) (texts nodes : Bool) → texts ≡ are_texts ds → nodes ≡ are_nodes ds → (texts || nodes) ≡ false
    → null ≡ short_list (join_items ds rest)
null_joined ds rest true nodes e f none = absurd (cc none)
null_joined ds rest false true e f none = absurd (cc none)
null_joined ds rest false false e f none = rw (no_texts ds rest (sym e), no_nodes ds rest (sym f))

pub settled_none : (ds rest : Items) (l : ShortList) → IsShort ds l → l.all_texts ≡ false → l.all_nodes ≡ false
    → final_list l (are_texts rest) ≡ short_list (join_items ds rest)
settled_none ds rest l h t n = rw t (null_joined ds rest l.all_texts l.all_nodes h.texts h.nodes (rw (t, n) refl))

-- ---- a list of as many texts as are kept, and whatever follows

join-are_texts : (ds rest : Items) → are_texts ds ≡ true → are_texts (join_items ds rest) ≡ are_texts rest
join-are_texts no_items rest e = refl
join-are_texts (item d ds) rest e = let p = and_parts (is_some (as_str d)) (are_texts ds) e in rw (p.0) (join-are_texts ds rest p.1)

first-join_items : (n : ℕ) (ds rest : Items) → n ≤ items_len ds → first_items n (join_items ds rest) ≡ first_items n ds
first-join_items zero ds rest le = refl
first-join_items (suc n) no_items rest le = absurd (omega (arith, le))
first-join_items (suc n) (item d ds) rest le = ap (item d) (first-join_items n ds rest (omega (arith, le)))

texts_no_nodes_behind : (ds rest : Items) → are_texts ds ≡ true → 0 < items_len ds → are_nodes (join_items ds rest) ≡ false
texts_no_nodes_behind no_items rest e some = absurd (omega (arith, some))
texts_no_nodes_behind (item d ds) rest e some = let p = and_parts (is_some (as_str d)) (are_texts ds) e in rw (text_no_node d p.0)

first_at_most : (n : ℕ) (ds : Items) → items_len (first_items n ds) ≤ items_len ds
first_at_most zero ds = omega arith
first_at_most (suc n) no_items = omega arith
first_at_most (suc n) (item d ds) = let less = first_at_most n ds in omega (arith, less)

full_at : (ds rest : Items) (b : Bool) → are_texts rest ≡ b → are_texts ds ≡ true → 65 ≤ items_len ds
    → (if b then array (first_items 65 ds) else null) ≡ short_list (join_items ds rest)
full_at ds rest true e texts long = let all : are_texts (join_items ds rest) ≡ true = join-are_texts ds rest texts ∙ e in
    rw all (ap array (sym (first-join_items 65 ds rest long)))
full_at ds rest false e texts long =
    let some : are_texts (join_items ds rest) ≡ false = join-are_texts ds rest texts ∙ e in
    rw (some, texts_no_nodes_behind ds rest texts (omega (arith, long)))

pub settled_full : (ds rest : Items) (l : ShortList) → IsShort ds l → l.all_texts ≡ true → 65 ≤ length l.items.items
    → final_list l (are_texts rest) ≡ short_list (join_items ds rest)
settled_full ds rest l h t long =
    let texts : are_texts ds ≡ true = sym h.texts ∙ t in
    let kept : items_view l.items.items ≡ first_items 65 ds = h.items ∙ rw texts refl in
    let many : 65 ≤ items_len (first_items 65 ds) = subst (λ es. 65 ≤ items_len es) kept (omega (arith, items_len-items_view l.items.items, long)) in
    rw t (ap (λ es. if are_texts rest then array es else null) kept ∙ full_at ds rest (are_texts rest) refl texts (omega (arith, many, first_at_most 65 ds)))

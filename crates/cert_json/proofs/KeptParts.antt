-- What stays of the parts of a file that has the form of a certificate and is within the limits.
use Rattle.std.proofs.Common.{◌≡◌, Bool, true, false, nat_lt, Option, Some, None, option_map, refl, ap, ◌∙◌, arith}
use Rattle.std.specs.Prelude.{option_and_then}
use Rattle.std.proofs.lemmas.Bool.{ltb-false, false≢true}
use Rattle.serde_json.specs.Data.{Data, null, boolean, number, string, array, object, Items, no_items, item, Members, no_members, member}
use Rattle.serde_json.specs.Events.{items_len}
use Rattle.serde_json.specs.Find.{as_array, as_object}
use Rattle.cert_values.specs.Shape.{are_texts, name_texts, is_list_of_texts, is_map_of_texts, are_nodes, is_list_of_nodes, has_more}
use Rattle.cert_json.specs.Trim.{first_names, short_equations, short_list, trim, trim_items, trim_members}
use Rattle.cert_json.specs.declared.level.Level.{Level}
use Rattle.cert_json.specs.declared.level.Level.TheVariants.{FileMember, Node, NodeMember, Deeper}
use Rattle.cert_json.proofs.TrimLaws.{first_all, trim-are_nodes, trim-items_len}
use Rattle.cert_json.proofs.ListLaws.{none_are}

texts_same : (v : Level) (ds : Items) → are_texts ds ≡ true → trim_items v ds ≡ ds
texts_same v no_items e = refl
texts_same v (item (string s) ds) e = ap (item (string s)) (texts_same v ds e)
texts_same v (item null ds) e = absurd (false≢true e)
texts_same v (item (boolean b) ds) e = absurd (false≢true e)
texts_same v (item (number n) ds) e = absurd (false≢true e)
texts_same v (item (array es) ds) e = absurd (false≢true e)
texts_same v (item (object ms) ds) e = absurd (false≢true e)

names_same : (v : Level) (ms : Members) → name_texts ms ≡ true → trim_members v ms ≡ ms
names_same v no_members e = refl
names_same v (member k (string s) ms) e = ap (member k (string s)) (names_same v ms e)
names_same v (member k null ms) e = absurd (false≢true e)
names_same v (member k (boolean b) ms) e = absurd (false≢true e)
names_same v (member k (number n) ms) e = absurd (false≢true e)
names_same v (member k (array es) ms) e = absurd (false≢true e)
names_same v (member k (object es) ms) e = absurd (false≢true e)

few_texts : (ds : Items) → are_texts ds ≡ true → nat_lt 64 (items_len ds) ≡ false → short_list ds ≡ array ds
few_texts ds e few = rw e (ap array (first_all 65 ds (omega (arith, ltb-false 64 (items_len ds) few))))

few_nodes : (ds : Items) (b : Bool) → are_texts ds ≡ b → are_nodes ds ≡ true → nat_lt 4096 (items_len ds) ≡ false → short_list ds ≡ array ds
few_nodes ds false e f few = rw (e, f) (ap array (first_all 4097 ds (omega (arith, ltb-false 4096 (items_len ds) few))))
few_nodes ds true e f few = let none = none_are ds e f in rw none refl

-- few conditions stay
pub conds_kept : (o : Option Data) → is_list_of_texts (option_and_then as_array o) ≡ true → has_more 64 (option_and_then as_array o) ≡ false
    → option_and_then as_array (option_map (trim NodeMember) o) ≡ option_and_then as_array o
conds_kept None e few = absurd (false≢true e)
conds_kept (Some null) e few = absurd (false≢true e)
conds_kept (Some (boolean b)) e few = absurd (false≢true e)
conds_kept (Some (number n)) e few = absurd (false≢true e)
conds_kept (Some (string s)) e few = absurd (false≢true e)
conds_kept (Some (array ds)) e few = ap as_array (ap short_list (texts_same Deeper ds e) ∙ few_texts ds e few)
conds_kept (Some (object ms)) e few = absurd (false≢true e)

short_names : (ms : Members) → name_texts ms ≡ true → as_object (short_equations ms) ≡ Some (first_names ms)
short_names ms e = rw e

-- of equations the first stay
pub equations_kept : (o : Option Data) → is_map_of_texts (option_and_then as_object o) ≡ true
    → option_and_then as_object (option_map (trim NodeMember) o) ≡ option_map first_names (option_and_then as_object o)
equations_kept None e = absurd (false≢true e)
equations_kept (Some null) e = absurd (false≢true e)
equations_kept (Some (boolean b)) e = absurd (false≢true e)
equations_kept (Some (number n)) e = absurd (false≢true e)
equations_kept (Some (string s)) e = absurd (false≢true e)
equations_kept (Some (array ds)) e = absurd (false≢true e)
equations_kept (Some (object ms)) e = ap (λ ns. as_object (short_equations ns)) (names_same Deeper ms e) ∙ short_names ms e

-- of few nodes each stays, without what it has too many
pub nodes_kept : (o : Option Data) → is_list_of_nodes (option_and_then as_array o) ≡ true → has_more 4096 (option_and_then as_array o) ≡ false
    → option_and_then as_array (option_map (trim FileMember) o) ≡ option_map (trim_items Node) (option_and_then as_array o)
nodes_kept None e few = absurd (false≢true e)
nodes_kept (Some null) e few = absurd (false≢true e)
nodes_kept (Some (boolean b)) e few = absurd (false≢true e)
nodes_kept (Some (number n)) e few = absurd (false≢true e)
nodes_kept (Some (string s)) e few = absurd (false≢true e)
nodes_kept (Some (array ds)) e few =
    let es = trim_items Node ds in
    ap as_array (few_nodes es (are_texts es) refl (trim-are_nodes ds ∙ e) (ap (λ n. nat_lt 4096 n) (trim-items_len Node ds) ∙ few))
nodes_kept (Some (object ms)) e few = absurd (false≢true e)

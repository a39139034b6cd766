-- A file comes to the same where of the equations of each node the first are kept.
use Rattle.std.proofs.Common.{◌≡◌, ℕ, zero, suc, ◌+◌, ◌≤◌, List, [], ◌∷◌, ◌++◌, length, take, true, false, ◌&&◌, Option, Some, None, option_map, Ok, Err}
use Rattle.std.proofs.Common.{refl, sym, ap, ap₂, ◌∙◌, subst, arith}
use Rattle.std.specs.Prelude.{map, Result, option_and_then, codes, IfSome}
use Rattle.std.specs.List.{IsDistinct, AllByRecursion}
use Rattle.std.specs.Ordering.{is_eq}
use Rattle.std.specs.Str.{bytes_eq}
use Rattle.std.proofs.lemmas.Bool.{and_parts, false≢true, or_parts}
use Rattle.std.proofs.lemmas.Map.Keys.{IsDistinct-cons}
use Rattle.std.proofs.lemmas.Map.Text.{is_eq-slice_cmp}
use Rattle.serde_json.specs.Data.{Data, null, boolean, number, string, array, object, Items, no_items, item, Members, no_members, member}
use Rattle.serde_json.specs.Find.{get_member, as_str, as_array, as_object, as_u64}
use Rattle.fs_model.specs.Machines.{Fsmd}
use Rattle.fs_pair.specs.declared.positions.Position.{Position}
use Rattle.fs_pair.specs.Paired.{IsPairing}
use Rattle.fs_pair.specs.Positions.{positions}
use Rattle.cert_bisimulation.specs.Tables.{Node}
use Rattle.sym_facts.specs.Facts.{Fact}
use Rattle.sym_facts.proofs.Kept.{few_positions}
use Rattle.nf_terms.specs.declared.form.Nf.{Nf}
use Rattle.cert_values.specs.JsonTexts.{text_or_empty, named_texts_of}
use Rattle.cert_json.specs.Objects.{AreBehind, AreAscending}
use Rattle.cert_json.specs.Refusals.{IsShortFileOf, IsRefusedAsShape}
use Rattle.cert_values.specs.Shape.{is_node, are_nodes, is_file, is_list_of_nodes, is_list_of_texts, has_more, has_many_conditions, some_has_many}
use Rattle.cert_values.specs.Shape.{some_of_file_has_many, has_too_many, whole_number_in, is_map_of_texts, has_members, is_format}
use Rattle.cert_json.specs.Trim.{first_members, first_names, trim, trim_items, trim_members}
use Rattle.cert_json.specs.WrittenJson.{NodeText}
use Rattle.cert_json.specs.declared.faults.FileError.{FileError}
use Rattle.cert_json.specs.declared.faults.FileError.TheVariants.{NotJson, Shape, TooMany, NoMemory}
use Rattle.cert_json.specs.declared.level.Level.TheVariants.{File, FileMember, Node as NodeLevel, NodeMember}
use Rattle.cert_json.proofs.FirstNames.{ascending_first}
use Rattle.cert_json.proofs.KeptParts.{conds_kept, equations_kept, nodes_kept}
use Rattle.cert_json.proofs.OrderedValues.{IsOrdered, AreOrdered, read_ordered, got_ordered, items_ordered, names_ascend}
use Rattle.cert_json.proofs.TrimLaws.{trim-get_member, text_under, number_under, kept_node, kept_file}
use Rattle.cert_model.specs.declared.cert.Cert.{Cert}
use Rattle.cert_model.specs.View.{node_of}
use Rattle.cert_facts.specs.declared.faults.CertError.{CertError}
use Rattle.cert_facts.specs.declared.faults.Stop.{Stop}
use Rattle.cert_facts.specs.declared.faults.Stop.TheVariants as stop
use Rattle.cert_terms.specs.CertificateNames.{place_named, find_in}
use Rattle.cert_facts.specs.FactReading.{equations_read, conditions_read, fact_read, unwritten_equation, node_fact}
use Rattle.cert_text.specs.CertificateReading.{mode_named, node_read, node_added, nodes_read}
use Rattle.cert_facts.specs.JsonParts.{texts_of, items_or_none, members_or_none, number_or_zero, equations_in, node_text_in, node_texts}
use Rattle.cert_facts.specs.JsonParts.{file_nodes, file_format}
use Rattle.cert_facts.specs.PartAnswers.{then_part}
use Rattle.cert_text.specs.NodePointNames.{points_read}
use Rattle.cert_text.specs.Refusals.{context_of, file_read, ComesTo, TellsNodes, SpellsNodes, IsRefusedAsCertificate}
use Rattle.cert_text.specs.FileErrors.{error_of_file, error_of}
use Rattle.cert_terms.specs.TextMeanings.{TextMeanings, AreRead}
use Rattle.cert_text.proofs.FirstEquations.{few_known, first_read}
use Rattle.cert_text.proofs.Refused.{nodes_refused}

-- a node with its first equations
abbrev short_node : NodeText → NodeText
short_node n = record { conds = n.conds; equations = take 385 n.equations; left = n.left; mode = n.mode; rank = n.rank; right = n.right }

-- ---- what is kept of a file

first_named : (n : ℕ) (ms : Members) → named_texts_of (first_members n ms) ≡ take n (named_texts_of ms)
first_named zero ms = refl
first_named (suc n) no_members = refl
first_named (suc n) (member k d ms) = ap (λ es. (k, text_or_empty (as_str d)) ∷ es) (first_named n ms)

names_first : (o : Option Members) → named_texts_of (members_or_none (option_map first_names o)) ≡ take 385 (named_texts_of (members_or_none o))
names_first None = refl
names_first (Some ms) = first_named 385 ms

module _ (ms : Members) where
  text_same : (k : List ℕ) → text_or_empty (option_and_then as_str (get_member k (trim_members NodeMember ms)))
      ≡ text_or_empty (option_and_then as_str (get_member k ms))
  text_same k = ap (λ o. text_or_empty (option_and_then as_str o)) (trim-get_member NodeMember k ms)
      ∙ ap text_or_empty (text_under NodeMember (get_member k ms))

  conds_same : (k : List ℕ) → is_list_of_texts (option_and_then as_array (get_member k ms)) ≡ true
      → has_more 64 (option_and_then as_array (get_member k ms)) ≡ false
      → texts_of (items_or_none (option_and_then as_array (get_member k (trim_members NodeMember ms))))
      ≡ texts_of (items_or_none (option_and_then as_array (get_member k ms)))
  conds_same k e few = ap (λ o. texts_of (items_or_none (option_and_then as_array o))) (trim-get_member NodeMember k ms)
      ∙ ap (λ o. texts_of (items_or_none o)) (conds_kept (get_member k ms) e few)

  equations_first : (k : List ℕ) → is_map_of_texts (option_and_then as_object (get_member k ms)) ≡ true
      → named_texts_of (members_or_none (option_and_then as_object (get_member k (trim_members NodeMember ms))))
      ≡ take 385 (named_texts_of (members_or_none (option_and_then as_object (get_member k ms))))
  equations_first k e = ap (λ o. named_texts_of (members_or_none (option_and_then as_object o))) (trim-get_member NodeMember k ms)
      ∙ ap (λ o. named_texts_of (members_or_none o)) (equations_kept (get_member k ms) e)
      ∙ names_first (option_and_then as_object (get_member k ms))

  rank_same : (k : List ℕ) → number_or_zero (whole_number_in (get_member k (trim_members NodeMember ms))) ≡ number_or_zero (whole_number_in (get_member k ms))
  rank_same k = ap (λ o. number_or_zero (whole_number_in o)) (trim-get_member NodeMember k ms)
      ∙ ap (λ x. number_or_zero (option_and_then as_u64 x)) (number_under NodeMember (get_member k ms))

  members_short : is_node (object ms) ≡ true → has_many_conditions (object ms) ≡ false
      → node_text_in (object (trim_members NodeMember ms)) ≡ short_node (node_text_in (object ms))
  members_short e few =
      let right = and_parts _ _ e in
      let rank = and_parts _ _ right.0 in
      let mode = and_parts _ _ rank.0 in
      let left = and_parts _ _ mode.0 in
      let equations = and_parts _ _ left.0 in
      let conds = and_parts _ _ equations.0 in
      λ k. record {
        conds = conds_same (codes "conds") conds.1 few k;
        equations = equations_first (codes "equations") equations.1 k;
        left = text_same (codes "left") k;
        mode = text_same (codes "mode") k;
        rank = rank_same (codes "rank") k;
        right = text_same (codes "right") k;
      }

node_short : (d : Data) → is_node d ≡ true → has_many_conditions d ≡ false → node_text_in (trim NodeLevel d) ≡ short_node (node_text_in d)
node_short null e few = absurd (false≢true e)
node_short (boolean b) e few = absurd (false≢true e)
node_short (number n) e few = absurd (false≢true e)
node_short (string s) e few = absurd (false≢true e)
node_short (array ds) e few = absurd (false≢true e)
node_short (object ms) e few = ap node_text_in (kept_node ms e) ∙ members_short ms e few

nodes_short : (ds : Items) → are_nodes ds ≡ true → some_has_many ds ≡ false → node_texts (trim_items NodeLevel ds) ≡ map short_node (node_texts ds)
nodes_short no_items e few = refl
nodes_short (item d ds) e few =
    let p = and_parts (is_node d) (are_nodes ds) e in
    let q = or_parts (has_many_conditions d) (some_has_many ds) few in
    ap₂ (λ n (ns : List NodeText). n ∷ ns) (node_short d p.0 q.0) (nodes_short ds p.1 q.1)

list_short : (o : Option Items) → is_list_of_nodes o ≡ true → some_of_file_has_many o ≡ false
    → node_texts (items_or_none (option_map (trim_items NodeLevel) o)) ≡ map short_node (node_texts (items_or_none o))
list_short None e few = refl
list_short (Some ds) e few = nodes_short ds e few

file_short : (d : Data) → is_file d ≡ true → has_too_many d ≡ false → file_nodes (trim File d) ≡ map short_node (file_nodes d)
file_short null e few = refl
file_short (boolean b) e few = refl
file_short (number n) e few = refl
file_short (string s) e few = refl
file_short (array ds) e few = absurd (false≢true e)
file_short (object ms) e few =
    let nodes : Option Data = get_member (codes "nodes") ms in
    let shape = and_parts (has_members 2 (object ms) && is_format (whole_number_in (get_member (codes "format") ms)))
    (is_list_of_nodes (option_and_then as_array nodes)) e in
    let many = or_parts (has_more 4096 (option_and_then as_array nodes)) (some_of_file_has_many (option_and_then as_array nodes)) few in
    ap file_nodes (kept_file ms e)
    ∙ ap (λ o. node_texts (items_or_none (option_and_then as_array o))) (trim-get_member FileMember (codes "nodes") ms)
    ∙ ap (λ o. node_texts (items_or_none o)) (nodes_kept nodes shape.1 many.0)
    ∙ list_short (option_and_then as_array nodes) shape.1 many.1

format_same : (d : Data) → is_file d ≡ true → file_format (trim File d) ≡ file_format d
format_same null e = refl
format_same (boolean b) e = refl
format_same (number n) e = refl
format_same (string s) e = refl
format_same (array ds) e = absurd (false≢true e)
format_same (object ms) e =
    ap file_format (kept_file ms e) ∙ ap (λ o. number_or_zero (whole_number_in o)) (trim-get_member FileMember (codes "format") ms)
    ∙ ap (λ x. number_or_zero (option_and_then as_u64 x)) (number_under FileMember (get_member (codes "format") ms))

-- ---- the keys of a node differ

abbrev key_of : List ℕ × List ℕ → List ℕ
key_of e = e.0

apart : (k : List ℕ) (ms : Members) → AreBehind k ms → AllByRecursion (λ y. bytes_eq k y ≡ false) (map key_of (named_texts_of ms))
apart k no_members h = tt
apart k (member l d ms) h = (sym (is_eq-slice_cmp k l) ∙ ap is_eq h.0, apart k ms h.1)

names_apart : (ms : Members) → AreAscending ms → IsDistinct bytes_eq (map key_of (named_texts_of ms))
unfolding IsDistinct
names_apart no_members h = tt
names_apart (member k d ms) h = IsDistinct-cons bytes_eq k (map key_of (named_texts_of ms)) (apart k ms h.0) (names_apart ms h.1)

first_apart : (o : Option Members) → IfSome o AreAscending → IsDistinct bytes_eq (map key_of (take 385 (named_texts_of (members_or_none o))))
first_apart None h = names_apart no_members tt
first_apart (Some ms) h =
    subst (λ es. IsDistinct bytes_eq (map key_of es)) (first_named 385 ms) (names_apart (first_members 385 ms) (ascending_first 385 ms h))

node_apart : (d : Data) → IsOrdered d → IsDistinct bytes_eq (map key_of (take 385 (equations_in d)))
node_apart null h = first_apart None tt
node_apart (boolean b) h = first_apart None tt
node_apart (number n) h = first_apart None tt
node_apart (string s) h = first_apart None tt
node_apart (array ds) h = first_apart None tt
node_apart (object ms) h =
    let o : Option Data = get_member (codes "equations") ms in
    first_apart (option_and_then as_object o) (names_ascend o (got_ordered (codes "equations") ms h.1))

nodes_apart : (ds : Items) → AreOrdered ds → AllByRecursion (λ n. IsDistinct bytes_eq (map key_of (take 385 n.equations))) (node_texts ds)
nodes_apart no_items h = tt
nodes_apart (item d ds) h = (node_apart d h.0, nodes_apart ds h.1)

list_apart : (o : Option Items) → IfSome o AreOrdered
    → AllByRecursion (λ n. IsDistinct bytes_eq (map key_of (take 385 n.equations))) (node_texts (items_or_none o))
list_apart None h = tt
list_apart (Some ds) h = nodes_apart ds h

file_apart : (d : Data) → IsOrdered d → AllByRecursion (λ n. IsDistinct bytes_eq (map key_of (take 385 n.equations))) (file_nodes d)
file_apart null h = tt
file_apart (boolean b) h = tt
file_apart (number n) h = tt
file_apart (string s) h = tt
file_apart (array ds) h = tt
file_apart (object ms) h =
    let o : Option Data = get_member (codes "nodes") ms in
    list_apart (option_and_then as_array o) (items_ordered o (got_ordered (codes "nodes") ms h.1))

-- ---- nodes are read alike

then_same : {X Y : Type 0} (y : Result X CertError) (f g : X → Result Y CertError) → ((x : X) → f x ≡ g x) → then_part y f ≡ then_part y g
then_same (Ok x) f g same = same x
then_same (Err d) f g same = refl

module _ (a b : Fsmd) (format : ℕ) (r : TextMeanings) (few : length (positions a b) ≤ 384) where
  equations_alike : (i : ℕ) (fs : List (Option Nf)) (es : List (List ℕ × List ℕ)) → IsDistinct bytes_eq (map key_of (take 385 es))
      → equations_read (context_of a b format r).terms i fs (take 385 es) ≡ equations_read (context_of a b format r).terms i fs es
  equations_alike i fs es h =
      first_read (context_of a b format r).terms i 385 fs es (λ known. omega (arith, few, few_known a b (positions a b) format (take 385 es) h known))

  fact_alike : (i : ℕ) (n : NodeText) → IsDistinct bytes_eq (map key_of (take 385 n.equations))
      → node_fact (context_of a b format r).terms i (short_node n) ≡ node_fact (context_of a b format r).terms i n
  unfolding node_fact
  fact_alike i n h =
      ap (λ y. then_part y (λ fs. then_part (conditions_read (context_of a b format r).terms i [] n.conds)
      (λ ls. fact_read (context_of a b format r).terms i fs ls)))
      (equations_alike i (map (unwritten_equation format) (positions a b)) n.equations h)

  node_alike : (i : ℕ) (earlier : List (Node Fact)) (n : NodeText) → IsDistinct bytes_eq (map key_of (take 385 n.equations))
      → node_read (context_of a b format r) i earlier (short_node n) ≡ node_read (context_of a b format r) i earlier n
  unfolding node_read
  node_alike i earlier n h = then_same (points_read i format (context_of a b format r).states earlier n.left n.right) _ _ (λ P.
      ap (λ y. then_part {Y = Node Fact} y (λ f. Ok (record { left = P.0; right = P.1; mode = mode_named n.mode; rank = n.rank; fact = f })))
      (fact_alike i n h))

  nodes_alike : (i : ℕ) (earlier : List (Node Fact)) (ns : List NodeText)
      → AllByRecursion (λ n. IsDistinct bytes_eq (map key_of (take 385 n.equations))) ns
      → nodes_read (context_of a b format r) i earlier (map short_node ns) ≡ nodes_read (context_of a b format r) i earlier ns
  nodes_alike i earlier [] h = refl
  nodes_alike i earlier (n ∷ ns) h =
      ap (λ y. then_part (then_part y (λ m. Ok (earlier ++ m ∷ []))) (λ ms. nodes_read (context_of a b format r) (i + 1) ms (map short_node ns)))
      (node_alike i earlier n h.0)
      ∙ then_same (node_added (context_of a b format r) i earlier n) _ _ (λ ms. nodes_alike (i + 1) ms ns h.1)

-- ---- what a short file comes to, the file does

short_comes_to : (a b : Fsmd) (bytes : List ℕ) (v : Data) (y : Result (List (Node Fact)) CertError) → length (positions a b) ≤ 384
    → (h : IsShortFileOf bytes v) → ComesTo a b v y → ComesTo a b h.value y
short_comes_to a b bytes v y few h comes r read =
    let d = h.value in
    let format : file_format v ≡ file_format d = ap file_format h.short ∙ format_same d h.file.shape in
    let nodes : file_nodes v ≡ map short_node (file_nodes d) = ap file_nodes h.short ∙ file_short d h.file.shape h.file.few in
    let apart = file_apart d (read_ordered bytes d h.file.json.value) in
    let here : file_read a b v r ≡ y =
    comes r (subst (λ f. AreRead (find_in (place_named a b (positions a b)) (positions a b) f) r) (sym format) read) in
    sym (nodes_alike a b (file_format d) r few 0 [] (file_nodes d) apart) ∙ sym (ap (nodes_read (context_of a b (file_format d) r) 0 []) nodes)
    ∙ ap (λ f. nodes_read (context_of a b f r) 0 [] (file_nodes v)) (sym format) ∙ here

few_here : (a b : Fsmd) (ps : List Position) → IsPairing ps → ps ≡ positions a b → length (positions a b) ≤ 384
few_here a b ps paired same = subst (λ qs. length qs ≤ 384) same (few_positions ps paired)

pub spelled : (a b : Fsmd) (bytes : List ℕ) (v : Data) (ps : List Position) (c : Cert) → IsPairing ps → ps ≡ positions a b → IsShortFileOf bytes v
    → TellsNodes a b v (Ok c) → SpellsNodes a b bytes (map node_of c.nodes.items)
spelled a b bytes v ps c paired same h told = record {
  value = h.value;
  file = h.file;
  nodes = short_comes_to a b bytes v (Ok (map node_of c.nodes.items)) (few_here a b ps paired same) h told;
}

told_of_file : (a b : Fsmd) (bytes : List ℕ) (v : Data) (s : Stop) → length (positions a b) ≤ 384 → (h : IsShortFileOf bytes v)
    → TellsNodes a b v (Err s) → TellsNodes a b h.value (Err s)
told_of_file a b bytes v (stop.Refused e) few h told = short_comes_to a b bytes v (Err e) few h told
told_of_file a b bytes v stop.NoMemory few h told = tt

pub refused : (a b : Fsmd) (bytes : List ℕ) (v : Data) (ps : List Position) (s : Stop) → IsPairing ps → ps ≡ positions a b → IsShortFileOf bytes v
    → TellsNodes a b v (Err s) → IsRefusedAsCertificate a b bytes (error_of s)
refused a b bytes v ps s paired same h told =
    nodes_refused a b bytes h.value s h.file (told_of_file a b bytes v s (few_here a b ps paired same) h told)

-- a file that is refused before its nodes are looked at
pub refused_as_file : (a b : Fsmd) (bytes : List ℕ) (e : FileError) → IsRefusedAsShape bytes e → IsRefusedAsCertificate a b bytes (error_of_file e)
refused_as_file a b bytes NotJson h = h
refused_as_file a b bytes Shape h = h
refused_as_file a b bytes TooMany h = h
refused_as_file a b bytes NoMemory h = h

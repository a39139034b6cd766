-- Nodes and their parts as the values of the code.
use Rattle.std.proofs.Common.{◌≡◌, ℕ, suc, ◌+◌, ◌<◌, ◌≤◌, List, [], ◌∷◌, ◌++◌, length, drop, get_or, append-nil, append_assoc, map, arith, Option, Some, None}
use Rattle.std.proofs.Common.{refl, sym, ap, ap₂, ◌∙◌, Ordering, Less, Equal, Greater, Vec, Global}
use Rattle.std.specs.Prelude.{codes}
use Rattle.std.specs.Ordering.{nat_cmp, match_ordering}
use Rattle.std.specs.Cmp.Lexicographic.{slice_cmp}
use Rattle.std.proofs.lemmas.List.{drop_all, map_push}
use Rattle.std.proofs.Math.Seq.{drop-cons}
use Rattle.fs_pair.specs.Partners.{position_name}
use Rattle.serde_json.specs.Data.{Data, unsigned, number, string, array, object, item, Members, no_members, member, put}
use Rattle.serde_json.specs.View.{view, items_of}
use Rattle.serde_json.specs.declared.value.Value.{Value, Array}
use Rattle.serde_json.proofs.Views.{view-Array}
use Rattle.fs_model.specs.Machines.{Fsmd}
use Rattle.fs_model.specs.declared.sides.Pos.{Pos}
use Rattle.nf_terms.specs.declared.form.Nf.{Nf}
use Rattle.sym_facts.specs.Facts.{FactPosition, Fact}
use Rattle.cert_bisimulation.specs.Tables.{Node}
use Rattle.term_text.specs.TermTexts.{symbol_text}
use Rattle.cert_json.specs.WrittenJson.{NodeText, texts, named_texts, node_data, nodes_data}
use Rattle.cert_json.specs.JsonTexts.{text_of, named_texts_of}
use Rattle.cert_writer.specs.WrittenCertificates.{literal_bytes, form_written, with_equation_member, equations_written, point_written}
use Rattle.cert_writer.specs.WrittenCertificates.{mode_written, node_written}

-- ---- lists

-- what is done when nothing is left
done_all : {X : Type 0} (f : X → Data) (done : List Data) (xs : List X) (k : ℕ) → length xs ≤ k → done ++ map f (drop k xs) ≡ map f xs → done ≡ map f xs
done_all f done xs k h e = sym (append-nil done) ∙ ap (λ ys. done ++ map f ys) (sym (drop_all k xs h)) ∙ e

-- one value more
pub append_value_keeps_whole : {X : Type 0} (f : X → Data) (old new : List Value) (v : Value) (xs : List X) (k : ℕ) (x : X) → k < length xs
    → x ≡ get_or xs k x → view v ≡ f x
    → new ≡ old ++ v ∷ []
    → map view old ++ map f (drop k xs) ≡ map f xs → map view new ++ map f (drop (k + 1) xs) ≡ map f xs
append_value_keeps_whole f old new v xs k x h e g n w =
    let j : suc k ≡ k + 1 = omega arith in
    let more : drop k xs ≡ x ∷ drop (k + 1) xs = drop-cons xs k x h ∙ ap (λ y. y ∷ drop (suc k) xs) (sym e) ∙ ap (λ i. x ∷ drop i xs) j in
    ap (λ vs. map view vs ++ map f (drop (k + 1) xs)) n ∙ ap (λ ds. ds ++ map f (drop (k + 1) xs)) (map_push view old v)
    ∙ append_assoc (map view old) (view v ∷ []) (map f (drop (k + 1) xs))
    ∙ ap (λ d. map view old ++ d ∷ map f (drop (k + 1) xs)) g ∙ ap (λ ys. map view old ++ map f ys) (sym more) ∙ w

items_of_texts : {L M : Type 0} (text : M → List ℕ) (seen : L → M) (ls : List L)
    → items_of (map (λ l. string (text (seen l))) ls) ≡ texts (map text (map seen ls))
items_of_texts text seen [] = refl
items_of_texts text seen (l ∷ ls) = ap (item (string (text (seen l)))) (items_of_texts text seen ls)

pub texts_are : {L M : Type 0} (text : M → List ℕ) (seen : L → M) (out : Vec Value Global) (ls : List L) (k : ℕ) → length ls ≤ k
    → map view out.items ++ map (λ l. string (text (seen l))) (drop k ls) ≡ map (λ l. string (text (seen l))) ls
    → view (Array out) ≡ array (texts (map text (map seen ls)))
texts_are text seen out ls k h e = view-Array out ∙ ap (λ ds. array (items_of ds)) (done_all (λ l. string (text (seen l))) (map view out.items) ls k h e)
    ∙ ap array (items_of_texts text seen ls)

items_of_nodes : {L M : Type 0} (text : M → NodeText) (seen : L → M) (ls : List L)
    → items_of (map (λ l. node_data (text (seen l))) ls) ≡ nodes_data (map text (map seen ls))
items_of_nodes text seen [] = refl
items_of_nodes text seen (l ∷ ls) = ap (item (node_data (text (seen l)))) (items_of_nodes text seen ls)

pub nodes_are : {L M : Type 0} (text : M → NodeText) (seen : L → M) (out : Vec Value Global) (ls : List L) (k : ℕ) → length ls ≤ k
    → map view out.items ++ map (λ l. node_data (text (seen l))) (drop k ls) ≡ map (λ l. node_data (text (seen l))) ls
    → view (Array out) ≡ array (nodes_data (map text (map seen ls)))
nodes_are text seen out ls k h e = view-Array out ∙ ap (λ ds. array (items_of ds)) (done_all (λ l. node_data (text (seen l))) (map view out.items) ls k h e)
    ∙ ap array (items_of_nodes text seen ls)

-- ---- members that are all texts

abbrev AreTexts : Members → Type 0
AreTexts no_members = Unit {0}
AreTexts (member k d ms) = (d ≡ string (text_of d)) × AreTexts ms

texts_same : (ms : Members) → AreTexts ms → named_texts (named_texts_of ms) ≡ ms
texts_same no_members h = refl
texts_same (member k d ms) h = ap₂ (member k) (sym h.0) (texts_same ms h.1)

put_at : (o : Ordering) (k l s : List ℕ) (d : Data) (ms : Members) → AreTexts (member l d ms) → AreTexts (put k (string s) ms)
    → AreTexts (match_ordering o (member k (string s) (member l d ms)) (member l (string s) ms) (member l d (put k (string s) ms)))
put_at Less k l s d ms h later = (refl, h)
put_at Equal k l s d ms h later = (refl, h.1)
put_at Greater k l s d ms h later = (h.0, later)

put_texts : (k s : List ℕ) (ms : Members) → AreTexts ms → AreTexts (put k (string s) ms)
put_texts k s no_members h = (refl, tt)
put_texts k s (member l d ms) h = put_at (slice_cmp nat_cmp k l) k l s d ms h (put_texts k s ms h.1)

with_texts : (name : Pos → List ℕ) (p : Pos) (f : Option Nf) (ms : Members) → AreTexts ms → AreTexts (with_equation_member name p f ms)
with_texts name p None ms h = h
with_texts name p (Some f) ms h = put_texts (symbol_text p.side (name p)) (form_written name f) ms h

equations_texts : (name : Pos → List ℕ) (ms : Members) (qs : List FactPosition) → AreTexts ms → AreTexts (equations_written name ms qs)
equations_texts name ms [] h = h
equations_texts name ms (q ∷ qs) h = equations_texts name (with_equation_member name q.pos q.equation ms) qs (with_texts name q.pos q.equation ms h)

pub equations_same : (name : Pos → List ℕ) (qs : List FactPosition)
    → named_texts (named_texts_of (equations_written name no_members qs)) ≡ equations_written name no_members qs
equations_same name qs = texts_same (equations_written name no_members qs) (equations_texts name no_members qs tt)

-- ---- a node of its parts

abbrev with_parts : (conds equations : Data) (left mode : List ℕ) (rank : ℕ) (right : List ℕ) → Data
with_parts conds equations left mode rank right =
    object
    (member (codes "conds") conds
    (member (codes "equations") equations
    (member (codes "left") (string left)
    (member (codes "mode") (string mode) (member (codes "rank") (number (unsigned rank)) (member (codes "right") (string right) no_members))))))

pub node_is : (a b : Fsmd) (n : Node Fact) (v conds equations : Data) (left mode right : List ℕ)
    → v
    ≡ object
    (member (codes "conds") conds
    (member (codes "equations") equations
    (member (codes "left") (string left)
    (member (codes "mode") (string mode) (member (codes "rank") (number (unsigned n.rank)) (member (codes "right") (string right) no_members))))))
    → conds ≡ array (texts (map (literal_bytes (position_name a b)) n.fact.literals))
    → equations ≡ object (equations_written (position_name a b) no_members n.fact.positions)
    → left ≡ point_written a n.left → mode ≡ mode_written n.mode → right ≡ point_written b n.right
    → v ≡ node_data (node_written a b n)
node_is a b n v conds equations left mode right e f g l m r =
    let c = array (texts (map (literal_bytes (position_name a b)) n.fact.literals)) in
    let q = object (named_texts (named_texts_of (equations_written (position_name a b) no_members n.fact.positions))) in
    e ∙ ap (λ d. with_parts d equations left mode n.rank right) f
    ∙ ap (λ d. with_parts c d left mode n.rank right) (g ∙ ap object (sym (equations_same (position_name a b) n.fact.positions)))
    ∙ ap (λ s. with_parts c q s mode n.rank right) l ∙ ap (λ s. with_parts c q (point_written a n.left) s n.rank right) m
    ∙ ap (λ s. with_parts c q (point_written a n.left) (mode_written n.mode) n.rank s) r

-- A list is what its written form means, and its text is one of the grammar and short.
use Rattle.std.proofs.Common.{◌≡◌, ℕ, ◌+◌, ◌*◌, ◌≤◌, max, nat_le, true, List, [], ◌∷◌, length, codes, refl, sym, ap, ◌∙◌, append-nil, arith}
use Rattle.std.proofs.lemmas.Bool.{and_parts, and_from}
use Rattle.fs_model.specs.declared.sides.Pos.{Pos}
use Rattle.nf_terms.specs.declared.tree.SeqBase.{SeqBase}
use Rattle.nf_terms.specs.declared.tree.SeqBase.TheVariants as list_bases
use Rattle.nf_trees.specs.NormalTerms as terms
use Rattle.nf_terms.specs.Lists as lists
use Rattle.nf_terms.specs.Lists.{AreNormalItems, size_of_items, depth_of_items}
use Rattle.nf_terms.specs.Normal.{is_light, narrow_inside}
use Rattle.term_text.specs.TermTexts as text
use Rattle.term_text.specs.TermTexts.{ListSyntax, Pushed, polynomial_text, list_text}
use Rattle.term_text.specs.SpellableTerms.{polynomial_spelled, list_spelled}
use Rattle.term_text.specs.Brackets.{most_open, list_depth}
use Rattle.term_condition_text.proofs.Depths.{term_open}
use Rattle.term_values.specs.NameMeanings.{Find, position_meant}
use Rattle.term_values.specs.TermValues.{exact, list_base, list_items, list_value}
use Rattle.term_writer.specs.WrittenTerms.{polynomial_written, items_written, list_base_written, list_written}
use Rattle.term_writer.specs.NamedSymbols.{IsNamed, IsShort, OfItems, OfListBase, OfList}
use Rattle.term_writer.proofs.Spelling.{polynomial_spells}
use Rattle.term_writer.proofs.Back.{polynomial_back}
use Rattle.term_writer.proofs.Bound.{polynomial_bound, symbol_short, four}
use Rattle.term_writer.proofs.Deep.{polynomial_deep, shallow_by}

-- ---- the grammar

base_spelled : (name : Pos → List ℕ) (find : Find) (b : SeqBase) → OfListBase (IsNamed name find) b → list_spelled (list_base_written name b) ≡ true
base_spelled name find list_bases.Empty h = refl
base_spelled name find (list_bases.Sym p) h = h.word

items_spelled : (name : Pos → List ℕ) (find : Find) (w : ListSyntax) (ps : List terms.Polynomial) → OfItems (IsNamed name find) ps → AreNormalItems ps
    → list_spelled w ≡ true → list_spelled (items_written name w ps) ≡ true
items_spelled name find w [] h n e = e
items_spelled name find w (p ∷ ps) h n e =
    let l = and_parts (is_light p) (narrow_inside p) n.0.narrow in
    items_spelled name find (Pushed w (polynomial_written name p)) ps h.1 n.1
    (and_from (list_spelled w) (polynomial_spelled (polynomial_written name p)) e (polynomial_spells name find p h.0 l.0 l.1 n.0.ordered))

pub list_spells : (name : Pos → List ℕ) (find : Find) (l : lists.ListTerm) → OfList (IsNamed name find) l → AreNormalItems l.items
    → list_spelled (list_written name l) ≡ true
list_spells name find l h n = items_spelled name find (list_base_written name l.base) l.items h.1 n (base_spelled name find l.base h.0)

-- ---- brackets

items_deep : (name : Pos → List ℕ) (w : ListSyntax) (ps : List terms.Polynomial) → list_depth (items_written name w ps) ≡ max (list_depth w) (depth_of_items ps)
items_deep name w [] = omega arith
items_deep name w (p ∷ ps) = omega (arith, items_deep name (Pushed w (polynomial_written name p)) ps, polynomial_deep name p)

base_deep : (name : Pos → List ℕ) (b : SeqBase) → list_depth (list_base_written name b) ≡ 0
base_deep name list_bases.Empty = refl
base_deep name (list_bases.Sym p) = refl

pub shallow_list : (name : Pos → List ℕ) (l : lists.ListTerm) → list_spelled (list_written name l) ≡ true → lists.depth_of_list l ≤ 64
    → nat_le (most_open 0 (list_text (list_written name l))) 64 ≡ true
shallow_list name l e h =
    let t = list_text (list_written name l) in
    let whole : most_open 0 t ≡ lists.depth_of_list l = ap (most_open 0) (sym (append-nil t))
    ∙ omega (arith, term_open (text.list (list_written name l)) 0 [] e, items_deep name (list_base_written name l.base) l.items, base_deep name l.base) in
    shallow_by (most_open 0 t) (lists.depth_of_list l) whole h

-- ---- meaning

items_back : (name : Pos → List ℕ) (find : Find) (w : ListSyntax) (ps : List terms.Polynomial) → OfItems (IsNamed name find) ps → AreNormalItems ps
    → list_items (exact find) (items_written name w ps) [] ≡ list_items (exact find) w ps
items_back name find w [] h n = refl
items_back name find w (p ∷ ps) h n =
    let l = and_parts (is_light p) (narrow_inside p) n.0.narrow in
    items_back name find (Pushed w (polynomial_written name p)) ps h.1 n.1
    ∙ ap (λ q. list_items (exact find) w (q ∷ ps)) (polynomial_back name find p h.0 l.0 l.1)

base_of_items : (name : Pos → List ℕ) (find : Find) (w : ListSyntax) (ps : List terms.Polynomial)
    → list_base (exact find) (items_written name w ps) ≡ list_base (exact find) w
base_of_items name find w [] = refl
base_of_items name find w (p ∷ ps) = base_of_items name find (Pushed w (polynomial_written name p)) ps

base_back : (name : Pos → List ℕ) (find : Find) (b : SeqBase) → OfListBase (IsNamed name find) b → list_base (exact find) (list_base_written name b) ≡ b
base_back name find list_bases.Empty h = refl
base_back name find (list_bases.Sym p) h = ap (λ q. list_bases.Sym q) (ap position_meant h.found)

bare_items : (name : Pos → List ℕ) (find : Find) (b : SeqBase) (ps : List terms.Polynomial) → list_items (exact find) (list_base_written name b) ps ≡ ps
bare_items name find list_bases.Empty ps = refl
bare_items name find (list_bases.Sym p) ps = refl

pub list_back : (name : Pos → List ℕ) (find : Find) (l : lists.ListTerm) → OfList (IsNamed name find) l → AreNormalItems l.items
    → list_value (exact find) (list_written name l) ≡ l
list_back name find l h n = λ k. record {
  base = (base_of_items name find (list_base_written name l.base) l.items ∙ base_back name find l.base h.0) k;
  items = (items_back name find (list_base_written name l.base) l.items h.1 n ∙ bare_items name find l.base l.items) k;
}

-- ---- length

items_bound : (name : Pos → List ℕ) (w : ListSyntax) (ps : List terms.Polynomial) → OfItems (IsShort name) ps → AreNormalItems ps
    → length (list_text (items_written name w ps)) ≤ length (list_text w) + 47 * size_of_items ps
items_bound name w [] h n = omega arith
items_bound name w (p ∷ ps) h n =
    let l = and_parts (is_light p) (narrow_inside p) n.0.narrow in
    omega (
      arith,
      items_bound name (Pushed w (polynomial_written name p)) ps h.1 n.1,
      four (list_text w) (codes "{") (polynomial_text (polynomial_written name p)) (codes "}"),
      polynomial_bound name p h.0 l.0 l.1,
    )

base_bound : (name : Pos → List ℕ) (b : SeqBase) → OfListBase (IsShort name) b → length (list_text (list_base_written name b)) ≤ 34
base_bound name list_bases.Empty h = omega arith
base_bound name (list_bases.Sym p) h = symbol_short p.side (name p) h

pub list_bound : (name : Pos → List ℕ) (l : lists.ListTerm) → OfList (IsShort name) l → AreNormalItems l.items
    → length (list_text (list_written name l)) ≤ 47 * lists.size_of_list l
list_bound name l h n = omega (arith, items_bound name (list_base_written name l.base) l.items h.1 n, base_bound name l.base h.0)

-- Lists with one more item.
use Rattle.std.proofs.Common.{◌≡◌, ℕ, ◌+◌, ◌<◌, ◌≤◌, max, List, [], ◌∷◌, ◌++◌, map, drop, length, get_or, append_assoc, arith, refl, ap, sym, ◌∙◌}
use Rattle.std.proofs.lemmas.List.{append-nil, at_drop_all}
use Rattle.base_laws.proofs.Lists.{drop_next}
use Rattle.nf_trees.specs.NormalTerms.{Polynomial}
use Rattle.nf_trees.specs.Measures.{size_of, depth_of}
use Rattle.nf_terms.specs.TermMeaning.{Valuation, value_of, items_of_base, items_in}
use Rattle.nf_terms.specs.Lists.{ListTerm, size_of_items, size_of_list, depth_of_items, depth_of_list}
use Rattle.nf_terms.specs.Computed.{Done}
use Rattle.nf_terms.proofs.Items.{pushed_normal}
use Rattle.nf_sums.proofs.Values.{small_is}
use Rattle.nf_arrays.specs.Pushes.{with_last_item, list_with_item}

-- a copy of an item behind those of the items in front of it
pub push_moves_item : (ps old new : List Polynomial) (i : ℕ) (p q : Polynomial) → i < length ps → p ≡ get_or ps i p → new ≡ old ++ q ∷ [] → q ≡ p
    → old ++ drop i ps ≡ ps → new ++ drop (i + 1) ps ≡ ps
push_moves_item ps old new i p q h at n e so_far =
    ap (λ l. l ++ drop (i + 1) ps) (n ∙ ap (λ y. old ++ y ∷ []) e)
    ∙ append_assoc old (p ∷ []) (drop (i + 1) ps)
    ∙ ap (λ l. old ++ l) (sym (drop_next ps i p h at))
    ∙ so_far

-- one more item behind the copies of all items
pub last_one : (ps old new : List Polynomial) (i : ℕ) (p q : Polynomial) → length ps ≤ i → new ≡ old ++ q ∷ [] → q ≡ p → old ++ drop i ps ≡ ps
    → new ≡ ps ++ p ∷ []
last_one ps old new i p q h n e so_far =
    n ∙ ap (λ y. old ++ y ∷ []) e
    ∙ ap (λ l. l ++ p ∷ []) (sym (at_drop_all (λ ys. old ++ ys) ps i h ∙ append-nil old) ∙ so_far)

pub size-more : (ps : List Polynomial) (p : Polynomial) → size_of_items (ps ++ p ∷ []) ≡ size_of_items ps + 1 + size_of p
size-more [] p = omega arith
size-more (q ∷ ps) p = omega (arith, size-more ps p)

pub depth-more : (ps : List Polynomial) (p : Polynomial) → depth_of_items (ps ++ p ∷ []) ≡ max (depth_of_items ps) (1 + depth_of p)
depth-more [] p = omega arith
depth-more (q ∷ ps) p = omega (arith, depth-more ps p)

pub ruleset pushing = (size-more, depth-more, pushed_normal)

values_more : (w : Valuation) (ps : List Polynomial) (p : Polynomial) → map (value_of w) (ps ++ p ∷ []) ≡ map (value_of w) ps ++ value_of w p ∷ []
values_more w [] p = refl
values_more w (q ∷ ps) p = ap (λ l. value_of w q ∷ l) (values_more w ps p)

-- a push is the list with the value behind
pub push_value : (w : Valuation) (l m : ListTerm) (p : Polynomial) → list_with_item l p ≡ Done m → items_in w m ≡ items_in w l ++ value_of w p ∷ []
push_value w l m p e =
    sym (ap (items_in w) (small_is (size_of_list l + 1 + size_of p) (depth_of_list (with_last_item l p)) (with_last_item l p) m e))
    ∙ ap (λ t. items_of_base w l.base ++ t) (values_more w l.items p)
    ∙ sym (append_assoc (items_of_base w l.base) (map (value_of w) l.items) (value_of w p ∷ []))

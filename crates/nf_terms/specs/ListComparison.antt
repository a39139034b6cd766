-- The order of list terms is total, and what ties is the same.
use Rattle.std.proofs.Common.{◌≡◌, pos, Some, List, [], ◌∷◌, refl, ap, sym, ◌∙◌}
use Rattle.std.specs.declared.cmp.Ordering.TheVariants.{Equal}
use Rattle.std.specs.Ordering.{eq_by_cmp}
use Rattle.std.specs.Cmp.{IsTotalOrder, IsPartialOrder, IsEquivalence, IsPartialEquivalence, partial_order_from_agreeing_total}
use Rattle.std.specs.Cmp.{partial_equiv_from_equiv, eq_by_cmp_equiv}
use Rattle.nf_trees.specs.NormalTerms.{Polynomial}
use Rattle.nf_terms.specs.Lists.{ListTerm, cmp_list_base, cmp_items, cmp_list}
use Rattle.nf_trees.specs.Keys.{Key, Leaf, Node, cmp_key, key_ties}
use Rattle.nf_trees.specs.TermKeys.{key_pos, key_polynomial, inj_pos, inj_polynomial, both, pos_by_key, polynomial_by_key}
use Rattle.nf_trees.specs.Comparison.{total_by_keys}
use Rattle.nf_terms.specs.declared.tree.SeqBase.{SeqBase}
use Rattle.nf_terms.specs.declared.tree.SeqBase.TheVariants as base

-- nothing before a symbol
abbrev key_list_base : SeqBase → Key
key_list_base base.Empty = Leaf (pos 0)
key_list_base (base.Sym p) = Node (Leaf (pos 0)) (key_pos p)

-- item by item
abbrev key_items : List Polynomial → Key
key_items [] = Leaf (pos 0)
key_items (p ∷ ps) = Node (key_polynomial p) (key_items ps)

-- the base, then the items
abbrev key_list : ListTerm → Key
key_list l = Node (key_list_base l.base) (key_items l.items)

inj_base : (x y : SeqBase) → key_list_base x ≡ key_list_base y → x ≡ y
inj_base base.Empty base.Empty e = refl
inj_base base.Empty (base.Sym q) e = cc
inj_base (base.Sym p) base.Empty e = cc
inj_base (base.Sym p) (base.Sym q) e = ap base.Sym (inj_pos p q (cc))

inj_items : (x y : List Polynomial) → key_items x ≡ key_items y → x ≡ y
inj_items [] [] e = refl
inj_items [] (q ∷ qs) e = cc
inj_items (p ∷ ps) [] e = cc
inj_items (p ∷ ps) (q ∷ qs) e = let h : p ≡ q = inj_polynomial p q (cc) in let t : ps ≡ qs = inj_items ps qs (cc) in cc

inj_list : (x y : ListTerm) → key_list x ≡ key_list y → x ≡ y
inj_list x y e = let b : x.base ≡ y.base = inj_base x.base y.base (cc) in
    let i : x.items ≡ y.items = inj_items x.items y.items (cc) in (λ k. record { base = b k; items = i k })

base_by_key : (x y : SeqBase) → cmp_list_base x y ≡ cmp_key (key_list_base x) (key_list_base y)
base_by_key base.Empty base.Empty = refl
base_by_key base.Empty (base.Sym q) = refl
base_by_key (base.Sym p) base.Empty = refl
base_by_key (base.Sym p) (base.Sym q) = pos_by_key p q

items_by_key : (x y : List Polynomial) → cmp_items x y ≡ cmp_key (key_items x) (key_items y)
items_by_key [] [] = refl
items_by_key [] (q ∷ qs) = refl
items_by_key (p ∷ ps) [] = refl
items_by_key (p ∷ ps) (q ∷ qs) = both (polynomial_by_key p q) (items_by_key ps qs)

list_by_key : (x y : ListTerm) → cmp_list x y ≡ cmp_key (key_list x) (key_list y)
list_by_key x y = both (base_by_key x.base y.base) (items_by_key x.items y.items)

pub list_ties : (x y : ListTerm) → cmp_list x y ≡ Equal → x ≡ y
list_ties x y e = inj_list x y (key_ties (key_list x) (key_list y) (sym (list_by_key x y) ∙ e))

pub lists_total : IsTotalOrder cmp_list
lists_total = total_by_keys cmp_list key_list list_by_key list_ties

pub lists_equal : IsEquivalence (eq_by_cmp cmp_list)
lists_equal = eq_by_cmp_equiv lists_total

pub lists_equal_partly : IsPartialEquivalence (eq_by_cmp cmp_list)
lists_equal_partly = partial_equiv_from_equiv lists_equal

pub lists_partly : IsPartialOrder (eq_by_cmp cmp_list) (λ x y. Some (cmp_list x y))
lists_partly = partial_order_from_agreeing_total cmp_list lists_total (λ x y. refl) (λ x y. refl)

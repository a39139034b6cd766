-- List terms: items behind a base.
use Rattle.std.specs.Prelude.{ℕ, ◌+◌, ◌≤◌, max, Bool, false, ◌||◌, List, [], ◌∷◌}
use Rattle.std.specs.declared.cmp.Ordering.{Ordering}
use Rattle.std.specs.declared.cmp.Ordering.TheVariants.{Less, Equal, Greater}
use Rattle.std.specs.Ordering.{ordering_then}
use Rattle.nf_trees.specs.NormalTerms.{Polynomial}
use Rattle.nf_terms.specs.TermLimits.{size_limit, depth_limit}
use Rattle.nf_trees.specs.Order.{cmp_pos, cmp_polynomial}
use Rattle.nf_trees.specs.Measures.{size_of, depth_of}
use Rattle.nf_trees.specs.Mentions.{same_pos, mentions}
use Rattle.nf_terms.specs.Normal.{IsNormal}
use Rattle.fs_model.specs.declared.sides.Pos.{Pos}
use Rattle.nf_terms.specs.declared.tree.SeqBase.{SeqBase}
use Rattle.nf_terms.specs.declared.tree.SeqBase.TheVariants as base

-- a base, and the items behind it, the first item first
pub record ListTerm : Type 0 where
  pub base : SeqBase
  pub items : List Polynomial

-- a base without items
abbrev pub bare_list : SeqBase → ListTerm
bare_list b = record { base = b; items = [] }

-- 1 for each item, and its size
abbrev pub size_of_items : List Polynomial → ℕ
size_of_items [] = 0
size_of_items (p ∷ ps) = 1 + size_of p + size_of_items ps

-- the most brackets that are open at once in the items, each of the text `{p}`
abbrev pub depth_of_items : List Polynomial → ℕ
depth_of_items [] = 0
depth_of_items (p ∷ ps) = max (1 + depth_of p) (depth_of_items ps)

-- 1 for the base, and the items
abbrev pub size_of_list : ListTerm → ℕ
size_of_list l = 1 + size_of_items l.items

-- the most in any of the items
abbrev pub depth_of_list : ListTerm → ℕ
depth_of_list l = depth_of_items l.items

-- whether p stands in an item
abbrev pub mentions_items : Pos → List Polynomial → Bool
mentions_items p [] = false
mentions_items p (q ∷ qs) = mentions p q || mentions_items p qs

-- whether p is this base
abbrev pub mentions_list_base : Pos → SeqBase → Bool
mentions_list_base p base.Empty = false
mentions_list_base p (base.Sym q) = same_pos p q

-- whether p is the base of a list or stands in an item
abbrev pub mentions_list : Pos → ListTerm → Bool
mentions_list p l = mentions_list_base p l.base || mentions_items p l.items

-- nothing before a symbol
abbrev pub cmp_list_base : SeqBase → SeqBase → Ordering
cmp_list_base base.Empty base.Empty = Equal
cmp_list_base base.Empty (base.Sym q) = Less
cmp_list_base (base.Sym p) base.Empty = Greater
cmp_list_base (base.Sym p) (base.Sym q) = cmp_pos p q

-- item by item, a beginning of the other first
abbrev pub cmp_items : List Polynomial → List Polynomial → Ordering
cmp_items [] [] = Equal
cmp_items [] (q ∷ qs) = Less
cmp_items (p ∷ ps) [] = Greater
cmp_items (p ∷ ps) (q ∷ qs) = ordering_then (cmp_polynomial p q) (cmp_items ps qs)

-- the base, then the items
abbrev pub cmp_list : ListTerm → ListTerm → Ordering
cmp_list l m = ordering_then (cmp_list_base l.base m.base) (cmp_items l.items m.items)

-- each item is normal
abbrev pub AreNormalItems : List Polynomial → Type 0
AreNormalItems [] = Unit {0}
AreNormalItems (p ∷ ps) = IsNormal p × AreNormalItems ps

-- a list is normal and within the limits in all its parts
pub record IsNormalList (l : ListTerm) : Type 0 where
  pub items : AreNormalItems l.items
  pub small : size_of_list l ≤ size_limit
  pub shallow : depth_of_list l ≤ depth_limit

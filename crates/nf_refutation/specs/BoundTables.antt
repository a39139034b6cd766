-- What tables of bounds tell of directions.
use Rattle.std.specs.Prelude.{◌≡◌, Bool, not, false, ◌&&◌, ◌||◌, ℤ, int_lt, List, Option, None, Some}
use Rattle.std.specs.Ordering.{int_cmp, int_eq, ordering_then, is_eq}
use Rattle.std.specs.Borrow.{Bor}
use Rattle.std.specs.List.{list_any}
use Rattle.std.specs.Map.{lookup}
use Rattle.std.specs.BTreeMap.{BTreeMap}
use Rattle.std.specs.BTreeSet.{BTreeSet}
use Rattle.nf_terms.specs.NormalTerms.{Polynomial}
use Rattle.nf_terms.specs.Order.{cmp_polynomial, same_polynomial}
use Rattle.nf_rel.specs.Literals.{NormalLiteral, meets_along, meets_all}
use Rattle.nf_refutation.specs.declared.bound_table.BoundTable.{BoundTable}

-- the bound of a direction
abbrev pub bound_in : BTreeMap (Bor Polynomial) ℤ → Polynomial → Option ℤ
bound_in m d = lookup (λ k. same_polynomial d k.now) m.entries

-- whether a set has a number of a direction
abbrev pub has_number : BTreeSet (ℤ × Bor Polynomial) → Polynomial → ℤ → Bool
has_number s d a = list_any (λ k. is_eq (ordering_then (int_cmp a k.0) (cmp_polynomial d k.1.now))) s.keys

-- whether a number is below a lower bound
abbrev pub is_below : ℤ → Option ℤ → Bool
is_below a None = false
is_below a (Some b) = int_lt a b

-- whether a number is above an upper bound
abbrev pub is_above : ℤ → Option ℤ → Bool
is_above a None = false
is_above a (Some b) = int_lt b a

-- whether a number of a direction is within the bounds of a table and not left out
abbrev pub leaves_number : BoundTable → Polynomial → ℤ → Bool
leaves_number t d v = not (is_below v (bound_in t.lower d)) && not (is_above v (bound_in t.upper d))
    && not (has_number t.left_out d v)

-- what a table leaves is what meets all literals of a list
abbrev pub IsBoundTableOf : BoundTable → List NormalLiteral → Type 0
IsBoundTableOf t ls = (d : Polynomial) (v : ℤ) → leaves_number t d v ≡ meets_all d v ls

-- a direction has one bound more, the others are as before, and a number is beyond the bounds of a direction where it is beyond
-- one of them
abbrev pub Tightens : (is_beyond : ℤ → Option ℤ → Bool) → (old new : BTreeMap (Bor Polynomial) ℤ) → Polynomial → ℤ → Type 0
Tightens is_beyond old new e b = (d : Polynomial) (a : ℤ)
    → is_beyond a (bound_in new d) ≡ (same_polynomial d e && is_beyond a (Some b)) || is_beyond a (bound_in old d)

-- one number of a direction more
abbrev pub AddsNumber : (old new : BTreeSet (ℤ × Bor Polynomial)) → Polynomial → ℤ → Type 0
AddsNumber old new e b = (d : Polynomial) (a : ℤ) → has_number new d a ≡ (same_polynomial d e && int_eq a b) || has_number old d a

-- one literal more
abbrev pub AddsLiteral : (old new : BoundTable) → NormalLiteral → Type 0
AddsLiteral old new l = (d : Polynomial) (v : ℤ) → leaves_number new d v ≡ meets_along d v l && leaves_number old d v

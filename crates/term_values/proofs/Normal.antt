-- What is normal passes the test, and the other way round.
use Rattle.std.proofs.Common.{◌≡◌, nat_le, Bool, true, false, ◌&&◌, List, [], ◌∷◌, refl, sym, subst}
use Rattle.std.proofs.lemmas.Bool.{le-leb, and_parts, and_from, leb-true}
use Rattle.nf_trees.specs.NormalTerms.{Polynomial, ArrayTerm}
use Rattle.nf_terms.specs.TermLimits.{size_limit, depth_limit}
use Rattle.nf_trees.specs.Measures.{size_of, depth_of, size_of_array, depth_of_array}
use Rattle.nf_terms.specs.Normal.{IsNormal, IsNormalArray, ordered, narrow, ordered_array, narrow_array}
use Rattle.nf_rel.specs.NormalLiterals.{is_normal}
use Rattle.nf_rel.proofs.NormalForms.{normal_is}
use Rattle.nf_terms.specs.Lists.{ListTerm, AreNormalItems, IsNormalList, size_of_list, depth_of_list}
use Rattle.term_values.specs.TermFaults.{is_normal_array, are_normal, is_normal_list}

-- the test of a polynomial and of an array
pub passes_normal : (p : Polynomial) → is_normal p ≡ true → IsNormal p
passes_normal p e =
    let a = and_parts (ordered p && nat_le (size_of p) size_limit && nat_le (depth_of p) depth_limit) (narrow p) e in
    let b = and_parts (ordered p && nat_le (size_of p) size_limit) (nat_le (depth_of p) depth_limit) a.0 in
    let c = and_parts (ordered p) (nat_le (size_of p) size_limit) b.0 in
    record { ordered = c.0; small = leb-true (size_of p) size_limit c.1; shallow = leb-true (depth_of p) depth_limit b.1; narrow = a.1 }

pub passes_normal_array : (a : ArrayTerm) → is_normal_array a ≡ true → IsNormalArray a
passes_normal_array a e =
    let p = and_parts (ordered_array a && nat_le (size_of_array a) size_limit && nat_le (depth_of_array a) depth_limit) (narrow_array a) e in
    let q = and_parts (ordered_array a && nat_le (size_of_array a) size_limit) (nat_le (depth_of_array a) depth_limit) p.0 in
    let r = and_parts (ordered_array a) (nat_le (size_of_array a) size_limit) q.0 in
    record { ordered = r.0; small = leb-true (size_of_array a) size_limit r.1; shallow = leb-true (depth_of_array a) depth_limit q.1; narrow = p.1 }

array_is : (a : ArrayTerm) → IsNormalArray a → is_normal_array a ≡ true
array_is a n =
    and_from (ordered_array a && nat_le (size_of_array a) size_limit && nat_le (depth_of_array a) depth_limit) (narrow_array a)
    (and_from (ordered_array a && nat_le (size_of_array a) size_limit) (nat_le (depth_of_array a) depth_limit)
    (and_from (ordered_array a) (nat_le (size_of_array a) size_limit) n.ordered (le-leb (size_of_array a) size_limit n.small))
    (le-leb (depth_of_array a) depth_limit n.shallow)) n.narrow

pub refuted : (b : Bool) → ¬ (b ≡ true) → b ≡ false
refuted true f = absurd (f refl)
refuted false f = refl

-- a polynomial that is made is normal, and where none is made it isn't
pub polynomial_judged : (p v : Polynomial) → p ≡ v → IsNormal p → is_normal v ≡ true
polynomial_judged p v e n = normal_is v (subst IsNormal e n)

pub no_polynomial : (p v : Polynomial) → p ≡ v → ¬ IsNormal p → is_normal v ≡ false
no_polynomial p v e f = refuted (is_normal v) (λ h. f (subst IsNormal (sym e) (passes_normal v h)))

pub array_judged : (p v : ArrayTerm) → p ≡ v → IsNormalArray p → is_normal_array v ≡ true
array_judged p v e n = array_is v (subst IsNormalArray e n)

pub no_array : (p v : ArrayTerm) → p ≡ v → ¬ IsNormalArray p → is_normal_array v ≡ false
no_array p v e f = refuted (is_normal_array v) (λ h. f (subst IsNormalArray (sym e) (passes_normal_array v h)))

-- ---- lists

are_normal_is : (ps : List Polynomial) → AreNormalItems ps → are_normal ps ≡ true
are_normal_is [] a = refl
are_normal_is (p ∷ ps) a = and_from (is_normal p) (are_normal ps) (normal_is p a.0) (are_normal_is ps a.1)

pass_normal : (ps : List Polynomial) → are_normal ps ≡ true → AreNormalItems ps
pass_normal [] e = tt
pass_normal (p ∷ ps) e = let q = and_parts (is_normal p) (are_normal ps) e in (passes_normal p q.0, pass_normal ps q.1)

passes_normal_list : (l : ListTerm) → is_normal_list l ≡ true → IsNormalList l
passes_normal_list l e =
    let p = and_parts (are_normal l.items && nat_le (size_of_list l) size_limit) (nat_le (depth_of_list l) depth_limit) e in
    let q = and_parts (are_normal l.items) (nat_le (size_of_list l) size_limit) p.0 in
    record { items = pass_normal l.items q.0; small = leb-true (size_of_list l) size_limit q.1; shallow = leb-true (depth_of_list l) depth_limit p.1 }

list_is : (l : ListTerm) → IsNormalList l → is_normal_list l ≡ true
list_is l n =
    and_from (are_normal l.items && nat_le (size_of_list l) size_limit) (nat_le (depth_of_list l) depth_limit)
    (and_from (are_normal l.items) (nat_le (size_of_list l) size_limit) (are_normal_is l.items n.items) (le-leb (size_of_list l) size_limit n.small))
    (le-leb (depth_of_list l) depth_limit n.shallow)

pub list_judged : (p v : ListTerm) → p ≡ v → IsNormalList p → is_normal_list v ≡ true
list_judged p v e n = list_is v (subst IsNormalList e n)

pub no_list : (p v : ListTerm) → p ≡ v → ¬ IsNormalList p → is_normal_list v ≡ false
no_list p v e f = refuted (is_normal_list v) (λ h. f (subst IsNormalList (sym e) (passes_normal_list v h)))

-- items that aren't normal are in no normal list
pub no_items : (p v : ListTerm) → p ≡ v → are_normal p.items ≡ false → is_normal_list v ≡ false
no_items p v e f = subst (λ l. is_normal_list l ≡ false) e (rw f refl)

-- Steps along two lists of terms whose monomials with atoms are compared.
use Rattle.std.proofs.Common.{◌≡◌, ℕ, ℤ, ◌+◌, ◌<◌, true, false, cond, List, [], ◌∷◌, map, drop, length, get_or, refl, ap, sym, ◌∙◌, arith}
use Rattle.std.proofs.Common.{Ordering, Less, Equal, Greater, int_cmp, is_eq}
use Rattle.std.specs.Ordering.{ordering_then}
use Rattle.fs_model.proofs.Lists.{map_drop_next}
use Rattle.nf_trees.specs.NormalTerms.{Monomial, Polynomial, Zero, Plus, polynomial_of}
use Rattle.nf_terms.specs.Normal.{has_atoms, begins_with_atoms, part_with_atoms}
use Rattle.nf_trees.specs.Order.{cmp_monomial, cmp_polynomial, same_polynomial}
use Rattle.nf_trees.specs.View.{monomial_in, term_in}
use Rattle.nf_trees.specs.declared.tree.MonoTree.{MonoTree}
use Rattle.nf_trees.proofs.Compared.{then_then}
use Rattle.nf_terms.proofs.Steps.{part_step}

pub differ_where : (o r : Ordering) → is_eq o ≡ false → is_eq (ordering_then o r) ≡ false
differ_where Less r h = refl
differ_where Equal r h = absurd (cc h)
differ_where Greater r h = refl

pub same_where : (o r : Ordering) → is_eq o ≡ true → is_eq (ordering_then o r) ≡ is_eq r
same_where Less r h = absurd (cc h)
same_where Equal r h = refl
same_where Greater r h = absurd (cc h)

with_atoms : (m : Monomial) (c : ℤ) (p : Polynomial) → has_atoms m ≡ true → part_with_atoms (Plus m c p) ≡ Plus m c (part_with_atoms p)
with_atoms m c p h = part_step m c p ∙ ap (λ b. cond b (Plus m c (part_with_atoms p)) (part_with_atoms p)) h

-- the part with atoms of terms
abbrev pub part_of : List (MonoTree × ℤ) → Polynomial
part_of ts = part_with_atoms (polynomial_of (map term_in ts))

pub passed : (ls : List (MonoTree × ℤ)) (i : ℕ) (x : MonoTree × ℤ) → i < length ls → x ≡ get_or ls i x → has_atoms (monomial_in x.0) ≡ false
    → part_of (drop (i + 1) ls) ≡ part_of (drop i ls)
passed ls i x l e h =
    let p = polynomial_of (map term_in (drop (i + 1) ls)) in
    sym (ap (λ ts. part_with_atoms (polynomial_of ts)) (map_drop_next term_in ls i x l e)
    ∙ part_step (monomial_in x.0) x.1 p
    ∙ ap (λ b. cond b (Plus (monomial_in x.0) x.1 (part_with_atoms p)) (part_with_atoms p)) h)

first_with_atoms : (ls : List (MonoTree × ℤ)) (i : ℕ) (x : MonoTree × ℤ) → i < length ls → x ≡ get_or ls i x → has_atoms (monomial_in x.0) ≡ true
    → part_of (drop i ls) ≡ Plus (monomial_in x.0) x.1 (part_of (drop (i + 1) ls))
first_with_atoms ls i x l e h =
    ap (λ ts. part_with_atoms (polynomial_of ts)) (map_drop_next term_in ls i x l e)
    ∙ with_atoms (monomial_in x.0) x.1 (polynomial_of (map term_in (drop (i + 1) ls))) h

pub other_ends : (ls : List (MonoTree × ℤ)) (i : ℕ) (x : MonoTree × ℤ) (rs : List (MonoTree × ℤ)) → i < length ls → x ≡ get_or ls i x
    → has_atoms (monomial_in x.0) ≡ true → length rs ≡ 0 → same_polynomial (part_of (drop i ls)) (part_of rs) ≡ false
other_ends ls i x [] l e h n = ap (λ p. same_polynomial p Zero) (first_with_atoms ls i x l e h)
other_ends ls i x (y ∷ rs) l e h n = absurd (omega (arith, n))

pub both_go_on : (ls : List (MonoTree × ℤ)) (i : ℕ) (x : MonoTree × ℤ) (rs after : List (MonoTree × ℤ)) (y : MonoTree × ℤ) → i < length ls
    → x ≡ get_or ls i x → has_atoms (monomial_in x.0) ≡ true → rs ≡ y ∷ after → begins_with_atoms (polynomial_of (map term_in rs)) ≡ true
    → same_polynomial (part_of (drop i ls)) (part_of rs)
    ≡ is_eq (ordering_then (ordering_then (cmp_monomial (monomial_in x.0) (monomial_in y.0)) (int_cmp x.1 y.1))
    (cmp_polynomial (part_of (drop (i + 1) ls)) (part_of after)))
both_go_on ls i x rs after y l e h r b =
    let other : has_atoms (monomial_in y.0) ≡ true = ap (λ ts. begins_with_atoms (polynomial_of (map term_in ts))) (sym r) ∙ b in
    ap (λ p. same_polynomial p (part_of rs)) (first_with_atoms ls i x l e h)
    ∙ ap (same_polynomial (Plus (monomial_in x.0) x.1 (part_of (drop (i + 1) ls))))
    (ap part_of r ∙ with_atoms (monomial_in y.0) y.1 (polynomial_of (map term_in after)) other)
    ∙ ap is_eq (then_then (cmp_monomial (monomial_in x.0) (monomial_in y.0)) (int_cmp x.1 y.1) (cmp_polynomial (part_of (drop (i + 1) ls)) (part_of after)))

-- The literals that a rebased fact keeps may be kept.
use Rattle.std.proofs.Common.{◌≡◌, ℕ, zero, suc, Bool, true, false, refl, ap, sym, List, [], ◌∷◌, ◌++◌, map, take}
use Rattle.std.specs.Prelude.{not}
use Rattle.std.specs.List.{list_all, list_any}
use Rattle.std.proofs.lemmas.Bool.{and_from}
use Rattle.fs_model.proofs.Booleans.{and_first, and_second, neither_first}
use Rattle.nf_rel.specs.Literals.{NormalLiteral, True}
use Rattle.nf_rel.specs.NormalLiterals.{is_normal_literal, same_literal}
use Rattle.nf_rel.specs.View.{literal_in}
use Rattle.nf_rel.specs.declared.literals.NLit.{NLit}
use Rattle.sym_facts.specs.Facts.{may_be_kept}
use Rattle.propagate_equations.specs.Equations.{is_needless}

pub last_passes : (test : NormalLiteral → Bool) (ls : List NormalLiteral) (l : NormalLiteral) → list_all test ls ≡ true → test l ≡ true
    → list_all test (ls ++ l ∷ []) ≡ true
last_passes test [] l h g = and_from (test l) true g refl
last_passes test (m ∷ ls) l h g = and_from (test m) (list_all test (ls ++ l ∷ [])) (and_first (test m) (list_all test ls) h)
    (last_passes test ls l (and_second (test m) (list_all test ls) h) g)

pub taken_pass : (test : NormalLiteral → Bool) (n : ℕ) (ls : List NormalLiteral) → list_all test ls ≡ true → list_all test (take n ls) ≡ true
taken_pass test zero ls h = refl
taken_pass test (suc n) [] h = refl
taken_pass test (suc n) (l ∷ ls) h = and_from _ _ (and_first (test l) (list_all test ls) h) (taken_pass test n ls (and_second (test l) (list_all test ls) h))

pub one_kept : (before : List NormalLiteral) (l : NormalLiteral) → list_all may_be_kept before ≡ true → is_normal_literal l ≡ true
    → false ≡ is_needless before l → list_all may_be_kept (before ++ l ∷ []) ≡ true
one_kept before l h g e = last_passes may_be_kept before l h
    (and_from (not (same_literal l True)) (is_normal_literal l) (ap not (neither_first (same_literal l True) (list_any (same_literal l) before) (sym e))) g)

pub first_read : (n : ℕ) (xs : List NLit) → map literal_in (take n xs) ≡ take n (map literal_in xs)
first_read zero xs = refl
first_read (suc n) [] = refl
first_read (suc n) (x ∷ xs) = ap (λ l. literal_in x ∷ l) (first_read n xs)

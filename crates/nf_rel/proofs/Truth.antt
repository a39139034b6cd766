-- Negation, clashes and implication keep truth.
use Rattle.std.proofs.Common.{◌≡◌, ℤ, pos, ◌+ℤ◌, ◌-ℤ◌, Bool, true, false, arith, refl, ap, sym, ◌∙◌, List, [], ◌∷◌}
use Rattle.std.specs.Prelude.{not, ◌||◌, int_lt}
use Rattle.std.proofs.lemmas.Int.{ints}
use Rattle.std.specs.Ordering.{int_eq}
use Rattle.std.specs.Cmp.{signed_Decides}
use Rattle.nf_trees.specs.NormalTerms.{Polynomial}
use Rattle.nf_trees.specs.Order.{same_polynomial}
use Rattle.nf_terms.specs.TermMeaning.{Valuation, value_of}
use Rattle.std.specs.List.{list_any}
use Rattle.std.proofs.lemmas.Bool.{and_from, false_from_ne_true, not-true}
use Rattle.nf_sums.proofs.Constants.{equal_of_same}
use Rattle.fs_model.proofs.Booleans.{and_first, and_second}
use Rattle.nf_rel.specs.declared.kind.Kind.{Kind}
use Rattle.nf_rel.specs.declared.kind.Kind.TheVariants.{Ge, Le, Eq, Ne}
use Rattle.nf_rel.specs.Literals.{NormalLiteral, True, False, Is, meets, is_true_in, all_true_in, negate, bounds_clash, clash, is_false, meets_along, meets_all}
use Rattle.nf_rel.specs.Literals.{is_refuted_along, is_refuted_at, is_refuted, is_implied}
use Rattle.nf_rel.proofs.Floors.{lt_true, lt_false, is_lt, not_lt}
use Rattle.nf_rel.proofs.Exact.{along_own, refuted_none}

not_not : (b : Bool) → b ≡ not (not b)
not_not true = refl
not_not false = refl

before : (v b : ℤ) → int_lt (b -ℤ pos 1) v ≡ not (int_lt v b)
before v b = by_test (int_lt v b) refl
  where
    by_test : (t : Bool) → int_lt v b ≡ t → int_lt (b -ℤ pos 1) v ≡ not t
    by_test true e = not_lt (b -ℤ pos 1) v (let h = lt_true v b e in omega (arith, ints))
    by_test false e = is_lt (b -ℤ pos 1) v (let h = lt_false v b e in omega (arith, ints))

behind : (v b : ℤ) → int_lt v (b +ℤ pos 1) ≡ not (int_lt b v)
behind v b = by_test (int_lt b v) refl
  where
    by_test : (t : Bool) → int_lt b v ≡ t → int_lt v (b +ℤ pos 1) ≡ not t
    by_test true e = not_lt v (b +ℤ pos 1) (let h = lt_true b v e in omega (arith, ints))
    by_test false e = is_lt v (b +ℤ pos 1) (let h = lt_false b v e in omega (arith, ints))

abbrev pub meets_negation : Kind → (number bound : ℤ) → Bool
meets_negation Ge v b = meets Le v (b -ℤ pos 1)
meets_negation Le v b = meets Ge v (b +ℤ pos 1)
meets_negation Eq v b = meets Ne v b
meets_negation Ne v b = meets Eq v b

-- the negation of a bound is met exactly where the bound is not
pub negate_met : (k : Kind) (v b : ℤ) → meets_negation k v b ≡ not (meets k v b)
negate_met Ge v b = ap not (before v b)
negate_met Le v b = ap not (behind v b)
negate_met Eq v b = refl
negate_met Ne v b = not_not (int_eq v b)

pub negate_true : (w : Valuation) (l : NormalLiteral) → is_true_in w (negate l) ≡ not (is_true_in w l)
negate_true w True = refl
negate_true w False = refl
negate_true w (Is d Ge b) = negate_met Ge (value_of w d) b
negate_true w (Is d Le b) = negate_met Le (value_of w d) b
negate_true w (Is d Eq b) = negate_met Eq (value_of w d) b
negate_true w (Is d Ne b) = negate_met Ne (value_of w d) b

-- two bounds that clash are not both met
pub bounds : (k j : Kind) (a b v : ℤ) → bounds_clash k a j b ≡ true → meets k v a ≡ true → meets j v b ≡ false
bounds Ge Ge a b v c h = absurd (cc c)
bounds Ge Le a b v c h = ap not (is_lt b v (let x = lt_true b a c in let y = lt_false v a (not-true _ h) in omega (arith, ints)))
bounds Ge Eq a b v c h = by_test (int_eq v b) refl
  where
    by_test : (t : Bool) → int_eq v b ≡ t → t ≡ false
    by_test true e = absurd (let x = lt_true b a c in let y = lt_false v a (not-true _ h) in let z : v ≡ b = (signed_Decides v b).0 e in omega (arith, ints))
    by_test false e = refl
bounds Ge Ne a b v c h = absurd (cc c)
bounds Le Ge a b v c h = ap not (is_lt v b (let x = lt_true a b c in let y = lt_false a v (not-true _ h) in omega (arith, ints)))
bounds Le Le a b v c h = absurd (cc c)
bounds Le Eq a b v c h = by_test (int_eq v b) refl
  where
    by_test : (t : Bool) → int_eq v b ≡ t → t ≡ false
    by_test true e = absurd (let x = lt_true a b c in let y = lt_false a v (not-true _ h) in let z : v ≡ b = (signed_Decides v b).0 e in omega (arith, ints))
    by_test false e = refl
bounds Le Ne a b v c h = absurd (cc c)
bounds Eq Ge a b v c h = ap not (is_lt v b (let x = lt_true a b c in let z : v ≡ a = (signed_Decides v a).0 h in omega (arith, ints)))
bounds Eq Le a b v c h = ap not (is_lt b v (let x = lt_true b a c in let z : v ≡ a = (signed_Decides v a).0 h in omega (arith, ints)))
bounds Eq Eq a b v c h = ap (λ z. int_eq z b) ((signed_Decides v a).0 h) ∙ not-true (int_eq a b) c
bounds Eq Ne a b v c h = ap (λ z. not (int_eq z b)) ((signed_Decides v a).0 h) ∙ ap not c
bounds Ne Ge a b v c h = absurd (cc c)
bounds Ne Le a b v c h = absurd (cc c)
bounds Ne Eq a b v c h = ap (λ z. int_eq v z) (sym ((signed_Decides a b).0 c)) ∙ not-true (int_eq v a) h
bounds Ne Ne a b v c h = absurd (cc c)

pub clash_true : (w : Valuation) (l m : NormalLiteral) → clash l m ≡ true → is_true_in w l ≡ true → is_true_in w m ≡ false
clash_true w True True c h = absurd (cc c)
clash_true w True False c h = refl
clash_true w True (Is d k b) c h = absurd (cc c)
clash_true w False m c h = absurd (cc h)
clash_true w (Is d k a) True c h = absurd (cc c)
clash_true w (Is d k a) False c h = refl
clash_true w (Is d k a) (Is e j b) c h =
    let s : d ≡ e = equal_of_same d e (and_first (same_polynomial d e) (bounds_clash k a j b) c) in
    ap (λ z. meets j (value_of w z) b) (sym s) ∙ bounds k j a b (value_of w d) (and_second (same_polynomial d e) (bounds_clash k a j b) c) h

-- two bounds of one direction that clash are not both met
pub clash_along : (d : Polynomial) (k : Kind) (a : ℤ) (e : Polynomial) (j : Kind) (b v : ℤ) → clash (Is d k a) (Is e j b) ≡ true
    → meets_along d v (Is d k a) ≡ true → meets_along d v (Is e j b) ≡ true → ⊥
clash_along d k a e j b v c h i =
    let s = and_first (same_polynomial d e) (bounds_clash k a j b) c in
    let x : meets k v a ≡ true = along_own d k a v h in
    let y : meets j v b ≡ true = sym (ap (λ t. not t || meets j v b) s) ∙ i in
    let z : true ≡ false = sym y ∙ bounds k j a b v (and_second (same_polynomial d e) (bounds_clash k a j b) c) x in
    cc z

-- ---- what is true in a valuation meets its direction
true_along : (w : Valuation) (d : Polynomial) (l : NormalLiteral) → is_true_in w l ≡ true → meets_along d (value_of w d) l ≡ true
true_along w d True h = refl
true_along w d False h = refl
true_along w d (Is e k b) h = by_test (same_polynomial d e) refl
  where
    by_test : (t : Bool) → same_polynomial d e ≡ t → not t || meets k (value_of w d) b ≡ true
    by_test true s = ap (λ z. meets k (value_of w z) b) (equal_of_same d e s) ∙ h
    by_test false s = refl

true_all : (w : Valuation) (d : Polynomial) (ls : List NormalLiteral) → all_true_in w ls ≡ true → meets_all d (value_of w d) ls ≡ true
true_all w d [] h = refl
true_all w d (l ∷ ls) h =
    and_from (meets_along d (value_of w d) l) (meets_all d (value_of w d) ls)
    (true_along w d l (and_first (is_true_in w l) (all_true_in w ls) h)) (true_all w d ls (and_second (is_true_in w l) (all_true_in w ls) h))

some_refuted : (w : Valuation) (ls ms : List NormalLiteral) → all_true_in w ls ≡ true → list_any (is_refuted_at ls) ms ≡ true → all_true_in w ms ≡ true → ⊥
some_refuted w ls [] a c h = cc c
some_refuted w ls (True ∷ ms) a c h = some_refuted w ls ms a c h
some_refuted w ls (False ∷ ms) a c h = cc h
some_refuted w ls (Is d k b ∷ ms) a c h =
    by_test (is_refuted_along d ls) refl c (λ f. some_refuted w ls ms a f (and_second (is_true_in w (Is d k b)) (all_true_in w ms) h))
  where
    by_test : (t : Bool) → is_refuted_along d ls ≡ t → t || list_any (is_refuted_at ls) ms ≡ true → (list_any (is_refuted_at ls) ms ≡ true → ⊥) → ⊥
    by_test true e f again = let z : true ≡ false = sym (true_all w d ls a) ∙ refuted_none d ls e (value_of w d) in cc z
    by_test false e f again = again f

pub refuted_false : (w : Valuation) (ls : List NormalLiteral) → is_refuted ls ≡ true → all_true_in w ls ≡ false
unfolding is_refuted
refuted_false w ls c = false_from_ne_true (all_true_in w ls) (λ a. some_refuted w ls ls a c a)

some_false : (w : Valuation) (ls : List NormalLiteral) → list_any is_false ls ≡ true → all_true_in w ls ≡ true → ⊥
some_false w [] c h = cc c
some_false w (True ∷ ls) c h = some_false w ls c h
some_false w (False ∷ ls) c h = cc h
some_false w (Is d k b ∷ ls) c h = some_false w ls c (and_second (is_true_in w (Is d k b)) (all_true_in w ls) h)

negation_fails : (w : Valuation) (ls : List NormalLiteral) (d : Polynomial) (k : Kind) (b : ℤ) → is_refuted_along d (negate (Is d k b) ∷ ls) ≡ true
    → all_true_in w ls ≡ true → is_true_in w (Is d k b) ≡ true
negation_fails w ls d k b c a = by_test (is_true_in w (Is d k b)) refl
  where
    by_test : (t : Bool) → is_true_in w (Is d k b) ≡ t → t ≡ true
    by_test true e = refl
    by_test false e =
        let n : is_true_in w (negate (Is d k b)) ≡ true = negate_true w (Is d k b) ∙ ap not e in
        let m = and_from (meets_along d (value_of w d) (negate (Is d k b))) (meets_all d (value_of w d) ls) (true_along w d (negate (Is d k b)) n)
        (true_all w d ls a) in
        sym (refuted_none d (negate (Is d k b) ∷ ls) c (value_of w d)) ∙ m

pub implied_true : (w : Valuation) (ls : List NormalLiteral) (l : NormalLiteral) → is_implied ls l ≡ true → all_true_in w ls ≡ true → is_true_in w l ≡ true
unfolding is_implied
implied_true w ls True c a = refl
implied_true w ls False c a = absurd (some_false w ls c a)
implied_true w ls (Is d k b) c a = by_test (list_any is_false ls) refl c
  where
    by_test : (t : Bool) → list_any is_false ls ≡ t → t || is_refuted_along d (negate (Is d k b) ∷ ls) ≡ true → is_true_in w (Is d k b) ≡ true
    by_test true e f = absurd (some_false w ls e a)
    by_test false e f = negation_fails w ls d k b f a

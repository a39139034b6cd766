-- Where two bounds do not clash, a number meets both.
use Rattle.std.proofs.Common.{◌≡◌, ℤ, pos, ◌+ℤ◌, ◌-ℤ◌, ◌≤ℤ◌, Bool, true, false, arith, refl, ap, sym, ◌∙◌, Some}
use Rattle.std.specs.Prelude.{not, ◌&&◌, ◌||◌, int_lt}
use Rattle.std.specs.Ordering.{int_eq}
use Rattle.std.specs.Cmp.{signed_Decides}
use Rattle.std.proofs.lemmas.Int.{ints}
use Rattle.std.proofs.lemmas.Bool.{and_from, not-false}
use Rattle.fs_model.proofs.Booleans.{and_first}
use Rattle.fs_model.proofs.Integers.{int_eq-true}
use Rattle.nf_trees.specs.NormalTerms.{Polynomial}
use Rattle.nf_trees.specs.Order.{same_polynomial}
use Rattle.nf_sums.proofs.Constants.{equal_of_same}
use Rattle.nf_rel.specs.declared.kind.Kind.{Kind}
use Rattle.nf_rel.specs.declared.kind.Kind.TheVariants.{Ge, Le, Eq, Ne}
use Rattle.nf_rel.specs.Literals.{NormalLiteral, True, False, Is, meets, bounds_clash, clash, is_false, meets_along}
use Rattle.nf_rel.specs.NormalLiterals.{direction_of}
use Rattle.nf_rel.proofs.Floors.{lt_true, lt_false, not_lt}
use Rattle.nf_rel.proofs.Exact.{not_eq, own_along, same_self}
use Rattle.nf_rel.proofs.Truth.{bounds}

-- a number that meets two bounds
record MeetsBoth (k : Kind) (a : ℤ) (j : Kind) (b : ℤ) : Type 0 where
  pub number : ℤ
  pub first : meets k number a ≡ true
  pub second : meets j number b ≡ true

-- ---- a number meets a bound
at_least : (v b : ℤ) → b ≤ℤ v → meets Ge v b ≡ true
at_least v b h = ap not (not_lt v b h)

at_most : (v b : ℤ) → v ≤ℤ b → meets Le v b ≡ true
at_most v b h = ap not (not_lt b v h)

equal : (b : ℤ) → meets Eq b b ≡ true
equal b = (signed_Decides b b).1 refl

other : (v b : ℤ) → (v ≡ b → ⊥) → meets Ne v b ≡ true
other v b h = ap not (not_eq v b h)

-- ---- a number for each two bounds that do not clash
both_above : (a b : ℤ) → MeetsBoth Ge a Ge b
both_above a b = by_test (int_lt a b) refl
  where
    by_test : (t : Bool) → int_lt a b ≡ t → MeetsBoth Ge a Ge b
    by_test true e = record { number = b; first = at_least b a (let h = lt_true a b e in omega (arith, ints)); second = at_least b b (omega (arith, ints)) }
    by_test false e = record { number = a; first = at_least a a (omega (arith, ints)); second = at_least a b (lt_false a b e) }

both_below : (a b : ℤ) → MeetsBoth Le a Le b
both_below a b = by_test (int_lt a b) refl
  where
    by_test : (t : Bool) → int_lt a b ≡ t → MeetsBoth Le a Le b
    by_test true e = record { number = a; first = at_most a a (omega (arith, ints)); second = at_most a b (let h = lt_true a b e in omega (arith, ints)) }
    by_test false e = record { number = b; first = at_most b a (lt_false a b e); second = at_most b b (omega (arith, ints)) }

above_but : (a b : ℤ) → MeetsBoth Ge a Ne b
above_but a b = by_test (int_eq a b) refl
  where
    by_test : (t : Bool) → int_eq a b ≡ t → MeetsBoth Ge a Ne b
    by_test true e =
        let s = int_eq-true a b e in
        record {
          number = a +ℤ pos 1;
          first = at_least (a +ℤ pos 1) a (omega (arith, ints));
          second = other (a +ℤ pos 1) b (λ q. omega (arith, ints, q, s));
        }
    by_test false e = record { number = a; first = at_least a a (omega (arith, ints)); second = ap not e }

below_but : (a b : ℤ) → MeetsBoth Le a Ne b
below_but a b = by_test (int_eq a b) refl
  where
    by_test : (t : Bool) → int_eq a b ≡ t → MeetsBoth Le a Ne b
    by_test true e =
        let s = int_eq-true a b e in
        record {
          number = a -ℤ pos 1;
          first = at_most (a -ℤ pos 1) a (omega (arith, ints));
          second = other (a -ℤ pos 1) b (λ q. omega (arith, ints, q, s));
        }
    by_test false e = record { number = a; first = at_most a a (omega (arith, ints)); second = ap not e }

neither : (a b : ℤ) → MeetsBoth Ne a Ne b
neither a b =
    let m = above_but (a +ℤ pos 1) b in
    let h = lt_false m.number (a +ℤ pos 1) (flip (int_lt m.number (a +ℤ pos 1)) m.first) in
    record { number = m.number; first = other m.number a (λ q. omega (arith, ints, q, h)); second = m.second }
  where
    flip : (t : Bool) → not t ≡ true → t ≡ false
    flip true e = absurd (cc e)
    flip false e = refl

turned : (k : Kind) (a : ℤ) (j : Kind) (b : ℤ) → MeetsBoth k a j b → MeetsBoth j b k a
turned k a j b m = record { number = m.number; first = m.second; second = m.first }

meets_both : (k : Kind) (a : ℤ) (j : Kind) (b : ℤ) → bounds_clash k a j b ≡ false → MeetsBoth k a j b
meets_both Ge a Ge b c = both_above a b
meets_both Ge a Le b c = record { number = a; first = at_least a a (omega (arith, ints)); second = at_most a b (lt_false b a c) }
meets_both Ge a Eq b c = record { number = b; first = at_least b a (lt_false b a c); second = equal b }
meets_both Ge a Ne b c = above_but a b
meets_both Le a Ge b c = record { number = a; first = at_most a a (omega (arith, ints)); second = at_least a b (lt_false a b c) }
meets_both Le a Le b c = both_below a b
meets_both Le a Eq b c = record { number = b; first = at_most b a (lt_false a b c); second = equal b }
meets_both Le a Ne b c = below_but a b
meets_both Eq a Ge b c = record { number = a; first = equal a; second = at_least a b (lt_false a b c) }
meets_both Eq a Le b c = record { number = a; first = equal a; second = at_most a b (lt_false b a c) }
meets_both Eq a Eq b c = record { number = a; first = equal a; second = not-false (int_eq a b) c }
meets_both Eq a Ne b c = record { number = a; first = equal a; second = ap not c }
meets_both Ne a Ge b c = turned Ge b Ne a (above_but b a)
meets_both Ne a Le b c = turned Le b Ne a (below_but b a)
meets_both Ne a Eq b c =
    let d : a ≡ b → ⊥ = λ q. let f : true ≡ false = sym ((signed_Decides a b).1 q) ∙ c in cc f in
    record { number = b; first = other b a (λ q. d (sym q)); second = equal b }
meets_both Ne a Ne b c = neither a b

-- ---- clashes are exact
pub clash_meets_none : (k : Kind) (a : ℤ) (j : Kind) (b : ℤ) → bounds_clash k a j b ≡ true → (v : ℤ) → meets k v a && meets j v b ≡ false
clash_meets_none k a j b c v = by_test (meets k v a) refl
  where
    by_test : (t : Bool) → meets k v a ≡ t → t && meets j v b ≡ false
    by_test true h = bounds k j a b v c h
    by_test false h = refl

pub none_meets_clash : (k : Kind) (a : ℤ) (j : Kind) (b : ℤ) → ((v : ℤ) → meets k v a && meets j v b ≡ false) → bounds_clash k a j b ≡ true
none_meets_clash k a j b n = by_test (bounds_clash k a j b) refl
  where
    by_test : (t : Bool) → bounds_clash k a j b ≡ t → t ≡ true
    by_test true c = refl
    by_test false c = let m = meets_both k a j b c in sym (n m.number) ∙ and_from (meets k m.number a) (meets j m.number b) m.first m.second

-- of literals of one direction
own_clash : (d : Polynomial) (k : Kind) (a : ℤ) (j : Kind) (b : ℤ) → clash (Is d k a) (Is d j b) ≡ bounds_clash k a j b
own_clash d k a j b = ap (λ t. t && bounds_clash k a j b) (same_self d)

own_both : (d : Polynomial) (k : Kind) (a : ℤ) (j : Kind) (b v : ℤ)
    → meets_along d v (Is d k a) && meets_along d v (Is d j b) ≡ meets k v a && meets j v b
own_both d k a j b v = ap (λ t. t && meets_along d v (Is d j b)) (own_along d k a v) ∙ ap (λ t. meets k v a && t) (own_along d j b v)

pub clash_along_none : (d : Polynomial) (l m : NormalLiteral) → direction_of l ≡ Some d → direction_of m ≡ Some d → clash l m ≡ true → (v : ℤ)
    → meets_along d v l && meets_along d v m ≡ false
clash_along_none d True m x y c v = absurd (cc x)
clash_along_none d False m x y c v = absurd (cc x)
clash_along_none d (Is e k a) True x y c v = absurd (cc y)
clash_along_none d (Is e k a) False x y c v = absurd (cc y)
clash_along_none d (Is e k a) (Is f j b) x y c v =
    let p : e ≡ d = cc x in
    let q : f ≡ d = cc y in
    let own : bounds_clash k a j b ≡ true = sym (own_clash d k a j b) ∙ ap (λ z. clash (Is d k a) (Is z j b)) (sym q)
    ∙ ap (λ z. clash (Is z k a) (Is f j b)) (sym p) ∙ c in
    ap (λ z. meets_along d v (Is z k a) && meets_along d v (Is f j b)) p ∙ ap (λ z. meets_along d v (Is d k a) && meets_along d v (Is z j b)) q
    ∙ own_both d k a j b v ∙ clash_meets_none k a j b own v

pub none_along_clash : (d : Polynomial) (l m : NormalLiteral) → direction_of l ≡ Some d → direction_of m ≡ Some d
    → ((v : ℤ) → meets_along d v l && meets_along d v m ≡ false) → clash l m ≡ true
none_along_clash d True m x y n = absurd (cc x)
none_along_clash d False m x y n = absurd (cc x)
none_along_clash d (Is e k a) True x y n = absurd (cc y)
none_along_clash d (Is e k a) False x y n = absurd (cc y)
none_along_clash d (Is e k a) (Is f j b) x y n =
    let p : e ≡ d = cc x in
    let q : f ≡ d = cc y in
    let own : (v : ℤ) → meets k v a && meets j v b ≡ false = λ v. sym (own_both d k a j b v)
    ∙ ap (λ z. meets_along d v (Is d k a) && meets_along d v (Is z j b)) (sym q)
    ∙ ap (λ z. meets_along d v (Is z k a) && meets_along d v (Is f j b)) (sym p) ∙ n v in
    ap (λ z. clash (Is z k a) (Is f j b)) p ∙ ap (λ z. clash (Is d k a) (Is z j b)) q ∙ own_clash d k a j b ∙ none_meets_clash k a j b own

-- False clashes with each literal; other literals that clash have one direction
pub false_clashes : (l m : NormalLiteral) → is_false l || is_false m ≡ true → clash l m ≡ true
false_clashes True m h = h
false_clashes False m h = refl
false_clashes (Is d k a) True h = absurd (cc h)
false_clashes (Is d k a) False h = refl
false_clashes (Is d k a) (Is e j b) h = absurd (cc h)

pub clash_direction : (l m : NormalLiteral) → clash l m ≡ true → is_false l || is_false m ≡ false → direction_of l ≡ direction_of m
clash_direction True m c h = absurd (let z : true ≡ false = sym c ∙ h in cc z)
clash_direction False m c h = absurd (cc h)
clash_direction (Is d k a) True c h = absurd (cc c)
clash_direction (Is d k a) False c h = absurd (cc h)
clash_direction (Is d k a) (Is e j b) c h = ap (λ z. Some z) (equal_of_same d e (and_first (same_polynomial d e) (bounds_clash k a j b) c))

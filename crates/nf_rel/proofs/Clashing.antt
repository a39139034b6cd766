-- What clashes is refuted, and what a direction implies.
use Rattle.std.proofs.Common.{◌≡◌, ℕ, zero, suc, ◌+◌, ℤ, pos, Bool, true, false, zero-add, arith, refl, ap, sym, ◌∙◌, List, [], ◌∷◌, Some}
use Rattle.std.specs.Prelude.{not, ◌&&◌, ◌||◌, option_map}
use Rattle.std.specs.List.{list_any, list_all, slice_get, position_from}
use Rattle.std.specs.Option.{is_some}
use Rattle.std.proofs.lemmas.Bool.{or_left, and_from, or_right, false_from_ne_true}
use Rattle.nf_sums.proofs.Constants.{equal_of_same}
use Rattle.fs_model.proofs.Booleans.{and_first, and_second, neither_first, neither_second}
use Rattle.fs_model.proofs.Options.{is_some-map}
use Rattle.nf_trees.specs.NormalTerms.{Polynomial}
use Rattle.nf_trees.specs.Order.{same_polynomial}
use Rattle.nf_rel.specs.declared.kind.Kind.{Kind}
use Rattle.nf_rel.specs.declared.kind.Kind.TheVariants.{Ge, Le, Eq, Ne}
use Rattle.nf_rel.specs.Bounds.{clashing_from}
use Rattle.nf_rel.specs.Literals.{NormalLiteral, True, False, Is, meets, negate, clash, is_false, clashes_with, meets_along, meets_all, is_refuted_along}
use Rattle.nf_rel.specs.Literals.{is_refuted_at, is_refuted, is_implied}
use Rattle.nf_rel.proofs.Exact.{own_along, refuted_none, none_refuted}
use Rattle.nf_rel.proofs.Truth.{clash_along, negate_met}
use Rattle.nf_rel.proofs.NormalLaws.{some_place, some_or}

-- ---- what holds at a place, of some and of all
all_at : (p : NormalLiteral → Bool) (ls : List NormalLiteral) (i : ℕ) (l : NormalLiteral) → slice_get ls i ≡ Some l → list_all p ls ≡ true → p l ≡ true
all_at p [] i l e h = absurd (cc e)
all_at p (x ∷ ls) zero l e h = let q : x ≡ l = cc e in sym (ap p q) ∙ and_first (p x) (list_all p ls) h
all_at p (x ∷ ls) (suc i) l e h = all_at p ls i l e (and_second (p x) (list_all p ls) h)

any_at : (p : NormalLiteral → Bool) (ls : List NormalLiteral) (i : ℕ) (l : NormalLiteral) → slice_get ls i ≡ Some l → p l ≡ true → list_any p ls ≡ true
any_at p [] i l e h = absurd (cc e)
any_at p (x ∷ ls) zero l e h = let q : x ≡ l = cc e in or_left (p x) (list_any p ls) (ap p q ∙ h)
any_at p (x ∷ ls) (suc i) l e h = or_right (p x) (list_any p ls) (any_at p ls i l e h)

-- a direction with two members that clash
two_refute : (ls : List NormalLiteral) (i j : ℕ) (d : Polynomial) (k : Kind) (a : ℤ) (e : Polynomial) (m : Kind) (b : ℤ)
    → slice_get ls i ≡ Some (Is d k a) → slice_get ls j ≡ Some (Is e m b) → clash (Is d k a) (Is e m b) ≡ true → is_refuted_along d ls ≡ true
two_refute ls i j d k a e m b x y c =
    none_refuted d ls
    (λ v. false_from_ne_true (meets_all d v ls)
    (λ h. clash_along d k a e m b v c (all_at (meets_along d v) ls i (Is d k a) x h) (all_at (meets_along d v) ls j (Is e m b) y h)))

-- two members that clash, also at different places or one False, refute a list
pub clash_refutes : (ls : List NormalLiteral) (i j : ℕ) (l m : NormalLiteral) → slice_get ls i ≡ Some l → slice_get ls j ≡ Some m → clash l m ≡ true
    → is_refuted ls ≡ true
unfolding is_refuted
clash_refutes ls i j True True x y c = absurd (cc c)
clash_refutes ls i j True False x y c = any_at (is_refuted_at ls) ls j False y refl
clash_refutes ls i j True (Is e m b) x y c = absurd (cc c)
clash_refutes ls i j False m x y c = any_at (is_refuted_at ls) ls i False x refl
clash_refutes ls i j (Is d k a) True x y c = absurd (cc c)
clash_refutes ls i j (Is d k a) False x y c = any_at (is_refuted_at ls) ls j False y refl
clash_refutes ls i j (Is d k a) (Is e m b) x y c = any_at (is_refuted_at ls) ls i (Is d k a) x (two_refute ls i j d k a e m b x y c)

pub refuted_is : (ls : List NormalLiteral) → is_refuted ls ≡ list_any (is_refuted_at ls) ls
unfolding is_refuted
refuted_is ls = refl

-- a direction that no member has is met by each number
some_along : (d : Polynomial) (ls ms : List NormalLiteral) → is_refuted_along d ls ≡ true → list_any (is_refuted_at ls) ms ≡ false → (v : ℤ)
    → meets_all d v ms ≡ true
some_along d ls [] r h v = refl
some_along d ls (True ∷ ms) r h v = some_along d ls ms r h v
some_along d ls (False ∷ ms) r h v = absurd (cc h)
some_along d ls (Is e k b ∷ ms) r h v =
    by_test (same_polynomial d e) refl (some_along d ls ms r (neither_second (is_refuted_along e ls) (list_any (is_refuted_at ls) ms) h) v)
  where
    by_test : (t : Bool) → same_polynomial d e ≡ t → meets_all d v ms ≡ true → (not t || meets k v b) && meets_all d v ms ≡ true
    by_test true s rest =
        let z : true ≡ false = sym r ∙ ap (λ x. is_refuted_along x ls) (equal_of_same d e s)
        ∙ neither_first (is_refuted_along e ls) (list_any (is_refuted_at ls) ms) h in
        absurd (cc z)
    by_test false s rest = rest

pub some_direction : (d : Polynomial) (ls : List NormalLiteral) → is_refuted_along d ls ≡ true → is_refuted ls ≡ true
unfolding is_refuted
some_direction d ls r = by_test (list_any (is_refuted_at ls) ls) refl
  where
    by_test : (t : Bool) → list_any (is_refuted_at ls) ls ≡ t → t ≡ true
    by_test true h = refl
    by_test false h = sym (refuted_none d ls r (pos 0)) ∙ some_along d ls ls r h (pos 0)

-- ---- the least pair that clashes
pub record SomeAt (p : NormalLiteral → Bool) (ls : List NormalLiteral) : Type 0 where
  pub place : ℕ
  pub literal : NormalLiteral
  pub stands : slice_get ls place ≡ Some literal
  pub passes : p literal ≡ true

some_at : (p : NormalLiteral → Bool) (ls : List NormalLiteral) → list_any p ls ≡ true → SomeAt p ls
some_at p [] h = absurd (cc h)
some_at p (x ∷ ls) h = by_test (p x) refl h (λ f. some_at p ls f)
  where
    by_test : (t : Bool) → p x ≡ t → t || list_any p ls ≡ true → (list_any p ls ≡ true → SomeAt p ls) → SomeAt p (x ∷ ls)
    by_test true e f again = record { place = zero; literal = x; stands = refl; passes = e }
    by_test false e f again = let r = again f in record { place = suc r.place; literal = r.literal; stands = r.stands; passes = r.passes }

some_pair : (i : ℕ) (l : NormalLiteral) (ms : List NormalLiteral)
    → is_some (clashing_from i (l ∷ ms)) ≡ clashes_with (l ∷ ms) l || is_some (clashing_from (i + 1) ms)
some_pair i l ms =
    let f : ℕ → ℕ × ℕ = λ j. (i, j) in
    some_or (option_map f (position_from (clash l) i (l ∷ ms))) (clashing_from (i + 1) ms)
    ∙ ap (λ b. b || is_some (clashing_from (i + 1) ms)) (is_some-map f (position_from (clash l) i (l ∷ ms)) ∙ some_place (clash l) i (l ∷ ms))

one_on : (ls ms : List NormalLiteral) (l : NormalLiteral) (n : ℕ)
    → ((j : ℕ) → (m : NormalLiteral) → slice_get (l ∷ ms) j ≡ Some m → slice_get ls (n + j) ≡ Some m)
    → (j : ℕ) → (m : NormalLiteral) → slice_get ms j ≡ Some m → slice_get ls (n + 1 + j) ≡ Some m
one_on ls ms l n at j m q = let e : n + 1 + j ≡ n + suc j = omega arith in ap (slice_get ls) e ∙ at (suc j) m q

refuted_from : (ls : List NormalLiteral) (i n : ℕ) (ms : List NormalLiteral)
    → ((j : ℕ) → (m : NormalLiteral) → slice_get ms j ≡ Some m → slice_get ls (n + j) ≡ Some m) → is_some (clashing_from i ms) ≡ true → is_refuted ls ≡ true
refuted_from ls i n [] at c = absurd (cc c)
refuted_from ls i n (l ∷ ms) at c =
    by_test (clashes_with (l ∷ ms) l) refl (sym (some_pair i l ms) ∙ c) (λ h. refuted_from ls (i + 1) (n + 1) ms (one_on ls ms l n at) h)
  where
    by_test : (t : Bool) → clashes_with (l ∷ ms) l ≡ t → t || is_some (clashing_from (i + 1) ms) ≡ true
        → (is_some (clashing_from (i + 1) ms) ≡ true → is_refuted ls ≡ true) → is_refuted ls ≡ true
    by_test true e h again = let r = some_at (clash l) (l ∷ ms) e in
        clash_refutes ls (n + zero) (n + r.place) l r.literal (at zero l refl) (at r.place r.literal r.stands) r.passes
    by_test false e h again = again h

pub pair_refutes : (ls : List NormalLiteral) → is_some (clashing_from 0 ls) ≡ true → is_refuted ls ≡ true
pair_refutes ls c = refuted_from ls 0 0 ls (λ j m q. ap (slice_get ls) (zero-add j) ∙ q) c

-- ---- implication
any_refutes : (d : Polynomial) (k : Kind) (a : ℤ) (ls : List NormalLiteral) → list_any (clash (Is d k a)) ls ≡ true
    → list_any is_false ls || is_refuted_along d (Is d k a ∷ ls) ≡ true
any_refutes d k a ls c = let r = some_at (clash (Is d k a)) ls c in by_member r.place r.literal r.stands r.passes
  where
    by_member : (j : ℕ) (m : NormalLiteral) → slice_get ls j ≡ Some m → clash (Is d k a) m ≡ true
        → list_any is_false ls || is_refuted_along d (Is d k a ∷ ls) ≡ true
    by_member j True q e = absurd (cc e)
    by_member j False q e = or_left (list_any is_false ls) _ (any_at is_false ls j False q refl)
    by_member j (Is e m b) q f = or_right (list_any is_false ls) _ (two_refute (Is d k a ∷ ls) 0 (suc j) d k a e m b refl q f)

-- a literal whose negation clashes with a member is implied
pub clash_implies : (ls : List NormalLiteral) (l : NormalLiteral) → clashes_with ls (negate l) ≡ true → is_implied ls l ≡ true
unfolding is_implied
clash_implies ls True c = refl
clash_implies ls False c = c
clash_implies ls (Is d Ge b) c = any_refutes d Le _ ls c
clash_implies ls (Is d Le b) c = any_refutes d Ge _ ls c
clash_implies ls (Is d Eq b) c = any_refutes d Ne _ ls c
clash_implies ls (Is d Ne b) c = any_refutes d Eq _ ls c

pub false_implies : (ls : List NormalLiteral) (l : NormalLiteral) → list_any is_false ls ≡ true → is_implied ls l ≡ true
unfolding is_implied
false_implies ls True c = refl
false_implies ls False c = c
false_implies ls (Is d k b) c = or_left (list_any is_false ls) _ c

-- ---- for the code
pub true_implied : (ls : List NormalLiteral) (l : NormalLiteral) → l ≡ True → true ≡ is_implied ls l
unfolding is_implied
true_implied ls l e = sym (ap (is_implied ls) e)

pub false_implied : (ls : List NormalLiteral) (l : NormalLiteral) → l ≡ False → list_any is_false ls ≡ is_implied ls l
unfolding is_implied
false_implied ls l e = sym (ap (is_implied ls) e)

pub bound_implied : (ls : List NormalLiteral) (l : NormalLiteral) (d : Polynomial) (k : Kind) (b : ℤ) → l ≡ Is d k b → list_any is_false ls ≡ false
    → is_refuted_along d (negate (Is d k b) ∷ ls) ≡ is_implied ls l
unfolding is_implied
bound_implied ls l d k b e f = sym (ap (is_implied ls) e ∙ ap (λ t. t || is_refuted_along d (negate (Is d k b) ∷ ls)) f)

-- ---- implication is exact
-- whether a number meets the negation
negation_along : (d : Polynomial) (k : Kind) (b v : ℤ) → meets_along d v (negate (Is d k b)) ≡ not (meets k v b)
negation_along d Ge b v = own_along d Le _ v ∙ negate_met Ge v b
negation_along d Le b v = own_along d Ge _ v ∙ negate_met Le v b
negation_along d Eq b v = own_along d Ne _ v ∙ negate_met Eq v b
negation_along d Ne b v = own_along d Eq _ v ∙ negate_met Ne v b

-- where no member is False, a bound is implied exactly where each number that meets all literals of its direction meets it
pub implied_met : (ls : List NormalLiteral) (d : Polynomial) (k : Kind) (b : ℤ) → list_any is_false ls ≡ false → is_implied ls (Is d k b) ≡ true → (v : ℤ)
    → meets_all d v ls ≡ true → meets k v b ≡ true
unfolding is_implied
implied_met ls d k b f c v h = by_test (meets k v b) refl
  where
    by_test : (t : Bool) → meets k v b ≡ t → t ≡ true
    by_test true e = refl
    by_test false e =
        let n : is_refuted_along d (negate (Is d k b) ∷ ls) ≡ true = sym (ap (λ t. t || is_refuted_along d (negate (Is d k b) ∷ ls)) f) ∙ c in
        let m = and_from (meets_along d v (negate (Is d k b))) (meets_all d v ls) (negation_along d k b v ∙ ap not e) h in
        sym (refuted_none d (negate (Is d k b) ∷ ls) n v) ∙ m

pub met_implied : (ls : List NormalLiteral) (d : Polynomial) (k : Kind) (b : ℤ) → ((v : ℤ) → meets_all d v ls ≡ true → meets k v b ≡ true)
    → is_implied ls (Is d k b) ≡ true
unfolding is_implied
met_implied ls d k b f =
    or_right (list_any is_false ls) _
    (none_refuted d (negate (Is d k b) ∷ ls) (λ v. false_from_ne_true (meets_along d v (negate (Is d k b)) && meets_all d v ls)
    (λ h. let x : meets k v b ≡ true = f v (and_second (meets_along d v (negate (Is d k b))) (meets_all d v ls) h) in
    let y : not (meets k v b) ≡ true = sym (negation_along d k b v) ∙ and_first (meets_along d v (negate (Is d k b))) (meets_all d v ls) h in
    let z : false ≡ true = sym (ap not x) ∙ y in
    cc z)))

-- Members of lists by their places.
use Rattle.std.proofs.Common.{◌≡◌, ℕ, zero, suc, ◌+◌, ◌≤◌, Bool, true, false, cond, ◌||◌, List, [], ◌∷◌, map, Some, refl, sym, ap, ◌∙◌, arith}
use Rattle.std.specs.Prelude.{slice_get}
use Rattle.std.specs.List.{list_all, list_any, count_by}
use Rattle.std.proofs.lemmas.Bool.{or_left, or_right}
use Rattle.fs_model.proofs.Booleans.{and_first, and_second}
use Rattle.fs_pair.proofs.Once.{many, many_counts}

-- what all pass, each one passes
pub all_at : {X Y : Type 0} (test : Y → Bool) (f : X → Y) (xs : List X) (k : ℕ) (x : X) → list_all test (map f xs) ≡ true → slice_get xs k ≡ Some x
    → test (f x) ≡ true
all_at test f [] k x h e = absurd (cc e)
all_at test f (y ∷ ys) zero x h e = let s : y ≡ x = cc e in ap (λ z. test (f z)) (sym s) ∙ and_first (test (f y)) (list_all test (map f ys)) h
all_at test f (y ∷ ys) (suc k) x h e = all_at test f ys k x (and_second (test (f y)) (list_all test (map f ys)) h) e

-- where one passes, some do
pub any_at : {X : Type 0} (test : X → Bool) (xs : List X) (k : ℕ) (x : X) → slice_get xs k ≡ Some x → test x ≡ true → list_any test xs ≡ true
any_at test [] k x e h = absurd (cc e)
any_at test (y ∷ ys) zero x e h = let s : y ≡ x = cc e in or_left (test y) (list_any test ys) (ap test s ∙ h)
any_at test (y ∷ ys) (suc k) x e h = or_right (test y) (list_any test ys) (any_at test ys k x e h)

-- the place of one that passes
pub record Passing {X : Type 0} (test : X → Bool) (xs : List X) : Type 0 where
  pub place : ℕ
  pub item : X
  pub at : slice_get xs place ≡ Some item
  pub passes : test item ≡ true

pub passing : {X : Type 0} (test : X → Bool) (xs : List X) → list_any test xs ≡ true → Passing test xs
passing test [] h = absurd (cc h)
passing test (x ∷ xs) h = by_test (test x) refl (λ g. passing test xs g) h
  where
    by_test : (b : Bool) → test x ≡ b → (list_any test xs ≡ true → Passing test xs) → b || list_any test xs ≡ true → Passing test (x ∷ xs)
    by_test true e again g = record { place = zero; item = x; at = refl; passes = e }
    by_test false e again g = let r = again g in record { place = suc r.place; item = r.item; at = r.at; passes = r.passes }

-- lists with the same members are the same
pub same_lists : {X : Type 0} (xs ys : List X) → ((k : ℕ) → slice_get xs k ≡ slice_get ys k) → xs ≡ ys
same_lists [] [] h = refl
same_lists [] (y ∷ ys) h = let e = h zero in absurd (cc e)
same_lists (x ∷ xs) [] h = let e = h zero in absurd (cc e)
same_lists (x ∷ xs) (y ∷ ys) h =
    let e : x ≡ y = (let f = h zero in cc f) in
    ap (λ z. z ∷ xs) e ∙ ap (λ zs. y ∷ zs) (same_lists xs ys (λ k. h (suc k)))

-- ---- one that passes alone

some_passes : {X : Type 0} (test : X → Bool) (xs : List X) (k : ℕ) (x : X) → slice_get xs k ≡ Some x → test x ≡ true → 1 ≤ many test xs
some_passes test [] k x e h = absurd (cc e)
some_passes test (y ∷ ys) zero x e h =
    let s : y ≡ x = cc e in
    let t : test y ≡ true = ap test s ∙ h in
    let n : many test (y ∷ ys) ≡ 1 + many test ys = ap (λ b. cond b 1 0 + many test ys) t in
    omega (arith, n)
some_passes test (y ∷ ys) (suc k) x e h = omega (arith, some_passes test ys k x e h)

alone_in : {X : Type 0} (test : X → Bool) (xs : List X) (j k : ℕ) (x y : X) → many test xs ≤ 1 → slice_get xs j ≡ Some x → test x ≡ true
    → slice_get xs k ≡ Some y → test y ≡ true → j ≡ k
alone_in test [] j k x y n e h f g = absurd (cc e)
alone_in test (z ∷ zs) zero zero x y n e h f g = refl
alone_in test (z ∷ zs) zero (suc k) x y n e h f g =
    let s : z ≡ x = cc e in
    let t : test z ≡ true = ap test s ∙ h in
    let m : many test (z ∷ zs) ≡ 1 + many test zs = ap (λ b. cond b 1 0 + many test zs) t in
    absurd (omega (arith, n, m, some_passes test zs k y f g))
alone_in test (z ∷ zs) (suc j) zero x y n e h f g =
    let s : z ≡ y = cc f in
    let t : test z ≡ true = ap test s ∙ g in
    let m : many test (z ∷ zs) ≡ 1 + many test zs = ap (λ b. cond b 1 0 + many test zs) t in
    absurd (omega (arith, n, m, some_passes test zs j x e h))
alone_in test (z ∷ zs) (suc j) (suc k) x y n e h f g = ap suc (alone_in test zs j k x y (omega (arith, n)) e h f g)

-- where one passes alone, two places of it are one
pub alone : {X : Type 0} (test : X → Bool) (xs : List X) (j k : ℕ) (x y : X) → count_by test xs ≡ 1 → slice_get xs j ≡ Some x → test x ≡ true
    → slice_get xs k ≡ Some y → test y ≡ true → j ≡ k
alone test xs j k x y n e h f g = alone_in test xs j k x y (omega (arith, n, many_counts test xs)) e h f g

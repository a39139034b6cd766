-- What is in sets, by their members.
use Rattle.std.proofs.Common.{◌≡◌, ℕ, zero, suc, ◌<◌, List, [], ◌∷◌, ◌++◌, ap, refl, ◌∙◌, inl, inr, arith, Bool, true, false}
use Rattle.std.specs.Prelude.{◌≢◌, ◌==◌, ◌&&◌, ◌||◌, nat_lt}
use Rattle.std.specs.List.{list_any}
use Rattle.std.proofs.lemmas.Bool.{both_ways, or_cases, or_parts, true_from_ne_false}
use Rattle.std.proofs.lemmas.Bool.Decides.{nat_tests}
use Rattle.fs_variable_sets.specs.Sets.{also, also_all, meets_below, sets_meet}

-- ---- one variable more
left_out : (b : Bool) (x : ℕ) (m : Bool) → nat_lt x 128 ≡ false → m ≡ ((b && nat_lt x 128) || m)
left_out true x m e = rw e refl
left_out false x m e = refl

pub also_none : (members : ℕ → Bool) (x : ℕ) → nat_lt x 128 ≡ false → members ≡ also x members
also_none members x e = λ j y. left_out (x == y) x (members y) e j

-- ---- several variables more
pub also_joined : (xs ys : List ℕ) (members : ℕ → Bool) → also_all (xs ++ ys) members ≡ also_all ys (also_all xs members)
also_joined [] ys members = refl
also_joined (x ∷ xs) ys members = also_joined xs ys (also x members)

absorbed : (o l m : Bool) → ((o && l) || (l || m)) ≡ (l || m)
absorbed true true m = refl
absorbed true false m = refl
absorbed false l m = refl

in_step : (y x : ℕ) (o m t : Bool) → (y == x) ≡ t → ((o && nat_lt x 128) || ((t && nat_lt y 128) || m)) ≡ (((t || o) && nat_lt x 128) || m)
in_step y x o m true e = let same : y ≡ x = grind (arith, nat_tests) in ap (λ z. (o && nat_lt x 128) || (nat_lt z 128 || m)) same ∙ absorbed o (nat_lt x 128) m
in_step y x o m false e = refl

-- a variable is one of these, or in the set before
pub in_all : (xs : List ℕ) (members : ℕ → Bool) (x : ℕ) → also_all xs members x ≡ ((list_any (λ y. y == x) xs && nat_lt x 128) || members x)
in_all [] members x = refl
in_all (y ∷ ys) members x = in_all ys (also y members) x ∙ in_step y x (list_any (λ z. z == x) ys) (members x) (y == x) refl

-- ---- a variable of both
found_below : (n : ℕ) (a b : ℕ → Bool) → meets_below n a b ≡ true → (x : ℕ) × ((a x && b x) ≡ true)
unfolding meets_below
found_below zero a b h = absurd (cc h)
found_below (suc n) a b h = elim (or_cases (a n && b n) (meets_below n a b) h) [ inl e ↦ (n, e) | inr e ↦ found_below n a b e ]

none_at : (n : ℕ) (a b : ℕ → Bool) (x : ℕ) (t : Bool) → (x == n) ≡ t → x < suc n → (a n && b n) ≡ false → (x < n → (a x && b x) ≡ false) → (a x && b x) ≡ false
none_at n a b x true e i h next = let same : x ≡ n = grind (arith, nat_tests) in ap (λ z. a z && b z) same ∙ h
none_at n a b x false e i h next = let apart : x ≢ n = grind (arith, nat_tests) in next (omega (arith, i, apart))

none_below : (n : ℕ) (a b : ℕ → Bool) → meets_below n a b ≡ false → (x : ℕ) → x < n → (a x && b x) ≡ false
unfolding meets_below
none_below zero a b h x i = absurd (omega (arith, i))
none_below (suc n) a b h x i =
    let p = or_parts (a n && b n) (meets_below n a b) h in
    none_at n a b x (x == n) refl i p.0 (λ low. none_below n a b p.1 x low)

pub some_met : (a b : ℕ → Bool) → sets_meet a b ≡ true → (x : ℕ) × ((a x && b x) ≡ true)
unfolding sets_meet
some_met a b h = found_below 128 a b h

pub none_met : (a b : ℕ → Bool) → sets_meet a b ≡ false → (x : ℕ) → x < 128 → (a x && b x) ≡ false
unfolding sets_meet
none_met a b h x i = none_below 128 a b h x i

pub met_by : (a b : ℕ → Bool) (x : ℕ) → x < 128 → (a x && b x) ≡ true → sets_meet a b ≡ true
met_by a b x i h = true_from_ne_false (sets_meet a b) (λ e. both_ways (a x && b x) (none_met a b e x i) h)

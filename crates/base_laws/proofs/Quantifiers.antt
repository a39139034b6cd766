-- What holds of each element of a list, and what holds of one.
use Rattle.std.proofs.Common.{◌≡◌, ◌∙◌, ℕ, zero, suc, Bool, true, ◌||◌, refl, ap, sym, subst, List, [], ◌∷◌, ◌++◌, map, slice_get, slice_set, Some}
use Rattle.std.specs.List.{list_all, list_any, AllByRecursion}
use Rattle.std.proofs.lemmas.Bool.{and_from}
use Rattle.std.proofs.lemmas.List.Folds.{list_all-append}
use Rattle.base_laws.proofs.Booleans.{and_first, and_second}

pub list_all_at : {X : Type 0} (test : X → Bool) (xs : List X) (k : ℕ) (x : X) → list_all test xs ≡ true → slice_get xs k ≡ Some x → test x ≡ true
list_all_at test [] k x h e = absurd (cc e)
list_all_at test (y ∷ xs) zero x h e = let same : y ≡ x = cc e in ap test (sym same) ∙ and_first (test y) (list_all test xs) h
list_all_at test (y ∷ xs) (suc k) x h e = list_all_at test xs k x (and_second (test y) (list_all test xs) h) e

pub list_all_front : {X : Type 0} (test : X → Bool) (xs ys : List X) → list_all test (xs ++ ys) ≡ true → list_all test xs ≡ true
list_all_front test xs ys h = and_first (list_all test xs) (list_all test ys) (sym (list_all-append test xs ys) ∙ h)

pub list_all_back : {X : Type 0} (test : X → Bool) (xs ys : List X) → list_all test (xs ++ ys) ≡ true → list_all test ys ≡ true
list_all_back test xs ys h = and_second (list_all test xs) (list_all test ys) (sym (list_all-append test xs ys) ∙ h)

pub list_all_push : {X : Type 0} (test : X → Bool) (xs : List X) (x : X) → list_all test xs ≡ true → test x ≡ true → list_all test (xs ++ x ∷ []) ≡ true
list_all_push test [] x h e = and_from (test x) true e refl
list_all_push test (y ∷ xs) x h e = and_from (test y) (list_all test (xs ++ x ∷ [])) (and_first (test y) (list_all test xs) h)
    (list_all_push test xs x (and_second (test y) (list_all test xs) h) e)

pub list_all_weaker : {X : Type 0} (p q : X → Bool) → ((x : X) → p x ≡ true → q x ≡ true) → (xs : List X) → list_all p xs ≡ true → list_all q xs ≡ true
list_all_weaker p q f [] h = refl
list_all_weaker p q f (x ∷ xs) h = and_from (q x) (list_all q xs) (f x (and_first (p x) (list_all p xs) h))
    (list_all_weaker p q f xs (and_second (p x) (list_all p xs) h))

pub list_any_map : {A B : Type 0} (p : B → Bool) (f : A → B) (xs : List A) → list_any p (map f xs) ≡ list_any (λ x. p (f x)) xs
list_any_map p f [] = refl
list_any_map p f (x ∷ xs) = ap (λ r. p (f x) || r) (list_any_map p f xs)

-- ---- a fact of each element, by recursion on the list
pub each_at : {X : Type 0} (P : X → Type 0) (xs : List X) (k : ℕ) (x : X) → AllByRecursion P xs → slice_get xs k ≡ Some x → P x
each_at P [] k x h e = absurd (cc e)
each_at P (y ∷ xs) zero x h e = let same : y ≡ x = cc e in subst P same h.0
each_at P (y ∷ xs) (suc k) x h e = each_at P xs k x h.1 e

pub each_weaker : {X : Type 0} (P Q : X → Type 0) (xs : List X) → ((x : X) → P x → Q x) → AllByRecursion P xs → AllByRecursion Q xs
each_weaker P Q [] step h = tt
each_weaker P Q (x ∷ xs) step h = (step x h.0, each_weaker P Q xs step h.1)

pub each_append : {X : Type 0} (P : X → Type 0) (xs ys : List X) → AllByRecursion P xs → AllByRecursion P ys → AllByRecursion P (xs ++ ys)
each_append P [] ys h i = i
each_append P (x ∷ xs) ys h i = (h.0, each_append P xs ys h.1 i)

pub each_set : {X : Type 0} (P : X → Type 0) (xs : List X) (k : ℕ) (x : X) → AllByRecursion P xs → P x → AllByRecursion P (slice_set xs k x)
each_set P [] k x h g = tt
each_set P (y ∷ xs) zero x h g = (g, h.1)
each_set P (y ∷ xs) (suc k) x h g = (h.0, each_set P xs k x h.1 g)

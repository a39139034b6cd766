-- Lists: lengths, the element at a place, maps, and texts that are the same.
use Rattle.std.proofs.Common.{◌≡◌, ℕ, zero, suc, ◌+◌, ◌<◌, ◌≤◌, Bool, true, false, cond, refl, ap, sym, arith, List, [], ◌∷◌, ◌++◌, length, map, filter, drop}
use Rattle.std.proofs.Common.{get_or, slice_get, take, Some, None, Contains, bytes_eq, ◌∙◌}
use Rattle.std.proofs.lemmas.List.{map_push, take_all}
use Rattle.std.specs.List.{prefix_len}
use Rattle.std.proofs.lemmas.Slice.Eq.{bytes_eq-Decides}

pub length_map : {A B : Type 0} (f : A → B) (xs : List A) → length (map f xs) ≡ length xs
length_map f [] = refl
length_map f (x ∷ xs) = ap suc (length_map f xs)

pub length_filter : {X : Type 0} (test : X → Bool) (xs : List X) → length (filter test xs) ≤ length xs
length_filter test [] = omega arith
length_filter test (x ∷ xs) = by_test (test x) (length_filter test xs)
  where
    by_test : (b : Bool) → length (filter test xs) ≤ length xs → length (cond b (x ∷ filter test xs) (filter test xs)) ≤ suc (length xs)
    by_test true h = omega (arith, h)
    by_test false h = omega (arith, h)

pub map_map : {A B C : Type 0} (f : B → C) (g : A → B) (xs : List A) → map f (map g xs) ≡ map (λ x. f (g x)) xs
map_map f g [] = refl
map_map f g (x ∷ xs) = ap (λ r. f (g x) ∷ r) (map_map f g xs)

-- ---- the element at a place
pub element_at : {X : Type 0} (xs : List X) (k : ℕ) → k < length xs → (x : X) × (slice_get xs k ≡ Some x)
element_at [] k h = absurd (omega arith)
element_at (x ∷ xs) zero h = (x, refl)
element_at (x ∷ xs) (suc k) h = element_at xs k (omega (arith, h))

pub slice_get-none : {X : Type 0} (xs : List X) (k : ℕ) → slice_get xs k ≡ None → length xs ≤ k
slice_get-none [] k e = omega arith
slice_get-none (x ∷ xs) zero e = absurd (cc e)
slice_get-none (x ∷ xs) (suc k) e = let h = slice_get-none xs k e in omega arith

pub slice_get-of_map : {A B : Type 0} (f : A → B) (xs : List A) (k : ℕ) (x : A) → slice_get xs k ≡ Some x → slice_get (map f xs) k ≡ Some (f x)
slice_get-of_map f [] k x e = absurd (cc e)
slice_get-of_map f (y ∷ xs) zero x e = let same : y ≡ x = cc e in ap (λ z. Some (f z)) same
slice_get-of_map f (y ∷ xs) (suc k) x e = slice_get-of_map f xs k x e

pub slice_get-front : {X : Type 0} (xs ys : List X) (k : ℕ) (x : X) → slice_get xs k ≡ Some x → slice_get (xs ++ ys) k ≡ Some x
slice_get-front [] ys k x e = absurd (cc e)
slice_get-front (z ∷ xs) ys zero x e = e
slice_get-front (z ∷ xs) ys (suc k) x e = slice_get-front xs ys k x e

pub drop_next : {X : Type 0} (xs : List X) (i : ℕ) (x : X) → i < length xs → x ≡ get_or xs i x → drop i xs ≡ x ∷ drop (i + 1) xs
drop_next [] i x h e = absurd (omega arith)
drop_next (y ∷ xs) zero x h e = grind (arith, e)
drop_next (y ∷ xs) (suc i) x h e = grind (arith, drop_next xs i x (omega arith) e)

pub map_drop_next : {A B : Type 0} (f : A → B) (xs : List A) (i : ℕ) (x : A) → i < length xs → x ≡ get_or xs i x
    → map f (drop i xs) ≡ f x ∷ map f (drop (i + 1) xs)
map_drop_next f xs i x h e = ap (map f) (drop_next xs i x h e)

pub nothing_in_none : {X : Type 0} (xs : List X) (x : X) → xs ≡ [] → Contains xs x → ⊥
nothing_in_none xs x e c = let h : c.0 < length xs = c.1 in let n : length xs ≡ 0 = ap length e in omega arith

pub one_element : {X : Type 0} (xs : List X) → 0 < length xs → length xs ≤ 1 → (x : X) × (xs ≡ x ∷ [])
one_element [] h i = absurd (omega arith)
one_element (x ∷ []) h i = (x, refl)
one_element (x ∷ y ∷ xs) h i = absurd (omega arith)

pub prefix_len_more : {X : Type 0} (test : X → Bool) (x : X) (xs : List X) → test x ≡ true → prefix_len test (x ∷ xs) ≡ suc (prefix_len test xs)
prefix_len_more test x xs e = rw e (omega arith)

-- ---- the same texts
pub bytes_eq-self : (bs : List ℕ) → bytes_eq bs bs ≡ true
bytes_eq-self bs = (bytes_eq-Decides bs bs).1 refl

pub bytes_eq-true : (a b : List ℕ) → bytes_eq a b ≡ true → a ≡ b
bytes_eq-true a b e = (bytes_eq-Decides a b).0 e

pub bytes_eq-false_turned : (a b : List ℕ) → bytes_eq a b ≡ false → bytes_eq b a ≡ false
bytes_eq-false_turned a b e = by_answer (bytes_eq b a) refl
  where
    by_answer : (t : Bool) → bytes_eq b a ≡ t → bytes_eq b a ≡ false
    by_answer false h = h
    by_answer true h = absurd (let s : bytes_eq a b ≡ true = (bytes_eq-Decides a b).1 (sym ((bytes_eq-Decides b a).0 h)) in cc (s, e))

-- one value more, as f looks at it
pub map_grown : {T A : Type 0} (f : T → A) (old new : List T) (x : T) (y : A) → new ≡ old ++ x ∷ [] → f x ≡ y → map f new ≡ map f old ++ y ∷ []
map_grown f old new x y p e = ap (map f) p ∙ map_push f old x ∙ ap (λ z. map f old ++ z ∷ []) e

-- an item of a list, whatever stands for a place behind its last
pub same_there : {X : Type 0} (xs : List X) (i : ℕ) (a b : X) → i < length xs → get_or xs i a ≡ get_or xs i b
same_there [] i a b h = absurd (omega arith)
same_there (x ∷ xs) zero a b h = refl
same_there (x ∷ xs) (suc i) a b h = same_there xs i a b (omega arith)

-- behind the last place the whole list was looked at
pub of_whole : {A C : Type 0} (f : List A → C) (xs : List A) (i : ℕ) (y : C) → length xs ≤ i → y ≡ f (take i xs) → y ≡ f xs
of_whole f xs i y h e = e ∙ ap f (take_all i xs h)

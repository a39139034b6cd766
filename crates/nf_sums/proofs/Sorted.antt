-- Lists that are in order.
use Rattle.std.proofs.Common.{◌≡◌, Bool, true, ◌&&◌, List, [], ◌∷◌, ◌++◌, refl, sym, subst, append_assoc}
use Rattle.std.proofs.lemmas.Bool.{and_from}
use Rattle.nf_terms.proofs.Booleans.{and_first, and_second}

-- whether y may stand next after x
abbrev pub follows : {A : Type 0} → (A → A → Bool) → A → List A → Bool
follows before x [] = true
follows before x (y ∷ ys) = before x y

-- whether each element is good, and before the next one
abbrev pub sorted : {A : Type 0} → (A → Bool) → (A → A → Bool) → List A → Bool
sorted good before [] = true
sorted good before (x ∷ xs) = good x && follows before x xs && sorted good before xs

-- the same as a record
pub record Sorted {A : Type 0} (good : A → Bool) (before : A → A → Bool) (xs : List A) : Type 0 where
  pub holds : sorted good before xs ≡ true

module _ {A : Type 0} (good : A → Bool) (before : A → A → Bool) where
  pub good_of : (x : A) (xs : List A) → Sorted good before (x ∷ xs) → good x ≡ true
  good_of x xs h = and_first (good x) (follows before x xs) (and_first (good x && follows before x xs) (sorted good before xs) h.holds)

  pub follows_of : (x : A) (xs : List A) → Sorted good before (x ∷ xs) → follows before x xs ≡ true
  follows_of x xs h = and_second (good x) (follows before x xs) (and_first (good x && follows before x xs) (sorted good before xs) h.holds)

  pub rest_of : (x : A) (xs : List A) → Sorted good before (x ∷ xs) → Sorted good before xs
  rest_of x xs h = record { holds = and_second (good x && follows before x xs) (sorted good before xs) h.holds }

  pub sorting : (x : A) (xs : List A) → good x ≡ true → follows before x xs ≡ true → Sorted good before xs → Sorted good before (x ∷ xs)
  sorting x xs g f r = record { holds = and_from (good x && follows before x xs) (sorted good before xs) (and_from (good x) (follows before x xs) g f) r.holds }

  -- the back of a list
  pub back_of : (xs ys : List A) → Sorted good before (xs ++ ys) → Sorted good before ys
  back_of [] ys h = h
  back_of (x ∷ xs) ys h = back_of xs ys (rest_of x (xs ++ ys) h)

  -- the front of a list
  pub front_of : (xs ys : List A) → Sorted good before (xs ++ ys) → Sorted good before xs
  front_of [] ys h = record { holds = refl }
  front_of (x ∷ []) ys h = sorting x [] (good_of x ys h) refl (record { holds = refl })
  front_of (x ∷ y ∷ xs) ys h = sorting x (y ∷ xs) (good_of x (y ∷ xs ++ ys) h) (follows_of x (y ∷ xs ++ ys) h)
      (front_of (y ∷ xs) ys (rest_of x (y ∷ xs ++ ys) h))

  -- another rest after x
  pub sorted_keep : (xs : List A) (x : A) (l m : List A) → Sorted good before (xs ++ x ∷ l) → follows before x m ≡ true → Sorted good before m
      → Sorted good before (xs ++ x ∷ m)
  sorted_keep [] x l m h f r = sorting x m (good_of x l h) f r
  sorted_keep (a ∷ []) x l m h f r = sorting a (x ∷ m) (good_of a (x ∷ l) h) (follows_of a (x ∷ l) h) (sorted_keep [] x l m (rest_of a (x ∷ l) h) f r)
  sorted_keep (a ∷ b ∷ xs) x l m h f r = sorting a (b ∷ xs ++ x ∷ m) (good_of a (b ∷ xs ++ x ∷ l) h) (follows_of a (b ∷ xs ++ x ∷ l) h)
      (sorted_keep (b ∷ xs) x l m (rest_of a (b ∷ xs ++ x ∷ l) h) f r)

  -- without x
  pub sorted_drop : ((x y z : A) → before x y ≡ true → before y z ≡ true → before x z ≡ true) → (xs : List A) (x : A) (l : List A)
      → Sorted good before (xs ++ x ∷ l) → Sorted good before (xs ++ l)
  sorted_drop trans [] x l h = rest_of x l h
  sorted_drop trans (a ∷ []) x [] h = sorting a [] (good_of a (x ∷ []) h) refl (record { holds = refl })
  sorted_drop trans (a ∷ []) x (y ∷ l) h =
      let k : Sorted good before (x ∷ y ∷ l) = rest_of a (x ∷ y ∷ l) h in
      sorting a (y ∷ l) (good_of a (x ∷ y ∷ l) h) (trans a x y (follows_of a (x ∷ y ∷ l) h) (follows_of x (y ∷ l) k)) (rest_of x (y ∷ l) k)
  sorted_drop trans (a ∷ b ∷ xs) x l h = sorting a (b ∷ xs ++ l) (good_of a (b ∷ xs ++ x ∷ l) h) (follows_of a (b ∷ xs ++ x ∷ l) h)
      (sorted_drop trans (b ∷ xs) x l (rest_of a (b ∷ xs ++ x ∷ l) h))

  -- another element in the place of x
  pub sorted_change : (x y : A) → good y ≡ true → ((z : A) → before x z ≡ before y z) → ((z : A) → before z x ≡ before z y) → (xs l : List A)
      → Sorted good before (xs ++ x ∷ l) → Sorted good before (xs ++ y ∷ l)
  sorted_change x y g after ahead [] l h = sorting y l g (same_follows l (follows_of x l h)) (rest_of x l h)
    where
      same_follows : (l : List A) → follows before x l ≡ true → follows before y l ≡ true
      same_follows [] e = refl
      same_follows (z ∷ l) e = let a : before x z ≡ before y z = after z in cc
  sorted_change x y g after ahead (a ∷ []) l h =
      let e : before a x ≡ before a y = ahead a in
      let f : before a x ≡ true = follows_of a (x ∷ l) h in
      sorting a (y ∷ l) (good_of a (x ∷ l) h) (cc) (sorted_change x y g after ahead [] l (rest_of a (x ∷ l) h))
  sorted_change x y g after ahead (a ∷ b ∷ xs) l h = sorting a (b ∷ xs ++ y ∷ l) (good_of a (b ∷ xs ++ x ∷ l) h) (follows_of a (b ∷ xs ++ x ∷ l) h)
      (sorted_change x y g after ahead (b ∷ xs) l (rest_of a (b ∷ xs ++ x ∷ l) h))

  -- x goes from the rest to the front
  pub sorted_move : (out : List A) (x : A) (a : List A) → Sorted good before (out ++ x ∷ a) → Sorted good before ((out ++ x ∷ []) ++ a)
  sorted_move out x a h = subst (Sorted good before) (sym (append_assoc out (x ∷ []) a)) h

  -- x goes between the front and another rest
  pub sorted_insert : (out : List A) (x : A) (a b : List A) → Sorted good before (out ++ x ∷ a) → Sorted good before (out ++ b) → follows before x b ≡ true
      → Sorted good before ((out ++ x ∷ []) ++ b)
  sorted_insert out x a b h k f = sorted_move out x b (sorted_keep out x a b h f (back_of out b k))

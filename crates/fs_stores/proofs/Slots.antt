-- What is left where one value of a store is replaced.
use Rattle.std.proofs.Common.{◌≡◌, get_or, ℕ, zero, suc, List, [], ◌∷◌, ◌++◌, ◌<◌, ◌≤◌, ◌==◌, ◌+◌, ◌∙◌, ap, sym, refl, length, take, drop, add-one, drop-cons}
use Rattle.std.proofs.Common.{arith, cond, Bool, true, false, Option, Some, None}
use Rattle.std.specs.Prelude.{ℤ, slice_get, slice_set, map, option_map}
use Rattle.std.specs.List.{list_all}
use Rattle.std.specs.Ordering.{int_eq}
use Rattle.std.proofs.lemmas.Bool.{cases_lt, and_from}
use Rattle.std.proofs.lemmas.Option.{slice_get-get_or, slice_get_past, slice_get-map}
use Rattle.std.proofs.lemmas.List.Folds.{list_all_more}
use Rattle.std.proofs.lemmas.Bool.Decides.{nat_tests}
use Rattle.std.proofs.Math.Seq.{map-set_same}
use Rattle.base_laws.proofs.Booleans.{and_first, and_second}
use Rattle.base_laws.proofs.Numbers.{eqb_suc}
use Rattle.fs_model.specs.declared.parts.Sort.{Sort}
use Rattle.fs_model.specs.declared.parts.Sort.TheVariants.{Scalar, Array, Port}
use Rattle.fs_model.specs.Stores.{store_with_number, store_with_entry, store_with_emit}
use Rattle.fs_model.proofs.Stores.{store_ext}
use Rattle.fs_stores.specs.declared.values.Value.{Value}
use Rattle.fs_stores.specs.declared.values.Value.TheVariants.{Num, Arr}
use Rattle.fs_stores.specs.declared.values.Value.TheVariants as values
use Rattle.fs_stores.specs.declared.changes.Change.{Change}
use Rattle.fs_stores.specs.declared.changes.Change.TheVariants.{Set, Put, Append}
use Rattle.fs_stores.specs.declared.numbers.Numbers.{Numbers}
use Rattle.fs_stores.specs.Values.{store_from, value_number, entry_in, value_list, sort_of, has_room}
use Rattle.fs_stores.specs.Changes.{ReadsAlike, PutsAtIndex, Appends, KeepsRoom, is_number_value, is_array_value, is_list, room_in, room_for, suits}
use Rattle.fs_stores.specs.Changes.{is_ready_change, StaysReady}

number_in-cond : (b : Bool) (v : Value) (o : Option Value) → value_number (cond b (Some v) o) ≡ cond b (value_number (Some v)) (value_number o)
number_in-cond true v o = refl
number_in-cond false v o = refl

entry_in-cond : (b : Bool) (v : Value) (o : Option Value) (i : ℤ) → entry_in (cond b (Some v) o) i ≡ cond b (entry_in (Some v) i) (entry_in o i)
entry_in-cond true v o i = refl
entry_in-cond false v o i = refl

list_in-cond : (b : Bool) (v : Value) (o : Option Value) → value_list (cond b (Some v) o) ≡ cond b (value_list (Some v)) (value_list o)
list_in-cond true v o = refl
list_in-cond false v o = refl

-- one value replaced
pub get-set_value : (vs : List Value) (x : ℕ) (o n : Value) (y : ℕ) → slice_get vs x ≡ Some o
    → slice_get (slice_set vs x n) y ≡ cond (y == x) (Some n) (slice_get vs y)
get-set_value [] x o n y e = cc
get-set_value (a ∷ rest) zero o n zero e = refl
get-set_value (a ∷ rest) zero o n (suc y) e = grind arith
get-set_value (a ∷ rest) (suc x) o n zero e = grind arith
get-set_value (a ∷ rest) (suc x) o n (suc y) e = get-set_value rest x o n y e ∙ ap (λ b. cond b (Some n) (slice_get rest y)) (eqb_suc y x)

-- a choice at the place itself
at_place : {X : Type 0} (y x : ℕ) (f : Option Value → X) (vs : List Value) (o : Value) → slice_get vs x ≡ Some o
    → cond (y == x) (f (Some o)) (f (slice_get vs y)) ≡ f (slice_get vs y)
at_place y x f vs o e = grind (arith, nat_tests, e)

emitted_there : (y x : ℕ) (v : ℤ) (vs : List Value) (o : Value) → slice_get vs x ≡ Some o
    → cond (y == x) (value_list (Some o) ++ v ∷ []) (value_list (slice_get vs y))
    ≡ cond (y == x) (value_list (slice_get vs y) ++ v ∷ []) (value_list (slice_get vs y))
emitted_there y x v vs o e = grind (arith, nat_tests, e)

-- what is left where a value that reads as another in one way takes its place
number_stays : (vs : List Value) (x : ℕ) (o n : Value) → slice_get vs x ≡ Some o → value_number (Some n) ≡ value_number (Some o) → (y : ℕ)
    → value_number (slice_get (slice_set vs x n) y) ≡ value_number (slice_get vs y)
number_stays vs x o n e h y = ap value_number (get-set_value vs x o n y e) ∙ number_in-cond (y == x) n (slice_get vs y)
    ∙ ap (λ w. cond (y == x) w (value_number (slice_get vs y))) h ∙ at_place y x value_number vs o e

entries_stay : (vs : List Value) (x : ℕ) (o n : Value) → slice_get vs x ≡ Some o → ((j : ℤ) → entry_in (Some n) j ≡ entry_in (Some o) j) → (y : ℕ) (j : ℤ)
    → entry_in (slice_get (slice_set vs x n) y) j ≡ entry_in (slice_get vs y) j
entries_stay vs x o n e h y j =
    ap (λ o. entry_in o j) (get-set_value vs x o n y e) ∙ entry_in-cond (y == x) n (slice_get vs y) j
    ∙ ap (λ w. cond (y == x) w (entry_in (slice_get vs y) j)) (h j)
    ∙ at_place y x (λ o. entry_in o j) vs o e

list_stays : (vs : List Value) (x : ℕ) (o n : Value) → slice_get vs x ≡ Some o → value_list (Some n) ≡ value_list (Some o) → (y : ℕ)
    → value_list (slice_get (slice_set vs x n) y) ≡ value_list (slice_get vs y)
list_stays vs x o n e h y = ap value_list (get-set_value vs x o n y e) ∙ list_in-cond (y == x) n (slice_get vs y)
    ∙ ap (λ w. cond (y == x) w (value_list (slice_get vs y))) h ∙ at_place y x value_list vs o e

written_there : (y x : ℕ) (i j v : ℤ) (vs : List Value) (o : Value) → slice_get vs x ≡ Some o
    → cond (y == x) (cond (int_eq i j) v (entry_in (Some o) j)) (entry_in (slice_get vs y) j)
    ≡ cond (y == x) (cond (int_eq i j) v (entry_in (slice_get vs y) j)) (entry_in (slice_get vs y) j)
written_there y x i j v vs o e = grind (arith, nat_tests, e)

pub put_stands : (vs : List Value) (x : ℕ) (o n : Value) (i v : ℤ) → slice_get vs x ≡ Some o → PutsAtIndex i v o n
    → store_from (slice_set vs x n) ≡ store_with_entry (store_from vs) x i v
put_stands vs x o n i v e u = store_ext _ _ (number_stays vs x o n e u.number)
    (λ y j. ap (λ o. entry_in o j) (get-set_value vs x o n y e) ∙ entry_in-cond (y == x) n (slice_get vs y) j
    ∙ ap (λ w. cond (y == x) w (entry_in (slice_get vs y) j)) (u.entries j)
    ∙ written_there y x i j v vs o e)
    (list_stays vs x o n e u.list)

pub append_stands : (vs : List Value) (x : ℕ) (o n : Value) (v : ℤ) → slice_get vs x ≡ Some o → Appends v o n
    → store_from (slice_set vs x n) ≡ store_with_emit (store_from vs) x v
append_stands vs x o n v e u = store_ext _ _ (number_stays vs x o n e u.number) (entries_stay vs x o n e u.entries)
    (λ y. ap value_list (get-set_value vs x o n y e) ∙ list_in-cond (y == x) n (slice_get vs y)
    ∙ ap (λ w. cond (y == x) w (value_list (slice_get vs y))) u.list
    ∙ emitted_there y x v vs o e)

pub same_stands : (vs : List Value) (x : ℕ) (o n : Value) → slice_get vs x ≡ Some o → ReadsAlike o n
    → store_from (slice_set vs x n) ≡ store_from vs
same_stands vs x o n e u = store_ext _ _ (number_stays vs x o n e u.number) (entries_stay vs x o n e u.entries) (list_stays vs x o n e u.list)

no_entries : (o : Value) (j v : ℤ) → is_number_value (Some o) ≡ true → entry_in (Some (Num v)) j ≡ entry_in (Some o) j
no_entries (Num n) j v e = refl
no_entries (Arr m) j v e = absurd (cc)
no_entries (values.List l) j v e = refl

no_list : (o : Value) (v : ℤ) → is_number_value (Some o) ≡ true → value_list (Some (Num v)) ≡ value_list (Some o)
no_list (Num n) v e = refl
no_list (Arr m) v e = refl
no_list (values.List l) v e = absurd (cc)

pub set_stands : (vs : List Value) (x : ℕ) (o : Value) (v : ℤ) → slice_get vs x ≡ Some o → is_number_value (Some o) ≡ true
    → store_from (slice_set vs x (Num v)) ≡ store_with_number (store_from vs) x v
set_stands vs x o v e u = store_ext _ _
    (λ y. ap value_number (get-set_value vs x o (Num v) y e) ∙ number_in-cond (y == x) (Num v) (slice_get vs y))
    (entries_stay vs x o (Num v) e (λ j. no_entries o j v u))
    (list_stays vs x o (Num v) e (no_list o v u))

pub number_sort : (o : Value) (v : ℤ) → is_number_value (Some o) ≡ true → sort_of (Num v) ≡ sort_of o
number_sort (Num n) v e = refl
number_sort (Arr m) v e = absurd (cc)
number_sort (values.List l) v e = absurd (cc)

pub sorts_stand : (vs : List Value) (x : ℕ) (d n : Value) → sort_of n ≡ sort_of (get_or vs x d) → map sort_of (slice_set vs x n) ≡ map sort_of vs
sorts_stand vs x d n h = map-set_same sort_of vs x n d h

pub sorts_stand_number : (vs : List Value) (x : ℕ) (d : Value) (v : ℤ) → is_number_value (Some (get_or vs x d)) ≡ true
    → map sort_of (slice_set vs x (Num v)) ≡ map sort_of vs
sorts_stand_number vs x d v h = sorts_stand vs x d (Num v) (number_sort (get_or vs x d) v h)

-- a value that is there

past_none : (vs : List Value) (x : ℕ) (f : Option Value → Bool) → f None ≡ false → f (slice_get vs x) ≡ true → x < length vs
past_none vs x f n e = grind (arith, slice_get_past vs x, cases_lt x (length vs), n, e)

pub within_number : (vs : List Value) (x : ℕ) → is_number_value (slice_get vs x) ≡ true → x < length vs
within_number vs x e = past_none vs x is_number_value refl e

pub within_array : (vs : List Value) (x : ℕ) → is_array_value (slice_get vs x) ≡ true → x < length vs
within_array vs x e = past_none vs x is_array_value refl e

pub within_room : (vs : List Value) (x : ℕ) (i : ℤ) → room_in (slice_get vs x) i ≡ true → x < length vs
within_room vs x i e = past_none vs x (λ o. room_in o i) refl e

pub within_list : (vs : List Value) (x : ℕ) → is_list (slice_get vs x) ≡ true → x < length vs
within_list vs x e = past_none vs x is_list refl e

pub within_room_for : (vs : List Value) (x n : ℕ) → room_for (slice_get vs x) n ≡ true → x < length vs
within_room_for vs x n e = past_none vs x (λ o. room_for o n) refl e

pub is_there : (vs : List Value) (x : ℕ) (d : Value) → x < length vs → slice_get vs x ≡ Some (get_or vs x d)
is_there vs x d h = slice_get-get_or vs x d h

-- what is ready stays so

number_by_sort : (o n : Value) → sort_of n ≡ sort_of o → is_number_value (Some n) ≡ is_number_value (Some o)
number_by_sort (Num a) (Num b) e = refl
number_by_sort (Num a) (Arr b) e = absurd (cc)
number_by_sort (Num a) (values.List b) e = absurd (cc)
number_by_sort (Arr a) (Num b) e = absurd (cc)
number_by_sort (Arr a) (Arr b) e = refl
number_by_sort (Arr a) (values.List b) e = refl
number_by_sort (values.List a) (Num b) e = absurd (cc)
number_by_sort (values.List a) (Arr b) e = refl
number_by_sort (values.List a) (values.List b) e = refl

is_number-cond : (b : Bool) (v : Value) (o : Option Value) → is_number_value (cond b (Some v) o) ≡ cond b (is_number_value (Some v)) (is_number_value o)
is_number-cond true v o = refl
is_number-cond false v o = refl

room_cond : (b : Bool) (f g : Option Value → Bool) (o n : Value) (p : Option Value) → (f (Some o) ≡ true → g (Some n) ≡ true) → (f p ≡ true → g p ≡ true)
    → (b ≡ true → p ≡ Some o) → f p ≡ true → g (cond b (Some n) p) ≡ true
room_cond true f g o n p here there h e = here (sym (ap f (h refl)) ∙ e)
room_cond false f g o n p here there h e = there e

same_place : (y x : ℕ) (vs : List Value) (o : Value) → slice_get vs x ≡ Some o → (y == x) ≡ true → slice_get vs y ≡ Some o
same_place y x vs o e h = grind (arith, nat_tests, e, h)

-- room for more numbers is room for fewer
fewer : (l : Numbers) (m n : ℕ) → n ≤ m → has_room l m ≡ true → has_room l n ≡ true
fewer l m n h e = grind (arith, nat_tests)

room_for_fewer : (p : Option Value) (m n : ℕ) → n ≤ m → room_for p m ≡ true → room_for p n ≡ true
room_for_fewer None m n h e = e
room_for_fewer (Some (Num a)) m n h e = e
room_for_fewer (Some (Arr a)) m n h e = e
room_for_fewer (Some (values.List l)) m n h e = fewer l m n h e

pub keeps_ready : (m n : ℕ) → n ≤ m → (vs : List Value) (x : ℕ) (o w : Value) → slice_get vs x ≡ Some o → KeepsRoom m n o w → sort_of w ≡ sort_of o
    → (c : Change) → is_ready_change m vs c ≡ true → is_ready_change n (slice_set vs x w) c ≡ true
keeps_ready m n less vs x o w e k h (Set y v) r =
    ap is_number_value (get-set_value vs x o w y e) ∙ is_number-cond (y == x) w (slice_get vs y)
    ∙ ap (λ z. cond (y == x) z (is_number_value (slice_get vs y))) (number_by_sort o w h) ∙ at_place y x is_number_value vs o e ∙ r
keeps_ready m n less vs x o w e k h (Put y i v) r =
    ap (λ p. room_in p i) (get-set_value vs x o w y e) ∙ room_cond (y == x) (λ p. room_in p i) (λ p. room_in p i) o w (slice_get vs y) (k.entries i) (λ s. s)
    (same_place y x vs o e) r
keeps_ready m n less vs x o w e k h (Append y v) r =
    ap (λ p. room_for p n) (get-set_value vs x o w y e) ∙ room_cond (y == x) (λ p. room_for p m)
    (λ p. room_for p n) o w (slice_get vs y) k.numbers (room_for_fewer (slice_get vs y) m n less) (same_place y x vs o e) r

-- the place itself, once it is replaced
pub replaced : (vs : List Value) (x : ℕ) (w : Value) → x < length vs → slice_get (slice_set vs x w) x ≡ Some w
replaced [] x w h = absurd (omega arith)
replaced (v ∷ vs) zero w h = refl
replaced (v ∷ vs) (suc x) w h = replaced vs x w (omega arith)

-- room was made in one value
pub stays_ready : (vs : List Value) (x : ℕ) (d w : Value) → x < length vs → ((n : ℕ) → KeepsRoom n n (get_or vs x d) w) → ReadsAlike (get_or vs x d) w
    → StaysReady vs (slice_set vs x w)
stays_ready vs x d w h keeps same =
    let there = is_there vs x d h in
    record {
      keeps = λ n. keeps_ready n n (omega arith) vs x (get_or vs x d) w there (keeps n) same.sort;
      same = same_stands vs x (get_or vs x d) w there same;
      sorts = sorts_stand vs x d w same.sort;
    }

-- what is ready as one of more changes is ready as one of fewer
pub ready_fewer : (m n : ℕ) → n ≤ m → (vs : List Value) (c : Change) → is_ready_change m vs c ≡ true → is_ready_change n vs c ≡ true
ready_fewer m n less vs (Set y v) r = r
ready_fewer m n less vs (Put y i v) r = r
ready_fewer m n less vs (Append y v) r = room_for_fewer (slice_get vs y) m n less r

no_room : (o : Value) (i : ℤ) → is_number_value (Some o) ≡ true → room_in (Some o) i ≡ false
no_room (Num n) i e = refl
no_room (Arr m) i e = absurd (cc)
no_room (values.List l) i e = refl

no_room_for : (o : Value) (n : ℕ) → is_number_value (Some o) ≡ true → room_for (Some o) n ≡ false
no_room_for (Num m) n e = refl
no_room_for (Arr m) n e = refl
no_room_for (values.List l) n e = absurd (cc)

pub number_keeps : (m n : ℕ) (o : Value) (v : ℤ) → is_number_value (Some o) ≡ true → KeepsRoom m n o (Num v)
number_keeps m n o v e = record { entries = λ j r. absurd (cc (no_room o j e)); numbers = λ r. absurd (cc (no_room_for o m e)) }

-- sorts decide what suits

suits_by : Change → Option Sort → Bool
suits_by (Set x v) None = false
suits_by (Set x v) (Some Scalar) = true
suits_by (Set x v) (Some Array) = false
suits_by (Set x v) (Some Port) = false
suits_by (Put x i v) None = false
suits_by (Put x i v) (Some Scalar) = false
suits_by (Put x i v) (Some Array) = true
suits_by (Put x i v) (Some Port) = false
suits_by (Append x v) None = false
suits_by (Append x v) (Some Scalar) = false
suits_by (Append x v) (Some Array) = false
suits_by (Append x v) (Some Port) = true

place_of : Change → ℕ
place_of (Set x v) = x
place_of (Put x i v) = x
place_of (Append x v) = x

suits_sort : (c : Change) (vs : List Value) → suits vs c ≡ suits_by c (option_map sort_of (slice_get vs (place_of c)))
unfolding suits_by place_of
suits_sort (Set x v) vs = elim (slice_get vs x) as (λ o. is_number_value o ≡ suits_by (Set x v) (option_map sort_of o)) [
  | None ↦ refl
  | Some w ↦
      (elim w as (λ w. is_number_value (Some w) ≡ suits_by (Set x v) (option_map sort_of (Some w))) [ Num n ↦ refl | Arr m ↦ refl | values.List l ↦ refl ])
]
suits_sort (Put x i v) vs = elim (slice_get vs x) as (λ o. is_array_value o ≡ suits_by (Put x i v) (option_map sort_of o)) [
  | None ↦ refl
  | Some w ↦
      (elim w as (λ w. is_array_value (Some w) ≡ suits_by (Put x i v) (option_map sort_of (Some w))) [ Num n ↦ refl | Arr m ↦ refl | values.List l ↦ refl ])
]
suits_sort (Append x v) vs = elim (slice_get vs x) as (λ o. is_list o ≡ suits_by (Append x v) (option_map sort_of o)) [
  | None ↦ refl
  | Some w ↦ (elim w as (λ w. is_list (Some w) ≡ suits_by (Append x v) (option_map sort_of (Some w))) [ Num n ↦ refl | Arr m ↦ refl | values.List l ↦ refl ])
]

pub suits_same : (vs ws : List Value) (c : Change) → map sort_of vs ≡ map sort_of ws → suits vs c ≡ suits ws c
suits_same vs ws c e =
    suits_sort c vs
    ∙ ap (suits_by c) (sym (slice_get-map sort_of vs (place_of c)) ∙ ap (λ l. slice_get l (place_of c)) e ∙ slice_get-map sort_of ws (place_of c))
    ∙ sym (suits_sort c ws)

-- tests over lists

pub all_at : {X : Type 0} (p : X → Bool) (xs : List X) (i : ℕ) (d : X) → i < length xs → list_all p xs ≡ true → p (get_or xs i d) ≡ true
all_at p [] i d h e = absurd (omega arith)
all_at p (x ∷ xs) zero d h e = and_first (p x) (list_all p xs) e
all_at p (x ∷ xs) (suc i) d h e = all_at p xs i d (omega arith) (and_second (p x) (list_all p xs) e)

pub all_mono : {X : Type 0} (p q : X → Bool) (xs : List X) → ((x : X) → p x ≡ true → q x ≡ true) → list_all p xs ≡ true → list_all q xs ≡ true
all_mono p q [] h e = refl
all_mono p q (x ∷ xs) h e = and_from (q x) (list_all q xs) (h x (and_first (p x) (list_all p xs) e)) (all_mono p q xs h (and_second (p x) (list_all p xs) e))

pub all_more : {X : Type 0} (p : X → Bool) (xs : List X) (i : ℕ) (d : X) → i < length xs → list_all p (take i xs) ≡ true → p (get_or xs i d) ≡ true
    → list_all p (take (i + 1) xs) ≡ true
all_more p xs i d h a b = list_all_more p xs i d h ∙ and_from (list_all p (take i xs)) (p (get_or xs i d)) a b

pub left_cons : {X : Type 0} (xs : List X) (i : ℕ) (d : X) → i < length xs → drop i xs ≡ get_or xs i d ∷ drop (i + 1) xs
left_cons xs i d h = drop-cons xs i d h ∙ ap (λ k. get_or xs i d ∷ drop k xs) (sym (add-one i))

pub all_first : {X : Type 0} (p : X → Bool) (x : X) (xs : List X) → list_all p (x ∷ xs) ≡ true → p x ≡ true
all_first p x xs e = and_first (p x) (list_all p xs) e

pub all_rest : {X : Type 0} (p : X → Bool) (x : X) (xs : List X) → list_all p (x ∷ xs) ≡ true → list_all p xs ≡ true
all_rest p x xs e = and_second (p x) (list_all p xs) e

pub number_there : (vs : List Value) (x : ℕ) (o : Value) → slice_get vs x ≡ Some o → is_number_value (slice_get vs x) ≡ true → is_number_value (Some o) ≡ true
number_there vs x o e h = sym (ap is_number_value e) ∙ h

pub one_fewer : (n : ℕ) → n ≤ suc n
one_fewer n = omega arith

-- changes that are ready, the first of them, and the others once it is made
pub ready_first : (vs : List Value) (c : Change) (rest : List Change) → list_all (is_ready_change (length (c ∷ rest)) vs) (c ∷ rest) ≡ true
    → is_ready_change 1 vs c ≡ true
ready_first vs c rest e = ready_fewer (length (c ∷ rest)) 1 (omega arith) vs c (all_first (is_ready_change (length (c ∷ rest)) vs) c rest e)

pub ready_rest : (old new : List Value) (c : Change) (rest : List Change)
    → ((n : ℕ) (d : Change) → is_ready_change (suc n) old d ≡ true → is_ready_change n new d ≡ true)
    → list_all (is_ready_change (length (c ∷ rest)) old) (c ∷ rest) ≡ true → list_all (is_ready_change (length rest) new) rest ≡ true
ready_rest old new c rest k e = all_mono (is_ready_change (length (c ∷ rest)) old) (is_ready_change (length rest) new) rest (k (length rest))
    (all_rest (is_ready_change (length (c ∷ rest)) old) c rest e)

-- A list that grows by a number at a time is the list of all of them.
use Rattle.std.proofs.Common.{◌≡◌, ℕ, zero, suc, ◌<◌, ◌≤◌, Bool, true, false, cond, leb, List, [], ◌∷◌, ◌++◌, length, take, refl, sym, ◌∙◌, ap, arith}
use Rattle.std.proofs.Common.{append_assoc, append-nil, length-append, drop, get_or, ◌+◌}
use Rattle.std.specs.Prelude.{ℤ, pos, negsuc, ◌+ℤ◌, ◌-ℤ◌, neg_ℤ, not, ◌&&◌, ◌||◌, Option, Some, None, FitsSigned, nat_le}
use Rattle.std.specs.Int.{w128}
use Rattle.std.specs.List.{filter, fold, flat_map, AllByRecursion, IsDistinct}
use Rattle.std.specs.Option.{SomeIff, option_to_list}
use Rattle.std.specs.Ordering.{int_eq}
use Rattle.std.proofs.lemmas.Bool.Decides.{Decides-int_eq, nat_tests}
use Rattle.std.proofs.lemmas.Grind.{flat_map-append}
use Rattle.std.proofs.lemmas.Int.{ints}
use Rattle.std.proofs.lemmas.List.{take_all, take-append-le, length-take, at_drop_all}
use Rattle.std.proofs.lemmas.List.Elements.{filter_agree}
use Rattle.std.proofs.lemmas.List.Folds.{list_any-append}
use Rattle.std.proofs.lemmas.List.Sums.{fold-append}
use Rattle.fs_model.proofs.Lists.{drop_next}
use Rattle.fs_trials.specs.Pool.{is_pool_number, first_values, fixed_values, neighbours, distinct, first_distinct, pool_from, further_values, is_in_pool}
use Rattle.fs_trials.specs.Pool.{with_both_signs, signed_values, with_pool_number}

-- ---- loops that add numbers

-- one more number, in front of those that are left
pub number_moves_into_pool : (room : ℕ) (old new xs : List ℤ) (i : ℕ) (x : ℤ) → i < length xs → x ≡ get_or xs i x → new ≡ with_pool_number room old x
    → fold (with_pool_number room) new (drop (i + 1) xs) ≡ fold (with_pool_number room) old (drop i xs)
number_moves_into_pool room old new xs i x h at n =
    ap (λ p. fold (with_pool_number room) p (drop (i + 1) xs)) n ∙ ap (fold (with_pool_number room) old) (sym (drop_next xs i x h at))

-- what one more number makes, in front of what the numbers that are left make
pub more_made : (make : ℤ → List ℤ) (room : ℕ) (old new xs : List ℤ) (i : ℕ) (x : ℤ) → i < length xs → x ≡ get_or xs i x
    → new ≡ fold (with_pool_number room) old (make x)
    → fold (with_pool_number room) new (flat_map make (drop (i + 1) xs)) ≡ fold (with_pool_number room) old (flat_map make (drop i xs))
more_made make room old new xs i x h at n =
    ap (λ p. fold (with_pool_number room) p (flat_map make (drop (i + 1) xs))) n
    ∙ sym (fold-append (with_pool_number room) old (make x) (flat_map make (drop (i + 1) xs)))
    ∙ ap (λ l. fold (with_pool_number room) old (flat_map make l)) (sym (drop_next xs i x h at))

-- behind the last number a list is what all of them make
pub none_left : (f : List ℤ → List ℤ) (old all xs : List ℤ) (i : ℕ) → f [] ≡ old → length xs ≤ i → f (drop i xs) ≡ all → old ≡ all
none_left f old all xs i e h so_far = sym e ∙ sym (at_drop_all f xs i h) ∙ so_far

-- ---- numbers of 128 bits

fits_is : (z : ℤ) → is_pool_number z ≡ true → FitsSigned w128 z
fits_is (pos n) h = grind (arith, nat_tests, ints)
fits_is (negsuc n) h = grind (arith, nat_tests, ints)

pub is_fits : (z : ℤ) → FitsSigned w128 z → is_pool_number z ≡ true
is_fits (pos n) h = grind (arith, nat_tests, ints)
is_fits (negsuc n) h = grind (arith, nat_tests, ints)

pub kept_some : (r : Option ℤ) (z : ℤ) → SomeIff r (FitsSigned w128 z) z → option_to_list r ≡ filter is_pool_number (z ∷ [])
kept_some None z h =
    elim (is_pool_number z) as (λ b. is_pool_number z ≡ b → [] ≡ cond b (z ∷ []) []) [
      | true ↦ λ e. absurd (h (fits_is z e))
      | false ↦ λ e. refl
    ] refl
kept_some (Some v) z h = rw (is_fits z h.0) (ap (λ w. w ∷ []) h.1)

-- ---- what is new to a pool

new_to : List ℤ → ℤ → Bool
new_to p v = not (is_in_pool v p)

filter_filter : (f g : ℤ → Bool) (xs : List ℤ) → filter f (filter g xs) ≡ filter (λ x. g x && f x) xs
filter_filter f g [] = refl
filter_filter f g (x ∷ xs) =
    elim (g x) as (λ b. filter f (cond b (x ∷ filter g xs) (filter g xs)) ≡ cond (b && f x) (x ∷ filter (λ y. g y && f y) xs) (filter (λ y. g y && f y) xs)) [
      | true ↦ ap (λ r. cond (f x) (x ∷ r) r) (filter_filter f g xs)
      | false ↦ filter_filter f g xs
    ]

known_goes : (p : List ℤ) (v w : ℤ) → is_in_pool v p ≡ true → (not (int_eq v w) && not (is_in_pool w p)) ≡ not (is_in_pool w p)
known_goes p v w h =
    elim (int_eq v w) as (λ b. int_eq v w ≡ b → (not b && not (is_in_pool w p)) ≡ not (is_in_pool w p)) [
      | true ↦ λ e. let same : v ≡ w = (Decides-int_eq v w).0 e in sym (ap not (ap (λ u. is_in_pool u p) (sym same) ∙ h))
      | false ↦ λ e. refl
    ] refl

negated_or : (a b : Bool) → not (a || (b || false)) ≡ (not b && not a)
negated_or true true = refl
negated_or true false = refl
negated_or false true = refl
negated_or false false = refl

new_behind : (p : List ℤ) (v w : ℤ) → not (is_in_pool w (p ++ v ∷ [])) ≡ (not (int_eq v w) && not (is_in_pool w p))
new_behind p v w = ap not (list_any-append (λ u. int_eq u w) p (v ∷ [])) ∙ negated_or (is_in_pool w p) (int_eq v w)

known_left : (p : List ℤ) (v : ℤ) (ds : List ℤ) → is_in_pool v p ≡ true
    → filter (λ w. not (is_in_pool w p)) (v ∷ filter (λ w. not (int_eq v w)) ds) ≡ filter (λ w. not (is_in_pool w p)) ds
known_left p v ds h =
    let skipped : filter (λ w. not (is_in_pool w p)) (v ∷ filter (λ w. not (int_eq v w)) ds)
    ≡ filter (λ w. not (is_in_pool w p)) (filter (λ w. not (int_eq v w)) ds) = rw h refl in
    skipped ∙ filter_filter (λ w. not (is_in_pool w p)) (λ w. not (int_eq v w)) ds
    ∙ filter_agree (λ w. not (int_eq v w) && not (is_in_pool w p)) (λ w. not (is_in_pool w p)) (λ w. known_goes p v w h) ds

new_left : (p : List ℤ) (v : ℤ) (ds : List ℤ) → is_in_pool v p ≡ false
    → p ++ filter (λ w. not (is_in_pool w p)) (v ∷ filter (λ w. not (int_eq v w)) ds) ≡ (p ++ v ∷ []) ++ filter (λ w. not (is_in_pool w (p ++ v ∷ []))) ds
new_left p v ds h =
    let taken : filter (λ w. not (is_in_pool w p)) (v ∷ filter (λ w. not (int_eq v w)) ds) ≡ v
    ∷ filter (λ w. not (is_in_pool w p)) (filter (λ w. not (int_eq v w)) ds) = rw h refl in
    let rest : filter (λ w. not (is_in_pool w p)) (filter (λ w. not (int_eq v w)) ds) ≡ filter (λ w. not (is_in_pool w (p ++ v ∷ []))) ds =
    filter_filter (λ w. not (is_in_pool w p)) (λ w. not (int_eq v w)) ds
    ∙ filter_agree (λ w. not (int_eq v w) && not (is_in_pool w p)) (λ w. not (is_in_pool w (p ++ v ∷ []))) (λ w. sym (new_behind p v w)) ds in
    ap (λ r. p ++ r) (taken ∙ ap (λ r. v ∷ r) rest) ∙ sym (append_assoc p (v ∷ []) (filter (λ w. not (is_in_pool w (p ++ v ∷ []))) ds))

full_stays : (room : ℕ) (p xs : List ℤ) → length p ≤ room → leb room (length p) ≡ true → take room (p ++ xs) ≡ p
full_stays room p xs low h = let high : room ≤ length p = grind (arith, nat_tests) in take-append-le room p xs high ∙ take_all room p low

pub grown_full : (room : ℕ) (p vs : List ℤ) → nat_le room (length p) ≡ true → fold (with_pool_number room) p vs ≡ p
grown_full room p [] h = refl
grown_full room p (v ∷ vs) h = let same : with_pool_number room p v ≡ p = rw h refl in ap (λ q. fold (with_pool_number room) q vs) same ∙ grown_full room p vs h

-- all numbers that are new to a list are added, as far as there is room
grown_all : (room : ℕ) (p vs : List ℤ) → length p ≤ room → fold (with_pool_number room) p vs ≡ take room (p ++ filter (λ w. not (is_in_pool w p)) (distinct vs))
grown_all room p [] low = sym (ap (take room) (append-nil p) ∙ take_all room p low)
grown_all room p (v ∷ vs) low =
    let ds = distinct vs in
    elim (nat_le room (length p)) as (λ b. nat_le room (length p) ≡ b
    → fold (with_pool_number room) (cond (b || is_in_pool v p) p (p ++ v ∷ [])) vs
    ≡ take room (p ++ filter (λ w. not (is_in_pool w p)) (v ∷ filter (λ w. not (int_eq v w)) ds))) [
      | true ↦ λ full. grown_full room p vs full ∙ sym (full_stays room p (filter (λ w. not (is_in_pool w p)) (v ∷ filter (λ w. not (int_eq v w)) ds)) low full)
      | false ↦
          λ free.
          elim (is_in_pool v p) as (λ b. is_in_pool v p ≡ b
          → fold (with_pool_number room) (cond b p (p ++ v ∷ [])) vs ≡ take room
          (p ++ filter (λ w. not (is_in_pool w p)) (v ∷ filter (λ w. not (int_eq v w)) ds))) [
            | true ↦ λ there. grown_all room p vs low ∙ ap (λ r. take room (p ++ r)) (sym (known_left p v ds there))
            | false ↦ λ away.
                let less : length p < room = grind (arith, nat_tests) in
                let more : length (p ++ v ∷ []) ≤ room = simp length-append (omega arith) in
                grown_all room (p ++ v ∷ []) vs more ∙ ap (take room) (sym (new_left p v ds away))
          ] refl
    ] refl

all_new : (ds : List ℤ) → filter (λ w. not (is_in_pool w [])) ds ≡ ds
all_new [] = refl
all_new (d ∷ ds) = ap (λ r. d ∷ r) (all_new ds)

from_none : (room : ℕ) (vs : List ℤ) → fold (with_pool_number room) [] vs ≡ first_distinct room vs
from_none room vs = grown_all room [] vs (omega arith) ∙ ap (take room) (all_new (distinct vs))

pub pool_grown : (xs ys p q r : List ℤ) → p ≡ fold (with_pool_number 24) [] first_values → q ≡ fold (with_pool_number 24) p (flat_map neighbours xs)
    → r ≡ fold (with_pool_number 24) q (flat_map neighbours ys) → r ≡ pool_from (xs ++ ys)
pool_grown xs ys p q r e f g =
    let na = flat_map neighbours xs in
    let nb = flat_map neighbours ys in
    let two : q ≡ fold (with_pool_number 24) [] (first_values ++ na) = f ∙ ap (λ x. fold (with_pool_number 24) x na) e
    ∙ sym (fold-append (with_pool_number 24) [] first_values na) in
    let three : r ≡ fold (with_pool_number 24) [] ((first_values ++ na) ++ nb) = g ∙ ap (λ x. fold (with_pool_number 24) x nb) two
    ∙ sym (fold-append (with_pool_number 24) [] (first_values ++ na) nb) in
    let joined : (first_values ++ na) ++ nb ≡ first_values ++ flat_map neighbours (xs ++ ys) = append_assoc first_values na nb
    ∙ ap (λ x. first_values ++ x) (sym (flat_map-append neighbours xs ys)) in
    three ∙ ap (fold (with_pool_number 24) []) joined ∙ from_none 24 (first_values ++ flat_map neighbours (xs ++ ys))

fixed_grown : fixed_values ≡ fold (with_pool_number 40) [] fixed_values
fixed_grown = refl

pub further_grown : (pool p q : List ℤ) → p ≡ fixed_values → q ≡ fold (with_pool_number 40) p pool → q ≡ further_values pool
further_grown pool p q e f = f ∙ ap (λ x. fold (with_pool_number 40) x pool) (e ∙ fixed_grown) ∙ sym (fold-append (with_pool_number 40) [] fixed_values pool)
    ∙ from_none 40 (fixed_values ++ pool)

pub signed_grown : (pool p q : List ℤ) → p ≡ fixed_values → q ≡ fold (with_pool_number 40) p (flat_map with_both_signs pool) → q ≡ signed_values pool
signed_grown pool p q e f = f ∙ ap (λ x. fold (with_pool_number 40) x (flat_map with_both_signs pool)) (e ∙ fixed_grown)
    ∙ sym (fold-append (with_pool_number 40) [] fixed_values (flat_map with_both_signs pool)) ∙ from_none 40 (fixed_values ++ flat_map with_both_signs pool)

-- ---- a number with its neighbours, and with both signs

pub both_signs : (room : ℕ) (c : ℤ) (p q r other : List ℤ) → other ≡ filter is_pool_number (neg_ℤ c ∷ []) → q ≡ with_pool_number room p c
    → r ≡ fold (with_pool_number room) q other → r ≡ fold (with_pool_number room) p (with_both_signs c)
both_signs room c p q r other o e f = f ∙ ap (λ x. fold (with_pool_number room) x other) e ∙ ap (λ x. fold (with_pool_number room) p (c ∷ x)) o

three_kept : (x y z : ℤ) → is_pool_number y ≡ true → filter is_pool_number (x ∷ y ∷ z ∷ []) ≡ filter is_pool_number (x ∷ [])
    ++ (y ∷ filter is_pool_number (z ∷ []))
three_kept x y z own =
    let t = filter is_pool_number (z ∷ []) in
    elim (is_pool_number x) as (λ b. cond b (x ∷ cond (is_pool_number y) (y ∷ t) t) (cond (is_pool_number y) (y ∷ t) t) ≡ cond b (x ∷ []) [] ++ (y ∷ t)) [
      | true ↦ rw own refl
      | false ↦ rw own refl
    ]

pub around : (room : ℕ) (c : ℤ) (p q r s low high : List ℤ) → is_pool_number c ≡ true → low ≡ filter is_pool_number ((c -ℤ pos 1) ∷ [])
    → high ≡ filter is_pool_number ((c +ℤ pos 1) ∷ []) → q ≡ fold (with_pool_number room) p low → r ≡ with_pool_number room q c
    → s ≡ fold (with_pool_number room) r high
    → s ≡ fold (with_pool_number room) p (neighbours c)
around room c p q r s low high own l h e f g =
    g ∙ ap (λ x. fold (with_pool_number room) x high) (f ∙ ap (λ x. with_pool_number room x c) e) ∙ sym (fold-append (with_pool_number room) p low (c ∷ high))
    ∙ ap (fold (with_pool_number room) p)
    (ap (λ x. x ++ (c ∷ high)) l ∙ ap (λ x. filter is_pool_number ((c -ℤ pos 1) ∷ []) ++ (c ∷ x)) h ∙ sym (three_kept (c -ℤ pos 1) c (c +ℤ pos 1) own))

-- ---- laws of pools and of further numbers

none_same : (v : ℤ) (ds : List ℤ) → AllByRecursion (λ y. int_eq v y ≡ false) (filter (λ w. not (int_eq v w)) ds)
none_same v [] = tt
none_same v (d ∷ ds) =
    elim (int_eq v d) as (λ b. int_eq v d ≡ b → AllByRecursion (λ y. int_eq v y ≡ false)
    (cond (not b) (d ∷ filter (λ w. not (int_eq v w)) ds) (filter (λ w. not (int_eq v w)) ds))) [
      | true ↦ λ e. none_same v ds
      | false ↦ λ e. (e, none_same v ds)
    ] refl

all_filter : (P : ℤ → Type 0) (f : ℤ → Bool) (xs : List ℤ) → AllByRecursion P xs → AllByRecursion P (filter f xs)
all_filter P f [] all = tt
all_filter P f (x ∷ xs) all =
    elim (f x) as (λ b. AllByRecursion P (cond b (x ∷ filter f xs) (filter f xs))) [
      | true ↦ (all.0, all_filter P f xs all.1)
      | false ↦ all_filter P f xs all.1
    ]

differ_filter : (f : ℤ → Bool) (xs : List ℤ) → IsDistinct int_eq xs → IsDistinct int_eq (filter f xs)
unfolding IsDistinct
differ_filter f [] all = tt
differ_filter f (x ∷ xs) all =
    elim (f x) as (λ b. IsDistinct int_eq (cond b (x ∷ filter f xs) (filter f xs))) [
      | true ↦ (all_filter (λ y. int_eq x y ≡ false) f xs all.0, differ_filter f xs all.1)
      | false ↦ differ_filter f xs all.1
    ]

all_take : (P : ℤ → Type 0) (n : ℕ) (xs : List ℤ) → AllByRecursion P xs → AllByRecursion P (take n xs)
all_take P zero xs all = tt
all_take P (suc n) [] all = tt
all_take P (suc n) (x ∷ xs) all = (all.0, all_take P n xs all.1)

differ_take : (n : ℕ) (xs : List ℤ) → IsDistinct int_eq xs → IsDistinct int_eq (take n xs)
unfolding IsDistinct
differ_take zero xs all = tt
differ_take (suc n) [] all = tt
differ_take (suc n) (x ∷ xs) all = (all_take (λ y. int_eq x y ≡ false) n xs all.0, differ_take n xs all.1)

distinct_differ : (vs : List ℤ) → IsDistinct int_eq (distinct vs)
unfolding IsDistinct
distinct_differ [] = tt
distinct_differ (v ∷ vs) = (none_same v (distinct vs), differ_filter (λ w. not (int_eq v w)) (distinct vs) (distinct_differ vs))

pub list_differs : (room : ℕ) (vs : List ℤ) → IsDistinct int_eq (first_distinct room vs)
list_differs room vs = differ_take room (distinct vs) (distinct_differ vs)

pub list_few : (room : ℕ) (vs : List ℤ) → length (first_distinct room vs) ≤ room
list_few room vs = let count = length-take room (distinct vs) in omega arith

pub pool_begins : (cs : List ℤ) → take 4 (pool_from cs) ≡ first_values
pool_begins cs = refl

pub further_begins : (pool : List ℤ) → take 17 (further_values pool) ≡ fixed_values
further_begins pool = refl

pub signed_begins : (pool : List ℤ) → take 17 (signed_values pool) ≡ fixed_values
signed_begins pool = refl

-- The numbers of which candidate inputs are made.
use Rattle.std.specs.Prelude.{ℕ, ◌^◌, nat_lt, nat_le, Bool, not, ◌||◌, cond, ℤ, pos, negsuc, ◌+ℤ◌, ◌-ℤ◌, neg_ℤ}
use Rattle.std.specs.Prelude.{List, [], ◌∷◌, ◌++◌, length, take}
use Rattle.std.specs.List.{filter, flat_map, list_any}
use Rattle.std.specs.Ordering.{int_eq}
use Rattle.fs_model.specs.SoundMachines.{numbers_in_states}
use Rattle.fs_model.specs.Machines.{Fsmd}

-- the most numbers of a pool
abbrev pub most_values : ℕ
most_values = 24

-- a number of 128 bits
abbrev pub is_pool_number : ℤ → Bool
is_pool_number (pos n) = nat_lt n (2 ^ 127)
is_pool_number (negsuc n) = nat_lt n (2 ^ 127)

-- the numbers with which each pool begins
abbrev pub first_values : List ℤ
first_values = pos 0 ∷ pos 1 ∷ negsuc 0 ∷ pos 2 ∷ []

-- a number with the one before it and the one after it, as far as they have 128 bits
abbrev pub neighbours : ℤ → List ℤ
neighbours c = filter is_pool_number ((c -ℤ pos 1) ∷ c ∷ (c +ℤ pos 1) ∷ [])

-- each number once, at its first place
abbrev pub distinct : List ℤ → List ℤ
distinct [] = []
distinct (v ∷ vs) = v ∷ filter (λ w. not (int_eq v w)) (distinct vs)

-- the first so many numbers, each once
abbrev pub first_distinct : (room : ℕ) → List ℤ → List ℤ
first_distinct room vs = take room (distinct vs)

-- the pool that constants give, in their order
abbrev pub pool_from : List ℤ → List ℤ
pool_from constants = first_distinct most_values (first_values ++ flat_map neighbours constants)

-- the pool of two machines: the constants of the left one come first
abbrev pub pool_of : Fsmd → Fsmd → List ℤ
pool_of a b = pool_from (numbers_in_states a.states ++ numbers_in_states b.states)

-- the most numbers of further candidates
abbrev pub most_further_values : ℕ
most_further_values = 40

-- the numbers with which those of further candidates begin: 0 to 10, 12, 16, -1, -2, -3, -5
abbrev pub fixed_values : List ℤ
fixed_values =
    pos 0 ∷ pos 1 ∷ pos 2 ∷ pos 3 ∷ pos 4 ∷ pos 5 ∷ pos 6 ∷ pos 7 ∷ pos 8 ∷ pos 9 ∷ pos 10 ∷ pos 12 ∷ pos 16
    ∷ negsuc 0 ∷ negsuc 1 ∷ negsuc 2 ∷ negsuc 4 ∷ []

-- the numbers of further candidates: the fixed ones, and then those of a pool
abbrev pub further_values : List ℤ → List ℤ
further_values pool = first_distinct most_further_values (fixed_values ++ pool)

-- a number, and then it with the other sign, if that has 128 bits
abbrev pub with_both_signs : ℤ → List ℤ
with_both_signs c = c ∷ filter is_pool_number (neg_ℤ c ∷ [])

-- the numbers of signed candidates: the fixed ones, and then those of a pool with both signs
abbrev pub signed_values : List ℤ → List ℤ
signed_values pool = first_distinct most_further_values (fixed_values ++ flat_map with_both_signs pool)

-- a number stands in a list
abbrev pub is_in_pool : ℤ → List ℤ → Bool
is_in_pool v vs = list_any (λ w. int_eq w v) vs

-- a list with one more number, where it has room and the number is new
abbrev pub with_pool_number : (room : ℕ) → List ℤ → ℤ → List ℤ
with_pool_number room vs v = cond (nat_le room (length vs) || is_in_pool v vs) vs (vs ++ v ∷ [])

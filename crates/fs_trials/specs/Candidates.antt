-- Candidate inputs of two machines.
use Rattle.std.specs.Prelude.{ℕ, ◌+◌, ◌-◌, ◌*◌, ◌/◌, ◌%◌, nat_lt, cond, ℤ, pos, negsuc}
use Rattle.std.specs.Prelude.{List, [], ◌∷◌, length, map, Option, Some, None}
use Rattle.std.specs.List.{slice_index_or}
use Rattle.fs_model.specs.declared.parts.Sort.{Sort}
use Rattle.fs_model.specs.declared.parts.Sort.TheVariants.{Scalar, Array, Port}
use Rattle.fs_model.specs.Machines.{Fsmd}
use Rattle.fs_model.specs.Runs.{Inputs, Content, Number, Entries, Emitted}
use Rattle.fs_stores.specs.InputValues.{Signature, input_signatures}
use Rattle.fs_runs.specs.Outcomes.{outputs_by_name}
use Rattle.fs_trials.specs.Pool.{pool_of, further_values, signed_values}

-- a candidate: the numbers of input k, how many indices of an array have one, from 0 on, and how many below 0 have one
pub record Candidate : Type 0 where
  pub number : (k i : ℕ) → ℤ
  pub filled : ℕ
  pub below : ℕ

-- the place of a pool of n numbers, before it is counted round, that candidate j of the pool gives index i of input k
abbrev pub pool_place : (n j k i : ℕ) → ℕ
pool_place n j k i = j + k * (j / n) + i

-- candidate j of a pool
abbrev pub pool_candidate : List ℤ → (j : ℕ) → Candidate
pool_candidate pool j = record {
  number = λ k i. slice_index_or pool (pool_place (length pool) j k i % length pool) (pos 0);
  filled = 16;
  below = 0;
}

-- the place among n numbers of number i that further candidate j gives input k
abbrev pub further_place : (n j k i : ℕ) → ℕ
further_place n j k i = ((j + 1) * (j + 31) * (k + 7) + (2 * j + 1) * (k + 3) * i + i * i * (j % 5)) % 10007 % n

-- further candidate j over numbers, which gives so many indices below 0 a number
abbrev pub further_over : List ℤ → (below j : ℕ) → Candidate
further_over values below j = record {
  number = λ k i. slice_index_or values (further_place (length values) j k i) (pos 0);
  filled = 32;
  below = below;
}

-- further candidate j of a pool; those from 192 on are the signed ones
abbrev pub further_candidate : List ℤ → (j : ℕ) → Candidate
further_candidate pool j = cond (nat_lt j 192) (further_over (further_values pool) 0 j) (further_over (signed_values pool) 4 j)

-- how many candidates a pool gives
abbrev pub pool_count : List ℤ → ℕ
pool_count pool = length pool * length pool

-- how many candidates there are with the further ones
abbrev pub candidate_count : List ℤ → ℕ
candidate_count pool = pool_count pool + 256

-- candidate j: those of the pool come first, and then the further ones
abbrev pub candidate : List ℤ → (j : ℕ) → Candidate
candidate pool j =
    cond (nat_lt j (pool_count pool)) (pool_candidate pool j) (further_candidate pool (j - pool_count pool))

-- an array that has the first numbers at so many indices from 0 on, the next ones at so many from -1 down, and 0 elsewhere
abbrev pub array_of : (numbers : ℕ → ℤ) → (filled below : ℕ) → ℤ → ℤ
array_of numbers filled below (pos i) = cond (nat_lt i filled) (numbers i) (pos 0)
array_of numbers filled below (negsuc i) = cond (nat_lt i below) (numbers (filled + i)) (pos 0)

-- the array that a candidate gives input k
abbrev pub candidate_array : Candidate → (k : ℕ) → ℤ → ℤ
candidate_array c k = array_of (c.number k) c.filled c.below

-- what a candidate gives input k of a sort
abbrev pub content_at : Candidate → (k : ℕ) → Sort → Content
content_at c k Scalar = Number (c.number k 0)
content_at c k Array = Entries (candidate_array c k)
content_at c k Port = Emitted []

-- what a candidate gives inputs in order, of which the first has number k
abbrev pub contents : Candidate → (k : ℕ) → List Signature → List Content
contents c k [] = []
contents c k (f ∷ fs) = content_at c k f.1 ∷ contents c (k + 1) fs

-- a content as a number and as an array: 0 where it is of another sort, or there is none
abbrev pub number_told : Option Content → ℤ
number_told None = pos 0
number_told (Some (Number n)) = n
number_told (Some (Entries f)) = pos 0
number_told (Some (Emitted zs)) = pos 0

abbrev pub array_told : Option Content → ℤ → ℤ
array_told None i = pos 0
array_told (Some (Number n)) i = pos 0
array_told (Some (Entries f)) i = f i
array_told (Some (Emitted zs)) i = pos 0

-- the inputs that contents in order say of inputs in order
abbrev pub inputs_told : List Signature → List Content → Inputs
inputs_told fs cs = record {
  scalar = λ name. number_told (outputs_by_name (map (λ f. f.0) fs) cs name);
  array = λ name i. array_told (outputs_by_name (map (λ f. f.0) fs) cs name) i;
}

-- what candidate j of a pool gives the inputs of a machine, in order of declaration
abbrev pub candidate_contents : List ℤ → (j : ℕ) → Fsmd → List Content
candidate_contents pool j m = contents (candidate pool j) 0 (input_signatures m.variables)

-- the inputs of candidate j of a pool for a machine
abbrev pub candidate_inputs : List ℤ → (j : ℕ) → Fsmd → Inputs
candidate_inputs pool j m = inputs_told (input_signatures m.variables) (candidate_contents pool j m)

-- how many stated candidates two machines have
abbrev pub stated_count : Fsmd → Fsmd → ℕ
stated_count a b = candidate_count (pool_of a b)

-- what stated candidate j of two machines gives the inputs of the left one, in order of declaration
abbrev pub stated_contents : Fsmd → Fsmd → (j : ℕ) → List Content
stated_contents a b j = candidate_contents (pool_of a b) j a

-- the inputs of stated candidate j of two machines
abbrev pub stated_inputs : Fsmd → Fsmd → (j : ℕ) → Inputs
stated_inputs a b j = candidate_inputs (pool_of a b) j a

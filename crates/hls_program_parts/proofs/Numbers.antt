-- The machine of a program has the states of its statements at their numbers.
use Rattle.std.proofs.Common.{◌≡◌, ℕ, zero, suc, ◌+◌, ◌<◌, ◌^◌, List, [], ◌∷◌, ◌++◌, length, map, ap, refl, ◌∙◌, subst, arith, Bool, true, false, decimal}
use Rattle.std.proofs.Common.{length-append}
use Rattle.std.specs.Prelude.{cond}
use Rattle.std.specs.List.{slice_index_or}
use Rattle.std.specs.Str.{bytes_eq}
use Rattle.std.proofs.lemmas.Slice.Eq.{bytes_eq-Decides}
use Rattle.std.proofs.lemmas.Fmt.{decimal_injective}
use Rattle.fs_model.specs.Expressions.{Transition}
use Rattle.fs_model.specs.Machines.{Fsmd, State}
use Rattle.fs_rules.specs.MachineOfParts.{state_names, place_or_end, transition_spelled, state_spelled}
use Rattle.hls_program_parts.specs.Programs.{Block, End, Do, If, While, block_over}
use Rattle.hls_program_parts.specs.Compiled.{count, first, states_of, state_name, numbered_states}
use Rattle.hls_program_parts.proofs.Laid.{Stands, Laid}

abbrev pub Row : Type 0
Row = ℕ × List (Transition (List ℕ) (List ℕ))

-- ---- other variables leave the numbers
pub first_over : {X Y : Type 0} (f : X → Y) (b : Block X) (n k : ℕ) → first (block_over f b) n k ≡ first b n k
first_over f End n k = refl
first_over f (Do line a rest) n k = refl
first_over f (If line g y z rest) n k = refl
first_over f (While line g body rest) n k = refl

count_over : {X Y : Type 0} (f : X → Y) (b : Block X) → count (block_over f b) ≡ count b
count_over f End = refl
count_over f (Do line a rest) = ap suc (count_over f rest)
count_over f (If line g y z rest) = omega (arith, count_over f y, count_over f z, count_over f rest)
count_over f (While line g body rest) = omega (arith, count_over f body, count_over f rest)

-- ---- names
name_once : (a b : ℕ) → a < 2 ^ 64 → b < 2 ^ 64 → bytes_eq (state_name a) (state_name b) ≡ true → a ≡ b
name_once a b h i e =
    let same : state_name a ≡ state_name b = (bytes_eq-Decides (state_name a) (state_name b)).0 e in
    let digits : decimal a ≡ decimal b = cc same in
    decimal_injective a b h i digits

place_by : (j i : ℕ) (xs : List Row) (t : Bool) → bytes_eq (state_name j) (state_name (j + suc i)) ≡ t → j + suc i < 2 ^ 64
    → place_or_end (state_names (numbered_states (suc j) xs)) (state_name (suc j + i)) ≡ i
    → cond t 0 (suc (place_or_end (state_names (numbered_states (suc j) xs)) (state_name (j + suc i)))) ≡ suc i
place_by j i xs true e k h = let same = name_once j (j + suc i) (omega (arith, k)) k e in absurd (omega (arith, same))
place_by j i xs false e k h =
    let n : j + suc i ≡ suc j + i = omega arith in
    ap suc (ap (λ a. place_or_end (state_names (numbered_states (suc j) xs)) (state_name a)) n ∙ h)

pub place_number : (j : ℕ) (xs : List Row) (i : ℕ) → i < length xs → j + i < 2 ^ 64 → place_or_end (state_names (numbered_states j xs)) (state_name (j + i)) ≡ i
place_number j [] i h k = absurd (omega arith)
place_number j (x ∷ xs) zero h k =
    let n : j ≡ j + 0 = omega arith in
    let e : bytes_eq (state_name j) (state_name (j + 0)) ≡ true = (bytes_eq-Decides (state_name j) (state_name (j + 0))).1 (ap state_name n) in
    rw e refl
place_number j (x ∷ xs) (suc i) h k = place_by j i xs (bytes_eq (state_name j) (state_name (j + suc i))) refl k
    (place_number (suc j) xs i (omega (arith, h)) (omega (arith, k)))

-- ---- the transitions of a state by its number
abbrev pub spelled_row : List (List ℕ) → List (List ℕ) → Row → List (Transition ℕ ℕ)
spelled_row vs ss s = map (transition_spelled vs ss) (map (λ l. record { line = s.0; content = l }) s.1)

pub no_row : Row
no_row = (0, [])

pub lines_at : (vs ss : List (List ℕ)) (j : ℕ) (xs : List Row) (i : ℕ) (d : State) → i < length xs
    → (slice_index_or (map (state_spelled vs ss) (numbered_states j xs)) i d).transitions ≡ spelled_row vs ss (slice_index_or xs i no_row)
lines_at vs ss j [] i d h = absurd (omega arith)
lines_at vs ss j (x ∷ xs) zero d h = refl
lines_at vs ss j (x ∷ xs) (suc i) d h = lines_at vs ss (suc j) xs i d (omega (arith, h))

-- ---- rows of a machine
module _ (m : Fsmd) (at : ℕ → ℕ) (vs ss : List (List ℕ)) where
  abbrev pub Rows : ℕ → List Row → Type 0
  Rows n [] = Unit {0}
  Rows n (s ∷ rest) = Stands m at n (spelled_row vs ss s) × Rows (suc n) rest

  pub rows_front : (n : ℕ) (a b : List Row) → Rows n (a ++ b) → Rows n a
  rows_front n [] b h = tt
  rows_front n (s ∷ a) b h = (h.0, rows_front (suc n) a b h.1)

  pub rows_back : (n k : ℕ) (a b : List Row) → k ≡ n + length a → Rows n (a ++ b) → Rows k b
  rows_back n k [] b e h = subst (λ j. Rows j b) (omega (arith, e)) h
  rows_back n k (s ∷ a) b e h = rows_back (suc n) k a b (omega (arith, e)) h.1

pub length_states : {X S : Type 0} (at : ℕ → S) (b : Block X) (n k : ℕ) → length (states_of at b n k) ≡ count b
length_states at End n k = refl
length_states at (Do line a rest) n k = ap suc (length_states at rest (suc n) k)
length_states at (If line g y z rest) n k =
    let other = suc n + count y in
    let after = other + count z in
    let next = first rest after k in
    let zs = states_of at z other next in
    let rs = states_of at rest after k in
    omega (
      arith,
      length-append (states_of at y (suc n) next) (zs ++ rs),
      length-append zs rs,
      length_states at y (suc n) next,
      length_states at z other next,
      length_states at rest after k,
    )
length_states at (While line g body rest) n k =
    let after = suc n + count body in
    omega (arith, length-append (states_of at body (suc n) n) (states_of at rest after k), length_states at body (suc n) n, length_states at rest after k)

pub length_numbered : (n : ℕ) (rows : List Row) → length (numbered_states n rows) ≡ length rows
length_numbered n [] = refl
length_numbered n (r ∷ rows) = ap suc (length_numbered (suc n) rows)

-- ---- a block lies where its rows are
module _ (m : Fsmd) (vs ss : List (List ℕ)) where
  abbrev pub spot : ℕ → ℕ
  spot n = place_or_end ss (state_name n)

  pub lies : (b : Block (List ℕ)) (n k : ℕ) → Rows m spot vs ss n (states_of state_name b n k) → Laid m spot (block_over (place_or_end vs) b) n k
  lies End n k h = tt
  lies (Do line a rest) n k h = rw (first_over (place_or_end vs) rest (suc n) k) (h.0, lies rest (suc n) k h.1)
  lies (If line g y z rest) n k h =
      let other = suc n + count y in
      let after = other + count z in
      let next = first rest after k in
      let ys = states_of state_name y (suc n) next in
      let zs = states_of state_name z other next in
      let rs = states_of state_name rest after k in
      let behind = rows_back m spot vs ss (suc n) other ys (zs ++ rs) (omega (arith, length_states state_name y (suc n) next)) h.1 in
      let first_part = lies y (suc n) next (rows_front m spot vs ss (suc n) ys (zs ++ rs) h.1) in
      let second_part = lies z other next (rows_front m spot vs ss other zs rs behind) in
      let last_part = lies rest after k (rows_back m spot vs ss other after zs rs (omega (arith, length_states state_name z other next)) behind) in
      rw (
        count_over (place_or_end vs) y,
        count_over (place_or_end vs) z,
        first_over (place_or_end vs) rest after k,
        first_over (place_or_end vs) z other next,
        first_over (place_or_end vs) y (suc n) next,
      ) (h.0, first_part, second_part, last_part)
  lies (While line g body rest) n k h =
      let after = suc n + count body in
      let bs = states_of state_name body (suc n) n in
      let rs = states_of state_name rest after k in
      let first_part = lies body (suc n) n (rows_front m spot vs ss (suc n) bs rs h.1) in
      let last_part = lies rest after k (rows_back m spot vs ss (suc n) after bs rs (omega (arith, length_states state_name body (suc n) n)) h.1) in
      rw (count_over (place_or_end vs) body, first_over (place_or_end vs) rest after k, first_over (place_or_end vs) body (suc n) n)
      (h.0, first_part, last_part)

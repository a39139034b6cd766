-- Writes put in their places are tidy, and no larger.
use Rattle.std.proofs.Common.{◌≡◌, ℕ, ◌+◌, ◌<◌, ◌≤◌, ◌-◌, ◌^◌, min, max, ℤ, Bool, true, false, ◌&&◌, ◌||◌, not, int_lt, arith, refl, ap, sym, subst, ◌∙◌}
use Rattle.std.proofs.lemmas.Int.{ints}
use Rattle.std.proofs.lemmas.Bool.{or_from, and_from, or_right, not-true}
use Rattle.base_laws.proofs.Booleans.{and_first, and_second, neither_first, neither_second, by_test}
use Rattle.nf_trees.specs.NormalTerms.{Polynomial, ArrayTerm, Writes, Over, NoWrites, Write}
use Rattle.nf_trees.specs.Order.{same_polynomial}
use Rattle.nf_trees.specs.Measures.{size_of, depth_of, size_of_writes, depth_of_writes, size_of_array, depth_of_array}
use Rattle.nf_terms.specs.Normal.{IsNormal, IsNormalArray, ordered, ordered_writes, is_written, write_rises, narrow_writes, ordered_array, narrow_array}
use Rattle.nf_terms.specs.Normal.{is_light, narrow_inside, differ_by_constant, constant_part}
use Rattle.nf_terms.specs.TermLimits.{depth_limit, size_limit}
use Rattle.nf_terms.specs.Tidied.{last_writes, goes_after, with_write, rising_stretches, tidy_array}
use Rattle.nf_arrays.specs.Writes.{written_last, with_last_write, write_array}
use Rattle.nf_terms.specs.Computed.{Large, if_small}
use Rattle.nf_terms.specs.Normal.{constant_sum}
use Rattle.nf_sums.proofs.Exact.{small_deep}
use Rattle.nf_arrays.proofs.Tidy.{tidy_write, tidy_again, narrow_write, narrow_again}
use Rattle.nf_sums.proofs.Constants.{same_of_equal, other_turned, equal_by_parts, constant_is}
use Rattle.nf_sums.proofs.Tidying.{tidied_stays}

-- ---- which indices are written

absent_with : (k i v : Polynomial) (ws : Writes) → same_polynomial k i ≡ false → is_written k ws ≡ false → is_written k (with_write i v ws) ≡ false
absent_with k i v NoWrites s h = or_from (same_polynomial k i) false s refl
absent_with k i v (Write j w ws) s h =
    by_test (λ t. is_written k t ≡ false) (Write j w (with_write i v ws)) (Write i v (Write j w ws)) (goes_after i j)
    (λ e. or_from (same_polynomial k j) (is_written k (with_write i v ws)) (neither_first (same_polynomial k j) (is_written k ws) h)
    (absent_with k i v ws s (neither_second (same_polynomial k j) (is_written k ws) h)))
    (λ e. or_from (same_polynomial k i) (is_written k (Write j w ws)) s h)

absent_rising : (k : Polynomial) (ws : Writes) → is_written k ws ≡ false → is_written k (rising_stretches ws) ≡ false
absent_rising k NoWrites h = refl
absent_rising k (Write i v ws) h = absent_with k i v (rising_stretches ws) (neither_first (same_polynomial k i) (is_written k ws) h)
    (absent_rising k ws (neither_second (same_polynomial k i) (is_written k ws) h))

absent_last : (k : Polynomial) (ws : Writes) → is_written k ws ≡ false → is_written k (last_writes ws) ≡ false
absent_last k NoWrites h = refl
absent_last k (Write i v ws) h =
    let r = absent_last k ws (neither_second (same_polynomial k i) (is_written k ws) h) in
    by_test (λ t. is_written k t ≡ false) (last_writes ws) (Write i v (last_writes ws)) (is_written i ws) (λ e. r)
    (λ e. or_from (same_polynomial k i) (is_written k (last_writes ws)) (neither_first (same_polynomial k i) (is_written k ws) h) r)

-- ---- order

rises_before : (i j v : Polynomial) (ws : Writes) → ordered i ≡ true → ordered j ≡ true → goes_after i j ≡ true → write_rises j (Write i v ws) ≡ true
rises_before i j v ws o p e =
    or_right (not (differ_by_constant j i)) (int_lt (constant_part j) (constant_part i))
    ((λ k. int_lt (constant_is j p k) (constant_is i o k)) ∙ and_second (differ_by_constant i j) (int_lt (constant_sum j) (constant_sum i)) e)

not_below : (x y : ℤ) → int_lt y x ≡ false → ¬ (x ≡ y) → int_lt x y ≡ true
not_below x y e n = grind (arith, ints)

rises_at : (i j w : Polynomial) (ws : Writes) → ordered i ≡ true → ordered j ≡ true → same_polynomial i j ≡ false → goes_after i j ≡ false
    → write_rises i (Write j w ws) ≡ true
rises_at i j w ws o p s g = by_value (differ_by_constant i j) refl
  where
    by_value : (t : Bool) → differ_by_constant i j ≡ t → not t || int_lt (constant_part i) (constant_part j) ≡ true
    by_value true d =
        not_below (constant_part i) (constant_part j)
        ((λ k. int_lt (constant_is j p k) (constant_is i o k)) ∙ (λ k. sym d k && int_lt (constant_sum j) (constant_sum i)) ∙ g)
        (λ e. let f : same_polynomial i j ≡ true = same_of_equal i j (equal_by_parts i j o p d e) in absurd (let h : true ≡ false = sym f ∙ s in cc))
    by_value false d = refl

rises_with : (i j v : Polynomial) (ws : Writes) → ordered i ≡ true → ordered j ≡ true → goes_after i j ≡ true → write_rises j ws ≡ true
    → write_rises j (with_write i v ws) ≡ true
rises_with i j v NoWrites o p g r = rises_before i j v NoWrites o p g
rises_with i j v (Write h x ws) o p g r =
    by_test (λ t. write_rises j t ≡ true) (Write h x (with_write i v ws)) (Write i v (Write h x ws)) (goes_after i h) (λ e. r)
    (λ e. rises_before i j v (Write h x ws) o p g)

with_write_ordered : (i v : Polynomial) (ws : Writes) → ordered i ≡ true → ordered v ≡ true → is_written i ws ≡ false → ordered_writes ws ≡ true
    → ordered_writes (with_write i v ws) ≡ true
with_write_ordered i v NoWrites o p n h = tidy_again i v NoWrites (record { index = o; value = p; once = refl; rises = refl; rest = refl })
with_write_ordered i v (Write j w ws) o p n h =
    let t = tidy_write j w ws h in
    let s = neither_first (same_polynomial i j) (is_written i ws) n in
    by_test (λ t. ordered_writes t ≡ true) (Write j w (with_write i v ws)) (Write i v (Write j w ws)) (goes_after i j)
    (λ e. tidy_again j w (with_write i v ws) (record {
      index = t.index;
      value = t.value;
      once = ap not (absent_with j i v ws (other_turned i j s) (not-true (is_written j ws) t.once));
      rises = rises_with i j v ws o t.index e t.rises;
      rest = with_write_ordered i v ws o p (neither_second (same_polynomial i j) (is_written i ws) n) t.rest;
    }))
    (λ e. tidy_again i v (Write j w ws) (record { index = o; value = p; once = ap not n; rises = rises_at i j w ws o t.index s e; rest = h }))

-- whether the indices and the values are in order
abbrev pub parts_ordered : Writes → Bool
parts_ordered NoWrites = true
parts_ordered (Write i v ws) = ordered i && ordered v && parts_ordered ws

-- whether the indices and the values are in order, and no index is written twice
abbrev pub written_once : Writes → Bool
written_once NoWrites = true
written_once (Write i v ws) = ordered i && ordered v && not (is_written i ws) && written_once ws

last_once : (ws : Writes) → parts_ordered ws ≡ true → written_once (last_writes ws) ≡ true
last_once NoWrites h = refl
last_once (Write i v ws) h =
    let r = last_once ws (and_second (ordered i && ordered v) (parts_ordered ws) h) in
    by_test (λ t. written_once t ≡ true) (last_writes ws) (Write i v (last_writes ws)) (is_written i ws) (λ e. r)
    (λ e. and_from (ordered i && ordered v && not (is_written i (last_writes ws))) (written_once (last_writes ws))
    (and_from (ordered i && ordered v) (not (is_written i (last_writes ws))) (and_first (ordered i && ordered v) (parts_ordered ws) h)
    (ap not (absent_last i ws e))) r)

rising_ordered : (ws : Writes) → written_once ws ≡ true → ordered_writes (rising_stretches ws) ≡ true
rising_ordered NoWrites h = refl
rising_ordered (Write i v ws) h =
    let a = and_first (ordered i && ordered v && not (is_written i ws)) (written_once ws) h in
    let b = and_first (ordered i && ordered v) (not (is_written i ws)) a in
    with_write_ordered i v (rising_stretches ws) (and_first (ordered i) (ordered v) b) (and_second (ordered i) (ordered v) b)
    (absent_rising i ws (not-true (is_written i ws) (and_second (ordered i && ordered v) (not (is_written i ws)) a)))
    (rising_ordered ws (and_second (ordered i && ordered v && not (is_written i ws)) (written_once ws) h))

pub parts_of_tidy : (ws : Writes) → ordered_writes ws ≡ true → parts_ordered ws ≡ true
parts_of_tidy NoWrites h = refl
parts_of_tidy (Write i v ws) h = let t = tidy_write i v ws h in
    and_from (ordered i && ordered v) (parts_ordered ws) (and_from (ordered i) (ordered v) t.index t.value) (parts_of_tidy ws t.rest)

pub parts_last : (ws : Writes) (i v : Polynomial) → parts_ordered ws ≡ true → ordered i ≡ true → ordered v ≡ true → parts_ordered (written_last ws i v) ≡ true
parts_last NoWrites i v h o p = and_from (ordered i && ordered v) true (and_from (ordered i) (ordered v) o p) refl
parts_last (Write j w ws) i v h o p = and_from (ordered j && ordered w) (parts_ordered (written_last ws i v))
    (and_first (ordered j && ordered w) (parts_ordered ws) h) (parts_last ws i v (and_second (ordered j && ordered w) (parts_ordered ws) h) o p)

-- ---- size, depth and weights

size-with : (i v : Polynomial) (ws : Writes) → size_of_writes (with_write i v ws) ≡ 1 + size_of i + size_of v + size_of_writes ws
size-with i v NoWrites = refl
size-with i v (Write j w ws) =
    by_test (λ t. size_of_writes t ≡ 1 + size_of i + size_of v + size_of_writes (Write j w ws)) (Write j w (with_write i v ws)) (Write i v (Write j w ws))
    (goes_after i j) (λ e. omega (arith, size-with i v ws)) (λ e. refl)

size-rising : (ws : Writes) → size_of_writes (rising_stretches ws) ≡ size_of_writes ws
size-rising NoWrites = refl
size-rising (Write i v ws) = omega (arith, size-with i v (rising_stretches ws), size-rising ws)

size-last : (ws : Writes) → size_of_writes (last_writes ws) ≤ size_of_writes ws
size-last NoWrites = omega arith
size-last (Write i v ws) =
    by_test (λ t. size_of_writes t ≤ size_of_writes (Write i v ws)) (last_writes ws) (Write i v (last_writes ws)) (is_written i ws)
    (λ e. omega (arith, size-last ws)) (λ e. omega (arith, size-last ws))

size-written : (ws : Writes) (i v : Polynomial) → size_of_writes (written_last ws i v) ≡ size_of_writes ws + 1 + size_of i + size_of v
size-written NoWrites i v = omega arith
size-written (Write j w ws) i v = omega (arith, size-written ws i v)

depth-with : (d : ℕ) (i v : Polynomial) (ws : Writes) → 1 + max (depth_of i) (depth_of v) ≤ d → depth_of_writes ws ≤ d → depth_of_writes (with_write i v ws) ≤ d
depth-with d i v NoWrites h k = omega arith
depth-with d i v (Write j w ws) h k =
    by_test (λ t. depth_of_writes t ≤ d) (Write j w (with_write i v ws)) (Write i v (Write j w ws)) (goes_after i j)
    (λ e. omega (arith, depth-with d i v ws h (omega arith))) (λ e. omega arith)

depth-rising : (d : ℕ) (ws : Writes) → depth_of_writes ws ≤ d → depth_of_writes (rising_stretches ws) ≤ d
depth-rising d NoWrites h = h
depth-rising d (Write i v ws) h = depth-with d i v (rising_stretches ws) (omega arith) (depth-rising d ws (omega arith))

depth-last : (d : ℕ) (ws : Writes) → depth_of_writes ws ≤ d → depth_of_writes (last_writes ws) ≤ d
depth-last d NoWrites h = h
depth-last d (Write i v ws) h =
    by_test (λ t. depth_of_writes t ≤ d) (last_writes ws) (Write i v (last_writes ws)) (is_written i ws) (λ e. depth-last d ws (omega arith))
    (λ e. omega (arith, depth-last d ws (omega arith)))

depth-written : (d : ℕ) (ws : Writes) (i v : Polynomial) → depth_of_writes ws ≤ d → 1 + max (depth_of i) (depth_of v) ≤ d
    → depth_of_writes (written_last ws i v) ≤ d
depth-written d NoWrites i v h k = omega arith
depth-written d (Write j w ws) i v h k = omega (arith, depth-written d ws i v (omega arith) k)

narrow-with : (i v : Polynomial) (ws : Writes) → is_light i && narrow_inside i ≡ true → is_light v && narrow_inside v ≡ true → narrow_writes ws ≡ true
    → narrow_writes (with_write i v ws) ≡ true
narrow-with i v NoWrites a b h = narrow_again i v NoWrites (record { index = a; value = b; rest = refl })
narrow-with i v (Write j w ws) a b h =
    let t = narrow_write j w ws h in
    by_test (λ t. narrow_writes t ≡ true) (Write j w (with_write i v ws)) (Write i v (Write j w ws)) (goes_after i j)
    (λ e. narrow_again j w (with_write i v ws) (record { index = t.index; value = t.value; rest = narrow-with i v ws a b t.rest }))
    (λ e. narrow_again i v (Write j w ws) (record { index = a; value = b; rest = h }))

narrow-rising : (ws : Writes) → narrow_writes ws ≡ true → narrow_writes (rising_stretches ws) ≡ true
narrow-rising NoWrites h = refl
narrow-rising (Write i v ws) h = let t = narrow_write i v ws h in narrow-with i v (rising_stretches ws) t.index t.value (narrow-rising ws t.rest)

narrow-last : (ws : Writes) → narrow_writes ws ≡ true → narrow_writes (last_writes ws) ≡ true
narrow-last NoWrites h = refl
narrow-last (Write i v ws) h =
    let t = narrow_write i v ws h in
    by_test (λ t. narrow_writes t ≡ true) (last_writes ws) (Write i v (last_writes ws)) (is_written i ws) (λ e. narrow-last ws t.rest)
    (λ e. narrow_again i v (last_writes ws) (record { index = t.index; value = t.value; rest = narrow-last ws t.rest }))

narrow-written : (ws : Writes) (i v : Polynomial) → narrow_writes ws ≡ true → is_light i && narrow_inside i ≡ true → is_light v && narrow_inside v ≡ true
    → narrow_writes (written_last ws i v) ≡ true
narrow-written NoWrites i v h a b = narrow_again i v NoWrites (record { index = a; value = b; rest = refl })
narrow-written (Write j w ws) i v h a b = let t = narrow_write j w ws h in
    narrow_again j w (written_last ws i v) (record { index = t.index; value = t.value; rest = narrow-written ws i v t.rest a b })

-- an array after a write, but for its depth
pub record IsWritten (units : ℕ) (a : ArrayTerm) : Type 0 where
  pub ordered : ordered_array a ≡ true
  pub size : size_of_array a ≤ units
  pub depth : depth_of_array a ≤ 1 + depth_limit
  pub narrow : narrow_array a ≡ true

pub write_ordered : (a : ArrayTerm) (i v : Polynomial) → IsNormalArray a → IsNormal i → IsNormal v
    → IsWritten (size_of_array a + 1 + size_of i + size_of v) (tidy_array (with_last_write a i v))
write_ordered (Over b ws) i v n m k = record {
  ordered = rising_ordered (last_writes (written_last ws i v))
      (last_once (written_last ws i v) (parts_last ws i v (parts_of_tidy ws n.ordered) m.ordered k.ordered));
  size = omega (arith, size-rising (last_writes (written_last ws i v)), size-last (written_last ws i v), size-written ws i v);
  depth = depth-rising (1 + depth_limit) (last_writes (written_last ws i v))
      (depth-last (1 + depth_limit) (written_last ws i v)
      (depth-written (1 + depth_limit) ws i v (omega (arith, n.shallow)) (omega (arith, m.shallow, k.shallow))));
  narrow = narrow-rising (last_writes (written_last ws i v)) (narrow-last (written_last ws i v) (narrow-written ws i v n.narrow m.narrow k.narrow));
}

pub written_normal : (units : ℕ) (a : ArrayTerm) → IsWritten units a → units ≤ size_limit → depth_of_array a ≤ depth_limit → IsNormalArray a
written_normal units a h u d = record { ordered = h.ordered; small = omega (arith, h.size); shallow = d; narrow = h.narrow }

module _ (a : ArrayTerm) (i v : Polynomial) (n : IsNormalArray a) (m : IsNormal i) (k : IsNormal v) (units : ℕ)
    (u : units ≡ size_of_array a + 1 + size_of i + size_of v) (t : ArrayTerm) (e : t ≡ tidy_array (with_last_write a i v)) (s : units ≤ size_limit) where
  is_written_now : IsWritten units t
  is_written_now = subst (λ x. IsWritten units x) (sym e) (subst (λ x. IsWritten x (tidy_array (with_last_write a i v))) (sym u) (write_ordered a i v n m k))

  -- a write whose result is too deep
  pub write_deep : (r : ℕ) → r ≡ min (depth_of_array t) (2 ^ 32 - 1) → depth_limit < r → write_array a i v ≡ Large units r
  write_deep r f h =
      let d : r ≡ depth_of_array t = omega (arith, is_written_now.depth, f) in
      (λ j. if_small (sym u j) (depth_of_array (tidy_array (with_last_write a i v))) (tidy_array (with_last_write a i v)))
      ∙ small_deep units (depth_of_array (tidy_array (with_last_write a i v))) (tidy_array (with_last_write a i v)) s (omega (arith, h, d, ap depth_of_array e))
      ∙ ap (Large units) (sym (d ∙ ap depth_of_array e))

  -- a write whose result is small
  pub write_small : (r : ℕ) → r ≡ min (depth_of_array t) (2 ^ 32 - 1) → r ≤ depth_limit → IsNormalArray t
  write_small r f h = written_normal units t is_written_now s (omega (arith, is_written_now.depth, f, h))

-- ---- tidy writes stay as they are
pub normal_tidied : (a : ArrayTerm) → IsNormalArray a → tidy_array a ≡ a
normal_tidied a n = tidied_stays a n.ordered

pub same_arrays : (a b : ArrayTerm) → IsNormalArray a → IsNormalArray b → tidy_array a ≡ tidy_array b → a ≡ b
same_arrays a b n m e = sym (normal_tidied a n) ∙ e ∙ normal_tidied b m

-- The conflict that is found is the first, and where none is found there is none.
use Rattle.std.proofs.Common.{◌≡◌, ℕ, zero, suc, ◌+◌, ◌<◌, ◌≤◌, List, [], ◌∷◌, length, ap, ap₂, sym, refl, ◌∙◌, subst, inl, inr, ◌⊎◌, arith, Bool, true, false}
use Rattle.std.proofs.Common.{cond, Option, Some, None}
use Rattle.std.specs.Prelude.{◌≢◌, ◌==◌, ◌&&◌, ◌||◌, not, nat_lt, option_map, slice_get}
use Rattle.std.specs.List.{list_all}
use Rattle.std.specs.Option.{option_or}
use Rattle.std.specs.Str.{bytes_eq}
use Rattle.std.proofs.lemmas.Slice.Eq.{bytes_eq-Decides}
use Rattle.std.proofs.lemmas.Bool.Decides.{nat_tests}
use Rattle.fs_model.specs.Machines.{Fsmd}
use Rattle.fs_model.specs.SoundMachines.{IsSound, branch_count, assigned_in}
use Rattle.fs_cut.specs.Paths.{branch_at, target_of}
use Rattle.fs_cut.proofs.Branches.{target_in}
use Rattle.hls_bind.specs.Liveness.{writes, IsLive}
use Rattle.std.proofs.lemmas.Option.{slice_get_within}
use Rattle.std.proofs.lemmas.Bool.{or_cases, or_left, and_from, or_right, false_from_ne_true, not-true, eqb-false, eqb-true, ltb-true}
use Rattle.fs_model.proofs.Booleans.{and_first, and_second}
use Rattle.fs_model.proofs.Numbers.{eqb_self}
use Rattle.fs_model.proofs.Options.{none_from_map}
use Rattle.hls_bind.specs.Bindings.{register, is_rising, IsBindingOf}
use Rattle.hls_bind.specs.Results.{IsVerdict}
use Rattle.hls_bind.specs.Conflicts.{Conflict, IsShared, IsTwice, IsConflict, conflict_is_before, IsFirstConflict}
use Rattle.hls_bind.proofs.Variables.{some_there}
use Rattle.fs_variable_sets.specs.declared.VariableSet.{VariableSet}
use Rattle.fs_variable_sets.specs.Flows.{has_at}
use Rattle.hls_bind.specs.Live.{HasLive}
use Rattle.hls_bind.specs.ConflictSearch.{LostPair, is_lost, lost_with, lost_by, written_at, live_after, doubled_conflict, conflict_at, conflict_in, first_from}
use Rattle.hls_bind.specs.ConflictSearch.{first_conflict}
use Rattle.hls_bind.proofs.Listed.{members}
use Rattle.hls_bind.proofs.Alive.{is_there}

-- ---- tests

-- ---- entries of a binding that rises

above_by : (n : ℕ) (d : ℕ × List ℕ) (es : List (ℕ × List ℕ)) (x : ℕ) (r : List ℕ) (t : Bool) → (d.0 == x) ≡ t → list_all (λ c. nat_lt n c.0) (d ∷ es) ≡ true
    → cond t (Some d.1) (register es x) ≡ Some r
    → (list_all (λ c. nat_lt n c.0) es ≡ true → register es x ≡ Some r → n < x) → n < x
above_by n d es x r true e h i next = let same = eqb-true d.0 x e in let low = ltb-true n d.0 (and_first (nat_lt n d.0) (list_all (λ c. nat_lt n c.0) es) h) in
    omega (arith, same, low)
above_by n d es x r false e h i next = next (and_second (nat_lt n d.0) (list_all (λ c. nat_lt n c.0) es) h) i

above : (n : ℕ) (es : List (ℕ × List ℕ)) (x : ℕ) (r : List ℕ) → list_all (λ d. nat_lt n d.0) es ≡ true → register es x ≡ Some r → n < x
above n [] x r h e = absurd (cc e)
above n (d ∷ es) x r h e = above_by n d es x r (d.0 == x) refl h e (above n es x r)

-- what stands behind an entry is found behind it
pub behind : (d : ℕ × List ℕ) (es : List (ℕ × List ℕ)) (x : ℕ) (r : List ℕ) → list_all (λ c. nat_lt d.0 c.0) es ≡ true → register es x ≡ Some r
    → register (d ∷ es) x ≡ Some r
behind d es x r h e =
    let low = above d.0 es x r h e in
    let other : (d.0 == x) ≡ false = grind (arith, nat_tests, low) in
    ap (λ t. cond t (Some d.1) (register es x)) other ∙ e

-- an entry, or one behind it
record IsHead (d : ℕ × List ℕ) (x : ℕ) (r : List ℕ) : Type 0 where
  number : d.0 ≡ x
  name : d.1 ≡ r

entry_cases_by :
    (d : ℕ × List ℕ) (es : List (ℕ × List ℕ)) (x : ℕ) (r : List ℕ) (t : Bool) → (d.0 == x) ≡ t → cond t (Some d.1) (register es x) ≡ Some r
    → IsHead d x r ⊎ (register es x ≡ Some r)
entry_cases_by d es x r true e h = inl (record { number = eqb-true d.0 x e; name = cc h })
entry_cases_by d es x r false e h = inr h

entry_cases : (d : ℕ × List ℕ) (es : List (ℕ × List ℕ)) (x : ℕ) (r : List ℕ) → register (d ∷ es) x ≡ Some r → IsHead d x r ⊎ (register es x ≡ Some r)
entry_cases d es x r h = entry_cases_by d es x r (d.0 == x) refl h

pub head_entry : (d : ℕ × List ℕ) (es : List (ℕ × List ℕ)) → register (d ∷ es) d.0 ≡ Some d.1
head_entry d es = ap (λ t. cond t (Some d.1) (register es d.0)) (eqb_self d.0)

module _ (w l : ℕ → Bool) where
  -- ---- the other local
  abbrev Loses : (one : ℕ × List ℕ) → ℕ → List ℕ → Type 0
  Loses one y s = is_lost w l one (y, s) ≡ true

  record IsFirstOther (one : ℕ × List ℕ) (es : List (ℕ × List ℕ)) (p : LostPair) : Type 0 where
    name : List ℕ
    entry : register es p.other ≡ Some name
    lost : Loses one p.other name
    written : p.written ≡ one.0
    twice : p.twice ≡ w p.other
    first : (y : ℕ) (s : List ℕ) → register es y ≡ Some s → Loses one y s → y < p.other → ⊥

  one_lost : (one d : ℕ × List ℕ) (x : ℕ) (r : List ℕ) → IsHead d x r → Loses one x r → is_lost w l one d ≡ true
  one_lost one d x r h i = ap₂ (λ (n : ℕ) (s : List ℕ). is_lost w l one (n, s)) h.number h.name ∙ i

  other_by : (one d : ℕ × List ℕ) (es : List (ℕ × List ℕ)) (p : LostPair) (t : Bool) → is_lost w l one d ≡ t → list_all (λ c. nat_lt d.0 c.0) es ≡ true
      → cond t (Some (record { written = one.0; other = d.0; twice = w d.0 })) (lost_with w l one es) ≡ Some p
      → (lost_with w l one es ≡ Some p → IsFirstOther one es p) → IsFirstOther one (d ∷ es) p
  other_by one d es p true e h i next =
      let same : record { written = one.0; other = d.0; twice = w d.0 } ≡ p = cc i in
      subst (λ (q : LostPair). IsFirstOther one (d ∷ es) q) same (record {
        name = d.1;
        entry = head_entry d es;
        lost = e;
        written = refl;
        twice = refl;
        first = λ y s at lost low. elim (entry_cases d es y s at) [
          | inl head ↦ (let n = head.number in omega (arith, n, low))
          | inr later ↦ (let far = above d.0 es y s h later in omega (arith, far, low))
        ];
      })
  other_by one d es p false e h i next =
      let x = next i in
      record {
        name = x.name;
        entry = behind d es p.other x.name h x.entry;
        lost = x.lost;
        written = x.written;
        twice = x.twice;
        first = λ y s at lost low. elim (entry_cases d es y s at) [
          | inl head ↦ (let g : is_lost w l one d ≡ true = one_lost one d y s head lost in cc (e, g))
          | inr later ↦ x.first y s later lost low
        ];
      }

  first_other : (one : ℕ × List ℕ) (es : List (ℕ × List ℕ)) (p : LostPair) → is_rising es ≡ true → lost_with w l one es ≡ Some p → IsFirstOther one es p
  first_other one [] p h e = absurd (cc e)
  first_other one (d ∷ es) p h e = other_by one d es p (is_lost w l one d) refl (and_first (list_all (λ c. nat_lt d.0 c.0) es) (is_rising es) h) e
      (first_other one es p (and_second (list_all (λ c. nat_lt d.0 c.0) es) (is_rising es) h))

  none_by : (one d : ℕ × List ℕ) (es : List (ℕ × List ℕ)) (t : Bool) → is_lost w l one d ≡ t
      → cond t (Some (record { written = one.0; other = d.0; twice = w d.0 })) (lost_with w l one es) ≡ None
      → (y : ℕ) (s : List ℕ) → register (d ∷ es) y ≡ Some s → Loses one y s
      → (lost_with w l one es ≡ None → (z : ℕ) (q : List ℕ) → register es z ≡ Some q → Loses one z q → ⊥) → ⊥
  none_by one d es true e h y s at lost next = cc h
  none_by one d es false e h y s at lost next = elim (entry_cases d es y s at) [
    | inl head ↦ (let g : is_lost w l one d ≡ true = one_lost one d y s head lost in cc (e, g))
    | inr later ↦ next h y s later lost
  ]

  no_other : (one : ℕ × List ℕ) (es : List (ℕ × List ℕ)) → lost_with w l one es ≡ None → (y : ℕ) (s : List ℕ) → register es y ≡ Some s → Loses one y s → ⊥
  no_other one [] e y s at lost = cc at
  no_other one (d ∷ es) e y s at lost = none_by one d es (is_lost w l one d) refl e y s at lost (no_other one es)

  -- ---- the written local
  module _ (all : List (ℕ × List ℕ)) (rising : is_rising all ≡ true) where
    record IsFirstPair (es : List (ℕ × List ℕ)) (p : LostPair) : Type 0 where
      name : List ℕ
      entry : register es p.written ≡ Some name
      writes : w p.written ≡ true
      other : IsFirstOther (p.written, name) all p
      first : (x : ℕ) (r : List ℕ) → register es x ≡ Some r → w x ≡ true → x < p.written → (y : ℕ) (s : List ℕ) → register all y ≡ Some s → Loses (x, r) y s → ⊥

    abbrev of_one : ℕ × List ℕ → Option LostPair
    of_one d = cond (w d.0) (lost_with w l d all) None

    none_of_one : (d : ℕ × List ℕ) (x : ℕ) (r : List ℕ) → IsHead d x r → of_one d ≡ None → w x ≡ true → (y : ℕ) (s : List ℕ) → register all y ≡ Some s
        → Loses (x, r) y s → ⊥
    none_of_one d x r head e h y s at lost =
        let none : of_one (x, r) ≡ None = ap₂ (λ (n : ℕ) (q : List ℕ). of_one (n, q)) (sym head.number) (sym head.name) ∙ e in
        no_other (x, r) all (sym (ap (λ t. cond t (lost_with w l (x, r) all) None) h) ∙ none) y s at lost

    some_of_one : (d : ℕ × List ℕ) (p : LostPair) (t : Bool) → w d.0 ≡ t → cond t (lost_with w l d all) None ≡ Some p → (t ≡ true) × IsFirstOther d all p
    some_of_one d p true e h = (refl, first_other d all p rising h)
    some_of_one d p false e h = absurd (cc h)

    pair_by : (d : ℕ × List ℕ) (es : List (ℕ × List ℕ)) (p : LostPair) (o : Option LostPair) → of_one d ≡ o → list_all (λ c. nat_lt d.0 c.0) es ≡ true
        → option_or o (lost_by w l all es) ≡ Some p → (lost_by w l all es ≡ Some p → IsFirstPair es p) → IsFirstPair (d ∷ es) p
    pair_by d es p (Some q) e h i next =
        let same : q ≡ p = cc i in
        let x = some_of_one d p (w d.0) refl (e ∙ ap (λ (c : LostPair). Some c) same) in
        let number : d.0 ≡ p.written = sym x.1.written in
        record {
          name = d.1;
          entry = ap (register (d ∷ es)) (sym number) ∙ head_entry d es;
          writes = ap w (sym number) ∙ x.0;
          other = subst (λ n. IsFirstOther (n, d.1) all p) number x.1;
          first = λ y r at written low. elim (entry_cases d es y r at) [
            | inl head ↦ (let n = head.number in absurd (omega (arith, n, low, number)))
            | inr later ↦ (let far = above d.0 es y r h later in absurd (omega (arith, far, low, number)))
          ];
        }
    pair_by d es p None e h i next =
        let x = next i in
        record {
          name = x.name;
          entry = behind d es p.written x.name h x.entry;
          writes = x.writes;
          other = x.other;
          first = λ y r at written low. elim (entry_cases d es y r at) [
            | inl head ↦ none_of_one d y r head e written
            | inr later ↦ x.first y r later written low
          ];
        }

    first_pair : (es : List (ℕ × List ℕ)) (p : LostPair) → is_rising es ≡ true → lost_by w l all es ≡ Some p → IsFirstPair es p
    first_pair [] p h e = absurd (cc e)
    first_pair (d ∷ es) p h e = pair_by d es p (of_one d) refl (and_first (list_all (λ c. nat_lt d.0 c.0) es) (is_rising es) h) e
        (first_pair es p (and_second (list_all (λ c. nat_lt d.0 c.0) es) (is_rising es) h))

    no_pair_by : (d : ℕ × List ℕ) (es : List (ℕ × List ℕ)) (o : Option LostPair) → of_one d ≡ o → option_or o (lost_by w l all es) ≡ None → (x : ℕ) (r : List ℕ)
        → register (d ∷ es) x ≡ Some r → w x ≡ true → (y : ℕ) (s : List ℕ) → register all y ≡ Some s
        → Loses (x, r) y s
        → (lost_by w l all es ≡ None → (z : ℕ) (q : List ℕ) → register es z ≡ Some q → w z ≡ true → (v : ℕ) (u : List ℕ) → register all v ≡ Some u
        → Loses (z, q) v u → ⊥) → ⊥
    no_pair_by d es (Some q) o e x r at written y s some_there lost next = cc e
    no_pair_by d es None o e x r at written y s some_there lost next = elim (entry_cases d es x r at) [
      | inl head ↦ none_of_one d x r head o written y s some_there lost
      | inr later ↦ next e x r later written y s some_there lost
    ]

    no_pair : (es : List (ℕ × List ℕ)) → lost_by w l all es ≡ None → (x : ℕ) (r : List ℕ) → register es x ≡ Some r → w x ≡ true → (y : ℕ) (s : List ℕ)
        → register all y ≡ Some s → Loses (x, r) y s → ⊥
    no_pair [] e x r at written y s some_there lost = cc at
    no_pair (d ∷ es) e x r at written y s some_there lost = no_pair_by d es (of_one d) refl e x r at written y s some_there lost (no_pair es)

-- ---- the first of several numbers
module _ {A : Type 0} (f : ℕ → Option A) where
  record IsFirstOf (k n : ℕ) (a : A) : Type 0 where
    place : ℕ
    low : k ≤ place
    high : place < k + n
    is : f place ≡ Some a
    before : (i : ℕ) → k ≤ i → i < place → f i ≡ None

  none_there : (k n : ℕ) (o : Option A) → f k ≡ o → option_or o (first_from f (suc k) n) ≡ None → (i : ℕ) (t : Bool) → (i == k) ≡ t → k ≤ i → i < k + suc n
      → (first_from f (suc k) n ≡ None → (j : ℕ) → suc k ≤ j → j < suc k + n → f j ≡ None) → f i ≡ None
  none_there k n (Some a) o e i t g h j next = absurd (cc e)
  none_there k n None o e i true g h j next = ap f (eqb-true i k g) ∙ o
  none_there k n None o e i false g h j next = let apart = eqb-false i k g in next e i (omega (arith, h, apart)) (omega (arith, j))

  none_from : (k n : ℕ) → first_from f k n ≡ None → (i : ℕ) → k ≤ i → i < k + n → f i ≡ None
  none_from k zero e i h j = absurd (omega (arith, h, j))
  none_from k (suc n) e i h j = none_there k n (f k) refl e i (i == k) refl h j (none_from (suc k) n)

  early : (k i place : ℕ) → f k ≡ None → k ≤ i → i < place → (t : Bool) → (i == k) ≡ t → ((j : ℕ) → suc k ≤ j → j < place → f j ≡ None) → f i ≡ None
  early k i place o h j true g before = ap f (eqb-true i k g) ∙ o
  early k i place o h j false g before = let apart = eqb-false i k g in before i (omega (arith, h, apart)) j

  first_there : (k n : ℕ) (a : A) (o : Option A) → f k ≡ o → option_or o (first_from f (suc k) n) ≡ Some a
      → (first_from f (suc k) n ≡ Some a → IsFirstOf (suc k) n a) → IsFirstOf k (suc n) a
  first_there k n a (Some b) o e next = record { place = k; low = omega arith; high = omega arith; is = o ∙ e; before = λ i h j. absurd (omega (arith, h, j)) }
  first_there k n a None o e next =
      let x = next e in
      record {
        place = x.place;
        low = let h = x.low in omega (arith, h);
        high = let h = x.high in omega (arith, h);
        is = x.is;
        before = λ i h j. early k i x.place o h j (i == k) refl x.before;
      }

  first_is : (k n : ℕ) (a : A) → first_from f k n ≡ Some a → IsFirstOf k n a
  first_is k zero a e = absurd (cc e)
  first_is k (suc n) a e = first_there k n a (f k) refl e (first_is (suc k) n a)

some_mapped : {A B : Type 0} (g : A → B) (o : Option A) (b : B) → option_map g o ≡ Some b → (a : A) × ((o ≡ Some a) × (g a ≡ b))
some_mapped g None b h = absurd (cc h)
some_mapped g (Some a) b h = (a, (refl, cc h))

-- ---- the conflict of a machine
module _ (b : List (ℕ × List ℕ)) (m : Fsmd) (sets : List VariableSet) (sound : IsSound m) (rising : is_rising b ≡ true)
    (low : (x : ℕ) (r : List ℕ) → register b x ≡ Some r → x < 128) (count : length sets ≡ length m.states) (has : HasLive m sets) where
  abbrev W : ℕ → ℕ → ℕ → Bool
  W q k = written_at m q k

  abbrev L : ℕ → ℕ → ℕ → Bool
  L q k = live_after m sets q k

  written_is : (q k x : ℕ) → x < 128 → W q k x ≡ writes x (branch_at m q k)
  written_is q k x h = members (assigned_in (branch_at m q k).assignments) x h

  -- what is live where a branch leads, by whether that is the reset state
  abbrev after : Bool → ℕ → ℕ → ℕ → Bool
  after t q k = cond t (λ y. false) (has_at sets (target_of m q k))

  record IsLiveAfter (q k x : ℕ) : Type 0 where
    goes_on : target_of m q k ≢ m.reset
    live : IsLive m x (target_of m q k)

  live_by : (q k x : ℕ) (t : Bool) → (target_of m q k == m.reset) ≡ t → k < branch_count m q → x < 128 → after t q k x ≡ true → IsLiveAfter q k x
  live_by q k x true e h i j = absurd (cc j)
  live_by q k x false e h i j =
      let some_there = target_in m sound q k h in
      record { goes_on = eqb-false (target_of m q k) m.reset e; live = has.sound (target_of m q k) x (omega (arith, some_there, count)) i j }

  live_is : (q k x : ℕ) (t : Bool) → (target_of m q k == m.reset) ≡ t → x < 128 → IsLiveAfter q k x → after t q k x ≡ true
  live_is q k x true e i l = absurd (l.goes_on (eqb-true (target_of m q k) m.reset e))
  live_is q k x false e i l = has.complete (target_of m q k) x i l.live

  -- what a test of two entries says
  same_names : (r s : List ℕ) → bytes_eq s r ≡ true → s ≡ r
  same_names r s h = (bytes_eq-Decides s r).0 h

  own_name : (r s : List ℕ) → s ≡ r → bytes_eq s r ≡ true
  own_name r s h = (bytes_eq-Decides s r).1 h

  record IsLoss (q k x y : ℕ) (r s : List ℕ) : Type 0 where
    apart : x ≢ y
    lost : (W q k y ≡ true) ⊎ (L q k y ≡ true)
    same : s ≡ r

  loss : (q k x y : ℕ) (r s : List ℕ) → is_lost (W q k) (L q k) (x, r) (y, s) ≡ true → IsLoss q k x y r s
  loss q k x y r s h =
      let rest = and_second (not (y == x)) ((W q k y || L q k y) && bytes_eq s r) h in
      let apart = eqb-false y x (not-true (y == x) (and_first (not (y == x)) ((W q k y || L q k y) && bytes_eq s r) h)) in
      record {
        apart = λ e. apart (sym e);
        lost = or_cases (W q k y) (L q k y) (and_first (W q k y || L q k y) (bytes_eq s r) rest);
        same = same_names r s (and_second (W q k y || L q k y) (bytes_eq s r) rest);
      }

  apart_is : (x y : ℕ) → x ≢ y → not (y == x) ≡ true
  apart_is x y h = ap not (false_from_ne_true (y == x) (λ e. h (sym (eqb-true y x e))))

  is_loss : (q k x y : ℕ) (r s : List ℕ) → x ≢ y → (W q k y || L q k y) ≡ true → s ≡ r → is_lost (W q k) (L q k) (x, r) (y, s) ≡ true
  is_loss q k x y r s a l e =
      and_from (not (y == x)) ((W q k y || L q k y) && bytes_eq s r) (apart_is x y a) (and_from (W q k y || L q k y) (bytes_eq s r) l (own_name r s e))

  -- a conflict loses the other local
  shared_of : (c : Conflict) → IsConflict b m c → IsShared b m c
  shared_of c (inl t) = t.shared
  shared_of c (inr d) = d.shared

  other_lost : (c : Conflict) → IsConflict b m c → (W c.state c.branch c.other || L c.state c.branch c.other) ≡ true
  other_lost c (inl t) =
      let i = low c.other t.shared.shared t.shared.other_in in
      or_left (W c.state c.branch c.other) (L c.state c.branch c.other) (written_is c.state c.branch c.other i ∙ t.both)
  other_lost c (inr d) =
      let i = low c.other d.shared.shared d.shared.other_in in
      or_right (W c.state c.branch c.other) (L c.state c.branch c.other)
      (live_is c.state c.branch c.other (target_of m c.state c.branch == m.reset) refl i (record { goes_on = d.goes_on; live = d.live }))

  conflict_lost : (c : Conflict) (h : IsConflict b m c)
      → is_lost (W c.state c.branch) (L c.state c.branch) (c.written, (shared_of c h).shared) (c.other, (shared_of c h).shared) ≡ true
  conflict_lost c h = let s = shared_of c h in is_loss c.state c.branch c.written c.other s.shared s.shared s.differ (other_lost c h) refl

  conflict_writes : (c : Conflict) (h : IsConflict b m c) → W c.state c.branch c.written ≡ true
  conflict_writes c h = let s = shared_of c h in written_is c.state c.branch c.written (low c.written s.shared s.written_in) ∙ s.writes

  -- no conflict at a branch where no pair is found
  none_at : (c : Conflict) → IsConflict b m c → lost_by (W c.state c.branch) (L c.state c.branch) b b ≡ None → ⊥
  none_at c h e =
      let s = shared_of c h in
      no_pair (W c.state c.branch) (L c.state c.branch) b rising b e c.written s.shared s.written_in (conflict_writes c h) c.other s.shared s.other_in
      (conflict_lost c h)

  none_at_branch : (c : Conflict) → IsConflict b m c → conflict_at b m sets c.state c.branch ≡ None → ⊥
  none_at_branch c h e = none_at c h (none_from_map (doubled_conflict c.state c.branch) (lost_by (W c.state c.branch) (L c.state c.branch) b b) e)

  none_at_state : (c : Conflict) → IsConflict b m c → conflict_in b m sets c.state ≡ None → ⊥
  none_at_state c h e =
      let s = shared_of c h in
      none_at_branch c h (none_from (conflict_at b m sets c.state) 0 (branch_count m c.state) e c.branch (omega arith) (let n = s.numbered in omega (arith, n)))

  pub no_conflict : first_conflict b m sets ≡ None → (c : Conflict) → IsConflict b m c → ⊥
  no_conflict e c h =
      let s = shared_of c h in
      let some_there = is_there m c.state c.branch s.numbered in
      none_at_state c h (none_from (conflict_in b m sets) 0 (length m.states) e c.state (omega arith) (omega (arith, some_there)))

  -- ---- the one that is found
  record IsFound (q k : ℕ) (p : LostPair) : Type 0 where
    numbered : k < branch_count m q
    pair : IsFirstPair (W q k) (L q k) b rising b p
    states : (i : ℕ) → i < q → conflict_in b m sets i ≡ None
    branches : (i : ℕ) → i < k → conflict_at b m sets q i ≡ None

  module _ (q k : ℕ) (p : LostPair) (at : IsFound q k p) where
    abbrev c : Conflict
    c = record { state = q; branch = k; written = p.written; other = p.other }

    abbrev x : IsFirstPair (W q k) (L q k) b rising b p
    x = at.pair

    abbrev gone : IsLoss q k p.written p.other x.name x.other.name
    gone = loss q k p.written p.other x.name x.other.name x.other.lost

    abbrev low_other : p.other < 128
    low_other = low p.other x.other.name x.other.entry

    shared : IsShared b m c
    shared = record {
      numbered = at.numbered;
      shared = x.name;
      written_in = x.entry;
      other_in = x.other.entry ∙ ap (λ (n : List ℕ). Some n) gone.same;
      differ = gone.apart;
      writes = sym (written_is q k p.written (low p.written x.name x.entry)) ∙ x.writes;
    }

    twice_by : W q k p.other ≡ true → IsTwice b m c
    twice_by h = record { shared = shared; both = sym (written_is q k p.other low_other) ∙ h }

    conflict_by : (W q k p.other ≡ true) ⊎ (L q k p.other ≡ true) → IsConflict b m c
    conflict_by (inl h) = inl (twice_by h)
    conflict_by (inr h) =
        let l = live_by q k p.other (target_of m q k == m.reset) refl at.numbered low_other h in
        inr (record { shared = shared; goes_on = l.goes_on; live = l.live })

    -- ---- none comes before it
    module _ (d : Conflict) (h : IsConflict b m d) where
      no_state : nat_lt d.state q ≡ false
      no_state = false_from_ne_true (nat_lt d.state q) (λ e. none_at_state d h (at.states d.state (ltb-true d.state q e)))

      no_branch_before : (d.state == q) ≡ true → nat_lt d.branch k ≡ false
      no_branch_before e =
          false_from_ne_true (nat_lt d.branch k)
          (λ i. none_at_branch d h (ap (λ z. conflict_at b m sets z d.branch) (eqb-true d.state q e) ∙ at.branches d.branch (ltb-true d.branch k i)))

      abbrev s : IsShared b m d
      s = shared_of d h

      moved : (P : ℕ → ℕ → Type 0) → d.state ≡ q → d.branch ≡ k → P d.state d.branch → P q k
      moved P e f y = subst (λ z. P q z) f (subst (λ z. P z d.branch) e y)

      writes_here : d.state ≡ q → d.branch ≡ k → W q k d.written ≡ true
      writes_here e f = moved (λ i j. W i j d.written ≡ true) e f (conflict_writes d h)

      lost_here : d.state ≡ q → d.branch ≡ k → is_lost (W q k) (L q k) (d.written, s.shared) (d.other, s.shared) ≡ true
      lost_here e f = moved (λ i j. is_lost (W i j) (L i j) (d.written, s.shared) (d.other, s.shared) ≡ true) e f (conflict_lost d h)

      no_written : d.state ≡ q → d.branch ≡ k → nat_lt d.written p.written ≡ false
      no_written e f = false_from_ne_true (nat_lt d.written p.written)
          (λ i. x.first d.written s.shared s.written_in (writes_here e f) (ltb-true d.written p.written i) d.other s.shared s.other_in (lost_here e f))

      no_other_before : d.state ≡ q → d.branch ≡ k → d.written ≡ p.written → nat_lt d.other p.other ≡ false
      no_other_before e f g =
          let same : Some s.shared ≡ Some x.name = sym s.written_in ∙ ap (register b) g ∙ x.entry in
          let name : s.shared ≡ x.name = cc same in
          let lost : is_lost (W q k) (L q k) (p.written, x.name) (d.other, s.shared) ≡ true =
          ap₂ (λ (i : ℕ) (r : List ℕ). is_lost (W q k) (L q k) (i, r) (d.other, s.shared)) (sym g) (sym name) ∙ lost_here e f in
          false_from_ne_true (nat_lt d.other p.other) (λ i. x.other.first d.other s.shared s.other_in lost (ltb-true d.other p.other i))

      -- none of the tests in order holds
      next_fails : (a e r : Bool) → a ≡ false → (e ≡ true → r ≡ false) → (a || (e && r)) ≡ false
      next_fails true e r h i = h
      next_fails false true r h i = i refl
      next_fails false false r h i = refl

      and_fails : (e r : Bool) → (e ≡ true → r ≡ false) → (e && r) ≡ false
      and_fails true r i = i refl
      and_fails false r i = refl

      not_before : conflict_is_before d c ≡ false
      not_before =
          next_fails (nat_lt d.state q) (d.state == q) _ no_state (λ e.
          next_fails (nat_lt d.branch k) (d.branch == k) _ (no_branch_before e) (λ f.
          next_fails (nat_lt d.written p.written) (d.written == p.written) _ (no_written (eqb-true d.state q e) (eqb-true d.branch k f)) (λ g.
          no_other_before (eqb-true d.state q e) (eqb-true d.branch k f) (eqb-true d.written p.written g))))

    is_first : IsFirstConflict b m c p.twice
    is_first = record {
      conflict = conflict_by gone.lost;
      first = λ d h. not_before d h;
      is_twice = λ e. twice_by (sym x.other.twice ∙ e);
      not_twice = λ e t. let both = written_is q k p.other low_other ∙ t.both in let none = sym x.other.twice ∙ e in cc (both, none);
    }

  pub found_first : (a : Conflict × Bool) → first_conflict b m sets ≡ Some a → IsFirstConflict b m a.0 a.1
  found_first a e =
      let s = first_is (conflict_in b m sets) 0 (length m.states) a e in
      let t = first_is (conflict_at b m sets s.place) 0 (branch_count m s.place) a s.is in
      let g = some_mapped (doubled_conflict s.place t.place) (lost_by (W s.place t.place) (L s.place t.place) b b) a t.is in
      let at : IsFound s.place t.place g.0 = record {
        numbered = let h = t.high in omega (arith, h);
        pair = first_pair (W s.place t.place) (L s.place t.place) b rising b g.0 rising g.1.0;
        states = λ i h. s.before i (omega arith) h;
        branches = λ i h. t.before i (omega arith) h;
      } in
      subst (λ (z : Conflict × Bool). IsFirstConflict b m z.0 z.1) g.1.1 (is_first s.place t.place g.0 at)

  pub verdict : (o : Option (Conflict × Bool)) → o ≡ first_conflict b m sets → IsVerdict b m o
  verdict None e = record { none = no_conflict (sym e) }
  verdict (Some a) e = found_first a (sym e)

-- the locals of a binding have low numbers
pub all_low : (m : Fsmd) (b : List (ℕ × List ℕ)) → IsSound m → IsBindingOf m.variables b → (x : ℕ) (r : List ℕ) → register b x ≡ Some r → x < 128
all_low m b sound binds x r e =
    let v = some_there (slice_get m.variables x) (binds.locals x r e) in
    let low = slice_get_within m.variables x v.0 v.1 in
    let few = sound.few_variables in
    omega (arith, low, few)

pub verdict_of : (m : Fsmd) (b es : List (ℕ × List ℕ)) (sets : List VariableSet) (o : Option (Conflict × Bool)) → es ≡ b → IsSound m → is_rising b ≡ true
    → IsBindingOf m.variables b → length sets ≡ length m.states → HasLive m sets → o ≡ first_conflict es m sets → IsVerdict b m o
verdict_of m b es sets o e sound rising binds count has h =
    verdict b m sets sound rising (all_low m b sound binds) count has o (h ∙ ap (λ ds. first_conflict ds m sets) e)

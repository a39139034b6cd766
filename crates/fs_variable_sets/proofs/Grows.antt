-- Variables that are added, and the weight that falls.
use Rattle.std.proofs.Common.{◌≡◌, ◌++◌, ℕ, zero, suc, ◌+◌, ◌^◌, ◌<◌, ◌≤◌, List, [], ◌∷◌, length, sym, refl, ◌∙◌, ap, ap₂, subst, inl, inr, arith, Bool, true}
use Rattle.std.proofs.Common.{false, cond, slice_set, All, take, length-set, get_or-set_same, get_or-set_other}
use Rattle.std.specs.Prelude.{◌≢◌, ◌==◌, ◌&&◌, ◌||◌, not, Contains}
use Rattle.std.specs.List.{slice_index_or}
use Rattle.std.proofs.lemmas.List.{set-get_or}
use Rattle.std.proofs.lemmas.List.Elements.{All-more, All-contains, Contains-get_or}
use Rattle.std.proofs.lemmas.Bool.{both_ways, or_cases, or_left, or_right, and_parts, and_from, not-true, not-false, not_from_false, eqb-false, eqb-true}
use Rattle.std.proofs.lemmas.Bool.Decides.{nat_tests}
use Rattle.fs_model.proofs.Booleans.{or_false}
use Rattle.fs_variable_sets.specs.declared.VariableSet.{VariableSet}
use Rattle.fs_variable_sets.specs.Sets.{has_variable}
use Rattle.fs_variable_sets.proofs.Bits.{has_none, more_bits}
use Rattle.fs_variable_sets.specs.declared.flows.Flow.{Flow}
use Rattle.fs_variable_sets.specs.Flows.{set_at, has_at, live_before, live_with_flow, flow_weight, AreLive, IsLiveIn, reading, passing, IsFixedPoint, IsInside}

abbrev nothing : VariableSet
nothing = record { bits = 0 }

abbrev set_of : ℕ → VariableSet
set_of n = record { bits = n }

-- ---- what is live before a branch
-- by whether it leads to the reset state
abbrev before_by : Bool → List VariableSet → Flow → ℕ → Bool
before_by t live f = cond t (has_variable f.reads) (λ x. has_variable f.reads x || (has_at live f.target x && not (has_variable f.writes x)))

pub passed_on : (reset : ℕ) (live : List VariableSet) (f : Flow) (at left all : VariableSet) → f.target ≢ reset → at ≡ set_at live f.target
    → has_variable left ≡ (λ x. has_variable at x && not (has_variable f.writes x)) → has_variable all ≡ (λ x. has_variable f.reads x || has_variable left x)
    → has_variable all ≡ live_before reset live f
passed_on reset live f at left all on read e g =
    let apart : (f.target == reset) ≡ false = grind (arith, nat_tests) in
    g
    ∙ ap {B = ℕ → Bool} (λ (m : ℕ → Bool) (x : ℕ). has_variable f.reads x || m x) e
    ∙ ap {B = ℕ → Bool} (λ (s : VariableSet) (x : ℕ). has_variable f.reads x || (has_variable s x && not (has_variable f.writes x))) read
    ∙ sym (ap (λ t. before_by t live f) apart)

-- ---- a step
lighter : (ss : List VariableSet) (i : ℕ) (s : VariableSet) → i < length ss → (set_at ss i).bits < s.bits → (set_at ss i).bits < 2 ^ 128
    → flow_weight (slice_set ss i s) < flow_weight ss
lighter [] i s h k f = absurd (omega arith)
lighter (n ∷ ss) zero s h k f = omega (arith, k, f)
lighter (n ∷ ss) (suc i) s h k f = omega (arith, lighter ss i s (omega (arith, h)) k f)

strict : (a c : ℕ) → a ≤ c → (c ≡ a → ⊥) → a < c
strict a c h f = omega (arith, h, f)

-- what a step does
pub record Grown (reset : ℕ) (live : List VariableSet) (f : Flow) (new : List VariableSet) (changed : Bool) : Type 0 where
  pub count : length new ≡ length live
  pub stepped : (q x : ℕ) → has_at new q x ≡ live_with_flow reset live f q x
  pub settled : changed ≡ false → (new ≡ live) × IsFixedPoint reset live f
  pub grows : changed ≡ true → flow_weight new < flow_weight live

-- the set of a state, with what is live by a branch added
module _ (reset : ℕ) (live : List VariableSet) (f : Flow) (old more new : VariableSet) (inside : IsInside (length live) f) (read : old ≡ set_at live f.from)
    (before : has_variable more ≡ live_before reset live f) (is : has_variable new ≡ (λ x. has_variable old x || has_variable more x)) where
  own : (x : ℕ) → has_variable new x ≡ (has_at live f.from x || live_before reset live f x)
  own x = ap (λ (m : ℕ → Bool). m x) is ∙ ap₂ (λ (s : VariableSet) (m : ℕ → Bool). has_variable s x || m x) read before

  step_by : (q x : ℕ) (t : Bool) → (q == f.from) ≡ t → has_at (slice_set live f.from new) q x ≡ (has_at live q x || (t && live_before reset live f x))
  step_by q x true e =
      let same : q ≡ f.from = eqb-true q f.from e in
      subst (λ z. has_at (slice_set live f.from new) z x ≡ (has_at live z x || live_before reset live f x)) (sym same)
      (ap (λ s. has_variable s x) (get_or-set_same live f.from new nothing inside.0) ∙ own x)
  step_by q x false e = ap (λ s. has_variable s x) (get_or-set_other live f.from q new nothing (eqb-false q f.from e)) ∙ sym (or_false (has_at live q x))

  grown_step : (q x : ℕ) → has_at (slice_set live f.from new) q x ≡ live_with_flow reset live f q x
  grown_step q x = step_by q x (q == f.from) refl

  same_sets : new.bits ≡ old.bits → slice_set live f.from new ≡ live
  same_sets e = ap (λ n. slice_set live f.from (set_of n)) e ∙ ap (λ s. slice_set live f.from s) read ∙ set-get_or live f.from nothing

  now_settled : new.bits ≡ old.bits → IsFixedPoint reset live f
  now_settled e = λ x h. ap (λ s. has_variable s x) (sym (ap set_of e ∙ read)) ∙ own x ∙ or_right (has_at live f.from x) (live_before reset live f x) h

  grown_lighter : (new.bits ≡ old.bits → ⊥) → old.bits < 2 ^ 128 → flow_weight (slice_set live f.from new) < flow_weight live
  grown_lighter apart few = lighter live f.from new inside.0 (subst (λ s. s.bits < new.bits) read (strict old.bits new.bits (more_bits old more new is) apart))
      (subst (λ s. s.bits < 2 ^ 128) read few)

  pub grown : (changed : Bool) → changed ≡ not (new.bits == old.bits) → old.bits < 2 ^ 128 → Grown reset live f (slice_set live f.from new) changed
  grown changed e few = record {
    count = length-set live f.from new;
    stepped = grown_step;
    settled = λ h. let same = eqb-true new.bits old.bits (not-false (new.bits == old.bits) (sym e ∙ h)) in (same_sets same, now_settled same);
    grows = λ h. grown_lighter (eqb-false new.bits old.bits (not-true (new.bits == old.bits) (sym e ∙ h))) few;
  }

-- ---- a step adds what is live
module _ (flows : List Flow) (reset : ℕ) (live new : List VariableSet) (f : Flow) (listed : Contains flows f)
    (is : (q x : ℕ) → has_at new q x ≡ live_with_flow reset live f q x) (sound : AreLive flows reset live) where
  before_live : (x : ℕ) (t : Bool) → (f.target == reset) ≡ t → before_by t live f x ≡ true → IsLiveIn flows reset x f.from
  before_live x true e h = reading f listed h
  before_live x false e h = elim (or_cases (has_variable f.reads x) (has_at live f.target x && not (has_variable f.writes x)) h) [
    | inl r ↦ reading f listed r
    | inr p ↦ (let two = and_parts (has_at live f.target x) (not (has_variable f.writes x)) p in
        passing f listed (not-true (has_variable f.writes x) two.1) (eqb-false f.target reset e) (sound f.target x two.0))
  ]

  step_live : (q x : ℕ) → (q == f.from && live_before reset live f x) ≡ true → IsLiveIn flows reset x q
  step_live q x h =
      let two = and_parts (q == f.from) (live_before reset live f x) h in
      let same : q ≡ f.from = eqb-true q f.from two.0 in
      subst (λ z. IsLiveIn flows reset x z) (sym same) (before_live x (f.target == reset) refl two.1)

  pub step_sound : AreLive flows reset new
  step_sound = λ q x h. elim (or_cases (has_at live q x) (q == f.from && live_before reset live f x) (sym (is q x) ∙ h)) [
    | inl e ↦ sound q x e
    | inr e ↦ step_live q x e
  ]

-- ---- one turn of a round
-- what holds after i turns
abbrev pub Kept : List Flow → ℕ → (first live : List VariableSet) → Bool → ℕ → Type 0
Kept flows reset first live changed i =
    (length live ≡ length first) × (changed ≡ false → (live ≡ first) × All (IsFixedPoint reset first) (take i flows))
    × (changed ≡ true → flow_weight live < flow_weight first) × (AreLive flows reset first → AreLive flows reset live)

module _ (flows : List Flow) (reset : ℕ) (first live new : List VariableSet) (i : ℕ) (d : Flow) (inside : i < length flows)
    (all : All (IsInside (length first)) flows) (count : length new ≡ length live)
    (is : (q x : ℕ) → has_at new q x ≡ live_with_flow reset live (slice_index_or flows i d) q x) where
  sound_next : AreLive flows reset live → AreLive flows reset new
  sound_next s = step_sound flows reset live new (slice_index_or flows i d) (Contains-get_or flows i d inside) is s

  lighter_next : (before : Bool) → (before ≡ false → (live ≡ first) × All (IsFixedPoint reset first) (take i flows))
      → (before ≡ true → flow_weight live < flow_weight first) → flow_weight new < flow_weight live → flow_weight new < flow_weight first
  lighter_next true h g w = omega (arith, w, g refl)
  lighter_next false h g w = omega (arith, w, ap flow_weight (h refl).0)

  settled_next : live ≡ first → All (IsFixedPoint reset first) (take i flows) → IsFixedPoint reset live (slice_index_or flows i d)
      → All (IsFixedPoint reset first) (take (i + 1) flows)
  settled_next e h s = All-more (IsFixedPoint reset first) flows i d inside h
      (subst (λ (v : List VariableSet). IsFixedPoint reset v (slice_index_or flows i d)) e s)

  pub turned : (before grew after : Bool) → Kept flows reset first live before i
      → (grew ≡ false → (new ≡ live) × IsFixedPoint reset live (slice_index_or flows i d)) → (grew ≡ true → flow_weight new < flow_weight live)
      → (grew ≡ true → after ≡ true) → (grew ≡ false → after ≡ before)
      → Kept flows reset first new after (i + 1)
  turned before true after k s g t e = (count ∙ k.0, (λ n. absurd (cc (n, t refl))), (λ n. lighter_next before k.1 k.2 (g refl)), λ h. sound_next (k.3 h))
  turned before false after k s g t e =
      let x = s refl in
      let y = e refl in (
        count ∙ k.0,
        (λ n. let z = k.1 (sym y ∙ n) in (x.0 ∙ z.0, settled_next z.0 z.1 x.1)),
        (λ n. subst (λ (v : List VariableSet). flow_weight v < flow_weight first) (sym x.0) (k.2 (sym y ∙ n))),
        λ h. sound_next (k.3 h),
      )

-- ---- a settled round
module _ (flows : List Flow) (reset : ℕ) (live : List VariableSet) (settled : All (IsFixedPoint reset live) flows) where
  read_before : (f : Flow) (x : ℕ) (t : Bool) → has_variable f.reads x ≡ true → before_by t live f x ≡ true
  read_before f x true h = h
  read_before f x false h = or_left (has_variable f.reads x) (has_at live f.target x && not (has_variable f.writes x)) h

  passed_before : (f : Flow) (x : ℕ) (t : Bool) → (f.target == reset) ≡ t → f.target ≢ reset → has_variable f.writes x ≡ false → has_at live f.target x ≡ true
      → before_by t live f x ≡ true
  passed_before f x true e on w h = absurd (on (eqb-true f.target reset e))
  passed_before f x false e on w h = or_right (has_variable f.reads x) (has_at live f.target x && not (has_variable f.writes x))
      (and_from (has_at live f.target x) (not (has_variable f.writes x)) h (not_from_false (has_variable f.writes x) w))

  at_listed : (f : Flow) → Contains flows f → IsFixedPoint reset live f
  at_listed f l = All-contains (IsFixedPoint reset live) flows f settled l

  pub has_live : (x q : ℕ) → IsLiveIn flows reset x q → has_at live q x ≡ true
  has_live x q (reading f l r) = at_listed f l x (read_before f x (f.target == reset) r)
  has_live x q (passing f l w on d) = at_listed f l x (passed_before f x (f.target == reset) refl on w (has_live x f.target d))

pub none_live : (flows : List Flow) (reset : ℕ) (live : List VariableSet) → ((q x : ℕ) → has_at live q x ≡ false) → AreLive flows reset live
none_live flows reset live h = λ q x e. absurd (both_ways (has_at live q x) (h q x) e)

-- ---- empty sets
pub none_at_first : (q x : ℕ) → has_at [] q x ≡ false
none_at_first q x = ap (λ (m : ℕ → Bool). m x) has_none

pub none_pushed : (ss : List VariableSet) (s : VariableSet) → ((q x : ℕ) → has_at ss q x ≡ false) → has_variable s ≡ (λ x. false) → (q x : ℕ)
    → has_at (ss ++ s ∷ []) q x ≡ false
none_pushed [] s h e zero x = ap (λ (m : ℕ → Bool). m x) e
none_pushed [] s h e (suc q) x = none_at_first q x
none_pushed (n ∷ ss) s h e zero x = h 0 x
none_pushed (n ∷ ss) s h e (suc q) x = none_pushed ss s (λ i. h (suc i)) e q x

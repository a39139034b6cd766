-- The verdict is that of the first obligation that does not hold.
use Rattle.std.proofs.Common.{◌≡◌, ◌⊎◌, inl, inr, ℕ, suc, ◌+◌, List, [], ◌∷◌, ◌++◌, length, Some, None, refl, sym, ap, ◌∙◌, arith}
use Rattle.std.specs.Prelude.{◌↔◌}
use Rattle.std.specs.List.{AllByRecursion}
use Rattle.nf_terms.specs.Computed.{Done, Wide, Large}
use Rattle.cert_model.specs.declared.reason.Reason.{Reason}
use Rattle.cert_model.specs.Obligations.{Judged, Verdict, Yes, No, IsWide, IsLarge, verdict_by, verdict_from}
use Rattle.search_laws.specs.Deciding.{IsFulfilled, FailsFor, IsWideEvent, IsLargeEvent, IsDecidedFirst}

-- ---- all hold

held_by : (k : ℕ) (j : Judged) (later : Verdict) → verdict_by k j later ≡ Yes → IsFulfilled j × (later ≡ Yes)
held_by k (Done None) later e = (refl, e)
held_by k (Done (Some r)) later e = absurd (cc e)
held_by k (Wide left right) later e = absurd (cc e)
held_by k (Large units depth) later e = absurd (cc e)

all_held : (k : ℕ) (js : List Judged) → verdict_from k js ≡ Yes → AllByRecursion IsFulfilled js
all_held k [] e = tt
all_held k (j ∷ js) e = let h = held_by k j (verdict_from (k + 1) js) e in (h.0, all_held (k + 1) js h.1)

says_yes : (k : ℕ) (js : List Judged) → AllByRecursion IsFulfilled js → verdict_from k js ≡ Yes
says_yes k [] h = refl
says_yes k (j ∷ js) h = ap (λ z. verdict_by k z (verdict_from (k + 1) js)) h.0 ∙ says_yes (k + 1) js h.1

pub yes_where_held : (js : List Judged) → (verdict_from 1 js ≡ Yes) ↔ AllByRecursion IsFulfilled js
yes_where_held js = (all_held 1 js, says_yes 1 js)

-- ---- one decides, of which a verdict says its number

module _ (say : ℕ → Verdict) (Decides : Judged → Type 0) (no_yes : (n : ℕ) → Yes ≡ say n → ⊥)
    (here : (k n : ℕ) (j : Judged) (later : Verdict) → verdict_by k j later ≡ say n → ((k ≡ n) × Decides j) ⊎ (IsFulfilled j × (later ≡ say n)))
    (back : (k : ℕ) (j : Judged) (later : Verdict) → Decides j → verdict_by k j later ≡ say k) where
  -- the same with numbers from k on
  abbrev First : ℕ → ℕ → List Judged → Type 0
  First k n js = (earlier : List Judged) × (j : Judged) × (later : List Judged) × (earlier ++ j ∷ later ≡ js) × (length earlier + k ≡ n)
      × AllByRecursion IsFulfilled earlier × Decides j

  first_after : (k n : ℕ) (j : Judged) (js : List Judged) → IsFulfilled j → First (k + 1) n js → First k n (j ∷ js)
  first_after k n j js h f = (j ∷ f.0, f.1, f.2, ap (λ xs. j ∷ xs) f.3, omega (arith, f.4), (h, f.5), f.6)

  first_from : (k n : ℕ) (js : List Judged) → verdict_from k js ≡ say n → First k n js
  first_from k n [] e = absurd (no_yes n e)
  first_from k n (j ∷ js) e = by_step (here k n j (verdict_from (k + 1) js) e) (λ g. first_from (k + 1) n js g)
    where
      by_step : ((k ≡ n) × Decides j) ⊎ (IsFulfilled j × (verdict_from (k + 1) js ≡ say n)) → (verdict_from (k + 1) js ≡ say n → First (k + 1) n js)
          → First k n (j ∷ js)
      by_step (inl h) next = ([], j, js, refl, omega (arith, h.0), tt, h.1)
      by_step (inr h) next = first_after k n j js h.0 (next h.1)

  said_from : (k : ℕ) (earlier : List Judged) (j : Judged) (later : List Judged) → AllByRecursion IsFulfilled earlier → Decides j
      → verdict_from k (earlier ++ j ∷ later) ≡ say (length earlier + k)
  said_from k [] j later h d = let n : k ≡ 0 + k = omega arith in back k j (verdict_from (k + 1) later) d ∙ ap say n
  said_from k (x ∷ xs) j later h d =
      let n : length xs + (k + 1) ≡ suc (length xs) + k = omega arith in
      ap (λ z. verdict_by k z (verdict_from (k + 1) (xs ++ j ∷ later))) h.0 ∙ said_from (k + 1) xs j later h.1 d ∙ ap say n

  pub said_where_first : (js : List Judged) (k : ℕ) → (verdict_from 1 js ≡ say k) ↔ IsDecidedFirst js k Decides
  said_where_first js k = (
    λ e. let f = first_from 1 k js e in record { earlier = f.0; decisive = f.1; later = f.2; in_order = f.3; number = f.4; hold = f.5; decides = f.6 },
    λ f. ap (verdict_from 1) (sym f.in_order) ∙ said_from 1 f.earlier f.decisive f.later f.hold f.decides ∙ ap say f.number,
  )

-- ---- it fails

module _ (r : Reason) where
  fails_here : (k n : ℕ) (j : Judged) (later : Verdict) → verdict_by k j later ≡ No n r → ((k ≡ n) × FailsFor r j) ⊎ (IsFulfilled j × (later ≡ No n r))
  fails_here k n (Done None) later e = inr (refl, e)
  fails_here k n (Done (Some x)) later e = let s : x ≡ r = cc e in inl (cc e, ap (λ y. Done (Some y)) s)
  fails_here k n (Wide left right) later e = absurd (cc e)
  fails_here k n (Large units depth) later e = absurd (cc e)

  pub no_where_first : (js : List Judged) (k : ℕ) → (verdict_from 1 js ≡ No k r) ↔ IsDecidedFirst js k (FailsFor r)
  no_where_first = said_where_first (λ n. No n r) (FailsFor r) (λ n e. cc e) fails_here (λ k j later d. ap (λ z. verdict_by k z later) d)

-- ---- it is wide, or large

wide_here : (k n : ℕ) (j : Judged) (later : Verdict) → verdict_by k j later ≡ IsWide n → ((k ≡ n) × IsWideEvent j) ⊎ (IsFulfilled j × (later ≡ IsWide n))
wide_here k n (Done None) later e = inr (refl, e)
wide_here k n (Done (Some x)) later e = absurd (cc e)
wide_here k n (Wide left right) later e = inl (cc e, (left, right, refl))
wide_here k n (Large units depth) later e = absurd (cc e)

pub wide_where_first : (js : List Judged) (k : ℕ) → (verdict_from 1 js ≡ IsWide k) ↔ IsDecidedFirst js k IsWideEvent
wide_where_first = said_where_first IsWide IsWideEvent (λ n e. cc e) wide_here (λ k j later d. ap (λ z. verdict_by k z later) d.2)

large_here : (k n : ℕ) (j : Judged) (later : Verdict) → verdict_by k j later ≡ IsLarge n → ((k ≡ n) × IsLargeEvent j) ⊎ (IsFulfilled j × (later ≡ IsLarge n))
large_here k n (Done None) later e = inr (refl, e)
large_here k n (Done (Some x)) later e = absurd (cc e)
large_here k n (Wide left right) later e = absurd (cc e)
large_here k n (Large units depth) later e = inl (cc e, (units, depth, refl))

pub large_where_first : (js : List Judged) (k : ℕ) → (verdict_from 1 js ≡ IsLarge k) ↔ IsDecidedFirst js k IsLargeEvent
large_where_first = said_where_first IsLarge IsLargeEvent (λ n e. cc e) large_here (λ k j later d. ap (λ z. verdict_by k z later) d.2)

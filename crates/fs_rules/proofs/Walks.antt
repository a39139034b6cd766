-- One walk, and what it settles.
use Rattle.std.proofs.Common.{◌≡◌, ◌≢◌, ℕ, zero, suc, ◌+◌, ◌-◌, ◌<◌, ◌≤◌, Bool, true, false, List, [], ◌∷◌, ◌++◌, length, refl, sym, ◌∙◌, ap, ap₂, subst, inl}
use Rattle.std.proofs.Common.{inr, arith, length-append, ⊎_elim, ◌^◌, eq-eqb}
use Rattle.std.proofs.lemmas.Bool.{cases_eq, or_left, or_right}
use Rattle.std.specs.Prelude.{◌⊎◌, ◌||◌, ◌&&◌, ◌==◌, not, cond, Option, Some, None, slice_index, nat_lt}
use Rattle.std.specs.Option.{is_some}
use Rattle.std.specs.List.{slice_get, list_all}
use Rattle.std.proofs.lemmas.Bool.Decides.{nat_tests}
use Rattle.std.proofs.Math.ListN.{set, length-set}
use Rattle.std.proofs.lemmas.List.{get_or-set_same, get_or-set_other}
use Rattle.std.proofs.lemmas.List.Sums.{count_by-le-length, sum_by-set}
use Rattle.std.proofs.lemmas.Option.{slice_get_past, slice_get_within}
use Rattle.fs_rules.specs.declared.uncut_cycles.Pass.{Pass}
use Rattle.fs_rules.specs.declared.uncut_cycles.Verdict.{Verdict}
use Rattle.fs_rules.specs.declared.uncut_cycles.Verdict.TheVariants.{Ends, Endless}
use Rattle.fs_rules.specs.TargetWalks.{state_after_walk, is_cut, walk_reaches_cut, IsTargetList, pass_at, pass_count, may_pass, IsTargetWalk, AreSettledWalks}
use Rattle.fs_rules.specs.TargetWalks.{walk_verdict}
use Rattle.fs_rules.specs.TargetWalks.{walk_verdict_by, trail, round_of_walk}

-- ---- steps

pub walked_last : (next : List ℕ) (n q : ℕ) → state_after_walk next (suc n) q ≡ slice_index next (state_after_walk next n q)
walked_last next zero q = refl
walked_last next (suc n) q = walked_last next n (slice_index next q)

pub walked_at : (next : List ℕ) (n m q : ℕ) → n ≡ m → state_after_walk next n q ≡ state_after_walk next m q
walked_at next n m q e = ap (λ k. state_after_walk next k q) e

pub walked_add : (next : List ℕ) (n m q : ℕ) → state_after_walk next m (state_after_walk next n q) ≡ state_after_walk next (n + m) q
walked_add next zero m q = walked_at next m (zero + m) q (omega arith)
walked_add next (suc n) m q = walked_add next n m (slice_index next q) ∙ walked_at next (suc (n + m)) (suc n + m) q (omega arith)

more_or : (c r s : Bool) → (r ≡ true → s ≡ true) → (c || r) ≡ true → (c || s) ≡ true
more_or true r s f e = refl
more_or false r s f e = f e

zero_left : (m : ℕ) → m ≡ zero + m
zero_left m = omega arith

suc_left : (n m : ℕ) → suc (n + m) ≡ suc n + m
suc_left n m = omega arith

-- a state that leads to one from which a cut comes
pub reaches_through : (next : List ℕ) (cut : List Bool) (n m q : ℕ) → walk_reaches_cut next cut m (state_after_walk next n q) ≡ true
    → walk_reaches_cut next cut (n + m) q ≡ true
reaches_through next cut zero m q e = subst (λ k. walk_reaches_cut next cut k q ≡ true) (zero_left m) e
reaches_through next cut (suc n) m q e =
    subst (λ k. walk_reaches_cut next cut k q ≡ true) (suc_left n m)
    (or_right (is_cut cut q) (walk_reaches_cut next cut (n + m) (slice_index next q)) (reaches_through next cut n m (slice_index next q) e))

pub reaches_more : (next : List ℕ) (cut : List Bool) (n q : ℕ) → walk_reaches_cut next cut n q ≡ true → walk_reaches_cut next cut (suc n) q ≡ true
reaches_more next cut zero q e = or_left (is_cut cut q) (walk_reaches_cut next cut zero (slice_index next q)) e
reaches_more next cut (suc n) q e = more_or (is_cut cut q) (walk_reaches_cut next cut n (slice_index next q))
    (walk_reaches_cut next cut (suc n) (slice_index next q)) (reaches_more next cut n (slice_index next q)) e

pub reaches_longer : (next : List ℕ) (cut : List Bool) (k n q : ℕ) → walk_reaches_cut next cut n q ≡ true → walk_reaches_cut next cut (k + n) q ≡ true
reaches_longer next cut zero n q e = subst (λ j. walk_reaches_cut next cut j q ≡ true) (zero_left n) e
reaches_longer next cut (suc k) n q e = subst (λ j. walk_reaches_cut next cut j q ≡ true) (suc_left k n)
    (reaches_more next cut (k + n) q (reaches_longer next cut k n q e))

pub reaches_cut : (next : List ℕ) (cut : List Bool) (n q : ℕ) → is_cut cut q ≡ true → walk_reaches_cut next cut n q ≡ true
reaches_cut next cut zero q e = e
reaches_cut next cut (suc n) q e = or_left (is_cut cut q) (walk_reaches_cut next cut n (slice_index next q)) e

-- ---- one more pass

abbrev mark : Option Pass → ℕ
mark x = cond (is_some x) 1 0

pub passed_set : (xs : List (Option Pass)) (i : ℕ) (p : Pass) → i < length xs → pass_at xs i ≡ None → pass_count (set xs i (Some p)) ≡ pass_count xs + 1
passed_set xs i p h e =
    let s = sum_by-set mark xs i (Some p) None h in
    let none : mark (pass_at xs i) ≡ 0 = ap mark e in
    omega (arith, s, none)

-- a pass where there was none
abbrev put_pass : List (Option Pass) → ℕ → Pass → List (Option Pass)
put_pass xs i p = set xs i (Some p)

put_other : (xs : List (Option Pass)) (i q : ℕ) (p o : Pass) → pass_at xs i ≡ None → pass_at xs q ≡ Some o → pass_at (put_pass xs i p) q ≡ Some o
put_other xs i q p o none there =
    let apart : q ≢ i = λ e. let same : pass_at xs q ≡ None = ap (pass_at xs) e ∙ none in cc in
    get_or-set_other xs i q (Some p) None apart ∙ there

added_at : (next : List ℕ) (cut : List Bool) (start walk : ℕ) (after : List (Option Pass)) (end steps q : ℕ) (p : Pass)
    → end ≡ state_after_walk next steps start
    → is_cut cut end ≡ false → end < length after → q ≡ end
    → pass_at (put_pass after end (record { walk = walk; step = steps })) q ≡ Some p
    → (p.walk ≡ walk) × (p.step < steps + 1) × (q ≡ state_after_walk next p.step start) × (is_cut cut q ≡ false)
added_at next cut start walk after end steps q p leads uncut inside at e =
    let r : Pass = record { walk = walk; step = steps } in
    let there : pass_at (put_pass after end r) q ≡ Some r = ap (pass_at (put_pass after end r)) at ∙ get_or-set_same after end (Some r) None inside in
    let is : p ≡ r = cc in
    let step : p.step ≡ steps = ap (λ x. x.step) is in
    (ap (λ x. x.walk) is, omega arith, at ∙ leads ∙ ap (λ k. state_after_walk next k start) (sym step), ap (is_cut cut) at ∙ uncut)

path_at : (next : List ℕ) (start walk : ℕ) (after : List (Option Pass)) (end steps k : ℕ) → end ≡ state_after_walk next steps start
    → end < length after → k ≡ steps
    → pass_at (put_pass after end (record { walk = walk; step = steps })) (state_after_walk next k start) ≡ Some (record { walk = walk; step = k })
path_at next start walk after end steps k leads inside at =
    let r : Pass = record { walk = walk; step = steps } in
    ap (pass_at (put_pass after end r)) (ap (λ j. state_after_walk next j start) at ∙ sym leads)
    ∙ get_or-set_same after end (Some r) None inside
    ∙ ap (λ j. Some (record { walk = walk; step = j })) (sym at)

pub walk_start : (next : List ℕ) (cut : List Bool) (start walk : ℕ) (before : List (Option Pass)) → start < length next
    → IsTargetWalk next cut start walk before before start 0
walk_start next cut start walk before h = record {
  same = refl;
  leads = refl;
  within = h;
  keeps = λ q p e. e;
  adds = λ q p e. inl e;
  path = λ k l. absurd (omega arith);
  count = omega arith;
}

pub walk_more : (next : List ℕ) (cut : List Bool) (start walk : ℕ) (before after : List (Option Pass)) (end steps : ℕ) → IsTargetList next cut
    → length before ≡ length next → IsTargetWalk next cut start walk before after end steps
    → is_cut cut end ≡ false → pass_at after end ≡ None
    → IsTargetWalk next cut start walk before (put_pass after end (record { walk = walk; step = steps })) (slice_index next end) (steps + 1)
walk_more next cut start walk before after end steps g same w uncut none =
    let r : Pass = record { walk = walk; step = steps } in
    let inside : end < length after = subst (λ n. end < n) (sym (w.same ∙ same)) w.within in
    record {
      same = length-set after end (Some r) ∙ w.same;
      leads = ap (slice_index next) w.leads ∙ sym (walked_last next steps start) ∙ walked_at next (suc steps) (steps + 1) start (omega arith);
      within = g.leads end w.within;
      keeps = λ q p e. put_other after end q r p none (w.keeps q p e);
      adds = λ q p e. ⊎_elim (λ at. inr (added_at next cut start walk after end steps q p w.leads uncut inside at e))
          (λ apart. ⊎_elim (λ old. inl old) (λ new. inr (new.0, omega arith, new.2, new.3))
          (w.adds q p (sym (get_or-set_other after end q (Some r) None apart) ∙ e))) (cases_eq q end);
      path = λ k h. ⊎_elim (λ at. path_at next start walk after end steps k w.leads inside at)
          (λ apart. put_other after end (state_after_walk next k start) r (record { walk = walk; step = k }) none (w.path k (omega arith))) (cases_eq k steps);
      count = let c : pass_count (put_pass after end r) ≡ pass_count after + 1 = passed_set after end r inside none in omega (arith, w.count);
    }

-- ---- verdicts

pub get_old : (vs : List Verdict) (v : Verdict) (w : ℕ) → w < length vs → slice_get (vs ++ v ∷ []) w ≡ slice_get vs w
get_old [] v w h = absurd (omega arith)
get_old (x ∷ vs) v zero h = refl
get_old (x ∷ vs) v (suc w) h = get_old vs v w (omega arith)

pub get_new : (vs : List Verdict) (v : Verdict) → slice_get (vs ++ v ∷ []) (length vs) ≡ Some v
get_new [] v = refl
get_new (x ∷ vs) v = get_new vs v

pub get_none : (vs : List Verdict) (w : ℕ) → slice_get vs w ≡ None → length vs ≤ w
get_none [] w e = omega arith
get_none (x ∷ vs) zero e = absurd (cc)
get_none (x ∷ vs) (suc w) e = let h : length vs ≤ w = get_none vs w e in omega arith

-- why a walk ends
record Through (pass : Option Pass) (steps total : ℕ) (vs : List Verdict) : Type 0 where
  by : Pass
  base : ℕ
  is : pass ≡ Some by
  there : slice_get vs by.walk ≡ Some (Ends base)
  sum : total ≡ base - by.step + steps

judged_by_ends : (o : Option Verdict) (p : Pass) (steps total : ℕ) (vs : List Verdict) → slice_get vs p.walk ≡ o → walk_verdict_by steps p o ≡ Ends total
    → Through (Some p) steps total vs
judged_by_ends None p steps total vs at e = absurd (cc)
judged_by_ends (Some Endless) p steps total vs at e = absurd (cc)
judged_by_ends (Some (Ends base)) p steps total vs at e = record { by = p; base = base; is = refl; there = at; sum = cc }

judged_ends : (c : Bool) (pass : Option Pass) (steps total : ℕ) (vs : List Verdict) → walk_verdict c pass steps vs ≡ Ends total
    → ((c ≡ true) × (total ≡ steps)) ⊎ Through pass steps total vs
judged_ends true pass steps total vs e = inl (refl, cc)
judged_ends false None steps total vs e = absurd (cc)
judged_ends false (Some p) steps total vs e = inr (judged_by_ends (slice_get vs p.walk) p steps total vs refl e)

-- why a walk does not end
pub record Never (pass : Option Pass) (vs : List Verdict) : Type 0 where
  pub by : Pass
  pub is : pass ≡ Some by
  pub there : (slice_get vs by.walk ≡ None) ⊎ (slice_get vs by.walk ≡ Some Endless)

judged_by_never : (o : Option Verdict) (p : Pass) (steps : ℕ) (vs : List Verdict) → slice_get vs p.walk ≡ o → walk_verdict_by steps p o ≡ Endless
    → Never (Some p) vs
judged_by_never None p steps vs at e = record { by = p; is = refl; there = inl at }
judged_by_never (Some Endless) p steps vs at e = record { by = p; is = refl; there = inr at }
judged_by_never (Some (Ends base)) p steps vs at e = absurd (cc)

pub judged_never : (c : Bool) (pass : Option Pass) (steps : ℕ) (vs : List Verdict) → (not c && not (is_some pass)) ≡ false
    → walk_verdict c pass steps vs ≡ Endless
    → Never pass vs
judged_never true pass steps vs stop e = absurd (cc)
judged_never false None steps vs stop e = absurd (cc)
judged_never false (Some p) steps vs stop e = judged_by_never (slice_get vs p.walk) p steps vs refl e

pub length_trail : (next : List ℕ) (n q : ℕ) → length (trail next n q) ≡ n
length_trail next zero q = refl
length_trail next (suc n) q = ap suc (length_trail next n (slice_index next q))

pub closed_is : (next : List ℕ) (walk end steps : ℕ) (pass : Option Pass) (p : Pass) → pass ≡ Some p → p.walk ≡ walk
    → round_of_walk next walk end steps pass ≡ trail next (steps - p.step) end
closed_is next walk end steps pass p is own = ap (round_of_walk next walk end steps) is
    ∙ ap (λ b. cond b (trail next (steps - p.step) end) []) (eq-eqb p.walk walk own)

-- a state passed on the way to an end from which a cut comes
reach_new : (next : List ℕ) (cut : List Bool) (start end steps step q m : ℕ) → end ≡ state_after_walk next steps start
    → q ≡ state_after_walk next step start → step < steps
    → walk_reaches_cut next cut m end ≡ true → walk_reaches_cut next cut (steps - step + m) q ≡ true
reach_new next cut start end steps step q m ends at h r =
    let way : state_after_walk next (steps - step) q ≡ end = ap (state_after_walk next (steps - step)) at ∙ walked_add next step (steps - step) start
    ∙ walked_at next (step + (steps - step)) steps start (omega arith) ∙ sym ends in
    reaches_through next cut (steps - step) m q (ap (walk_reaches_cut next cut m) way ∙ r)

-- the pass at the end of a walk, where its walk has a verdict
pub end_known : (next : List ℕ) (cut : List Bool) (start end steps : ℕ) (before after : List (Option Pass)) (vs : List Verdict) (p : Pass) (v : Verdict)
    → IsTargetWalk next cut start (length vs) before after end steps
    → pass_at after end ≡ Some p → slice_get vs p.walk ≡ Some v → pass_at before end ≡ Some p
end_known next cut start end steps before after vs p v w is there =
    ⊎_elim (λ old. old) (λ new. let past : slice_get vs p.walk ≡ None = slice_get_past vs p.walk (omega (arith, new.0)) in absurd (cc)) (w.adds end p is)

cut_sum : (steps step total : ℕ) → total ≡ steps → steps - step + 0 ≡ total - step
cut_sum steps step total e = omega arith

through_sum : (steps step total base : ℕ) → step < steps → total ≡ base + steps → steps - step + base ≡ total - step
through_sum steps step total base h e = omega arith

fill_sum : (n m : ℕ) → n ≤ m → m - n + n ≡ m
fill_sum n m h = omega arith

pub settle_ends : (next : List ℕ) (cut : List Bool) (start end steps : ℕ) (before after : List (Option Pass)) (vs : List Verdict) (found : List ℕ) (v : Verdict)
    → AreSettledWalks next cut before vs found → IsTargetWalk next cut start (length vs) before after end steps
    → v ≡ walk_verdict (is_cut cut end) (pass_at after end) steps vs
    → (q : ℕ) (p : Pass) (total : ℕ) → pass_at after q ≡ Some p → slice_get (vs ++ v ∷ []) p.walk ≡ Some (Ends total)
    → (p.step ≤ total) × (total ≤ pass_count after) × (walk_reaches_cut next cut (total - p.step) q ≡ true)
settle_ends next cut start end steps before after vs found v s w j q p total e g =
    ⊎_elim
    (λ old.
    let k = s.known q p old in
    let f = s.ends q p total old (sym (get_old vs v p.walk k) ∙ g) in
    (f.0, omega (arith, f.1, w.count), f.2))
    (λ new.
    let last : Some v ≡ Some (Ends total) = sym (get_new vs v) ∙ ap (slice_get (vs ++ v ∷ [])) (sym new.0) ∙ g in
    let verdict : v ≡ Ends total = cc in
    ⊎_elim
    (λ at_cut.
    let r = reach_new next cut start end steps p.step q 0 w.leads new.2 new.1 at_cut.0 in (
      omega (arith, at_cut.1, new.1),
      omega (arith, at_cut.1, w.count),
      subst (λ n. walk_reaches_cut next cut n q ≡ true) (cut_sum steps p.step total at_cut.1) r,
    ))
    (λ t.
    let f = s.ends end t.by t.base (end_known next cut start end steps before after vs t.by (Ends t.base) w t.is t.there) t.there in
    let r = reach_new next cut start end steps p.step q (t.base - t.by.step) w.leads new.2 new.1 f.2 in (
      omega (arith, t.sum, new.1),
      omega (arith, t.sum, f.1, w.count),
      subst (λ n. walk_reaches_cut next cut n q ≡ true) (through_sum steps p.step total (t.base - t.by.step) new.1 t.sum) r,
    ))
    (judged_ends (is_cut cut end) (pass_at after end) steps total vs (sym j ∙ verdict)))
    (w.adds q p e)

pub settle_told : (next : List ℕ) (cut : List Bool) (start end steps : ℕ) (before after : List (Option Pass)) (vs : List Verdict) (found : List ℕ) (v : Verdict)
    → AreSettledWalks next cut before vs found → IsTargetWalk next cut start (length vs) before after end steps → may_pass cut after end ≡ false
    → v ≡ walk_verdict (is_cut cut end) (pass_at after end) steps vs
    → (k : ℕ) → slice_get (vs ++ v ∷ []) k ≡ Some Endless → 0 < length (found ++ round_of_walk next (length vs) end steps (pass_at after end))
settle_told next cut start end steps before after vs found v s w stop j k g =
    let more = round_of_walk next (length vs) end steps (pass_at after end) in
    let whole : length (found ++ more) ≡ length found + length more = length-append found more in
    let inside : k < length (vs ++ v ∷ []) = slice_get_within (vs ++ v ∷ []) k Endless g in
    let long : length (vs ++ v ∷ []) ≡ length vs + 1 = length-append vs (v ∷ []) in
    ⊎_elim
    (λ at.
    let last : Some v ≡ Some Endless = sym (get_new vs v) ∙ ap (slice_get (vs ++ v ∷ [])) (sym at) ∙ g in
    let verdict : v ≡ Endless = cc in
    let n = judged_never (is_cut cut end) (pass_at after end) steps vs stop (sym j ∙ verdict) in
    ⊎_elim
    (λ none.
    ⊎_elim
    (λ old. let h = s.known end n.by old in let past = get_none vs n.by.walk none in absurd (omega arith))
    (λ new.
    let made : length more ≡ steps - n.by.step = ap length (closed_is next (length vs) end steps (pass_at after end) n.by n.is new.0)
    ∙ length_trail next (steps - n.by.step) end in
    omega (arith, new.1))
    (w.adds end n.by n.is))
    (λ never. let h = s.told n.by.walk never in omega arith)
    n.there)
    (λ apart. let h = s.told k (sym (get_old vs v k (omega arith)) ∙ g) in omega arith)
    (cases_eq k (length vs))

pub and_both : {a b : Bool} → a ≡ true → b ≡ true → (a && b) ≡ true
and_both {a} {b} e f = ap₂ (λ (x y : Bool). x && y) e f

cond_inside : (n : ℕ) (b : Bool) (qs : List ℕ) → list_all (λ k. nat_lt k n) qs ≡ true → list_all (λ k. nat_lt k n) (cond b qs []) ≡ true
cond_inside n true qs e = e
cond_inside n false qs e = refl

trail_inside : (next : List ℕ) (cut : List Bool) (n q : ℕ) → IsTargetList next cut → q < length next
    → list_all (λ k. nat_lt k (length next)) (trail next n q) ≡ true
trail_inside next cut zero q g h = refl
trail_inside next cut (suc n) q g h = and_both (grind (arith, nat_tests)) (trail_inside next cut n (slice_index next q) g (g.leads q h))

pub closed_inside : (next : List ℕ) (cut : List Bool) (walk end steps : ℕ) (pass : Option Pass) → IsTargetList next cut → end < length next
    → list_all (λ k. nat_lt k (length next)) (round_of_walk next walk end steps pass) ≡ true
closed_inside next cut walk end steps None g h = refl
closed_inside next cut walk end steps (Some p) g h = cond_inside (length next) (p.walk == walk) (trail next (steps - p.step) end)
    (trail_inside next cut (steps - p.step) end g h)

-- what is asked of the verdict before
pub judge_safe : (next : List ℕ) (cut : List Bool) (start end steps : ℕ) (before after : List (Option Pass)) (vs : List Verdict) (found : List ℕ)
    → AreSettledWalks next cut before vs found → IsTargetWalk next cut start (length vs) before after end steps → length after < 2 ^ 63
    → (p : Pass) (total : ℕ) → pass_at after end ≡ Some p → slice_get vs p.walk ≡ Some (Ends total) → (p.step ≤ total) × (total + steps < 2 ^ 63)
judge_safe next cut start end steps before after vs found s w small p total is there =
    let f = s.ends end p total (end_known next cut start end steps before after vs p (Ends total) w is there) there in
    let most : pass_count after ≤ length after = count_by-le-length (λ x. is_some x) after in
    (f.0, omega (arith, f.1, w.count))

pub some_pass : (o : Option Pass) → is_some o ≡ true → (p : Pass) × (o ≡ Some p)
some_pass None e = absurd (cc)
some_pass (Some p) e = (p, refl)

pub verdict_cases : (vs : List Verdict) (w : ℕ) (o : Option Verdict) → slice_get vs w ≡ o → w < length vs
    → (slice_get vs w ≡ Some Endless) ⊎ ((total : ℕ) × (slice_get vs w ≡ Some (Ends total)))
verdict_cases vs w None e h = let past = get_none vs w e in absurd (omega arith)
verdict_cases vs w (Some Endless) e h = inl e
verdict_cases vs w (Some (Ends total)) e h = inr (total, e)

-- where no state leads back to itself, a cut comes
pub all_reach :
    (next : List ℕ) (cut : List Bool) (passes : List (Option Pass)) (vs : List Verdict) (found : List ℕ) → AreSettledWalks next cut passes vs found
    → length found ≡ 0
    → (q : ℕ) → (is_cut cut q ≡ true) ⊎ (is_some (pass_at passes q) ≡ true) → walk_reaches_cut next cut (length next) q ≡ true
all_reach next cut passes vs found s none q seen =
    ⊎_elim (reaches_cut next cut (length next) q)
    (λ some.
    let p = some_pass (pass_at passes q) some in
    ⊎_elim (λ never. let h = s.told p.0.walk never in absurd (omega arith))
    (λ t.
    let f = s.ends q p.0 t.0 p.1 t.1 in
    let most : pass_count passes ≤ length passes = count_by-le-length (λ x. is_some x) passes in
    let n = t.0 - p.0.step in
    subst (λ k. walk_reaches_cut next cut k q ≡ true) (fill_sum n (length next) (omega (arith, f.1, s.same)))
    (reaches_longer next cut (length next - n) n q f.2))
    (verdict_cases vs p.0.walk (slice_get vs p.0.walk) refl (s.known q p.0 p.1)))
    seen

open_both : (c : Bool) (o : Option Pass) → (not c && not (is_some o)) ≡ true → (c ≡ false) × (o ≡ None)
open_both true o e = absurd (cc)
open_both false None e = (refl, refl)
open_both false (Some p) e = absurd (cc)

open_cases : (c o : Bool) → (not c && not o) ≡ false → (c ≡ true) ⊎ (o ≡ true)
open_cases true o e = inl refl
open_cases false true e = inr refl
open_cases false false e = absurd (cc)

pub open_is : (cut : List Bool) (passes : List (Option Pass)) (q : ℕ) → may_pass cut passes q ≡ true → (is_cut cut q ≡ false) × (pass_at passes q ≡ None)
open_is cut passes q e = open_both (is_cut cut q) (pass_at passes q) e

-- a walk's start was seen
pub start_seen : (next : List ℕ) (cut : List Bool) (start walk end steps : ℕ) (before after : List (Option Pass))
    → IsTargetWalk next cut start walk before after end steps → may_pass cut after end ≡ false
    → (is_cut cut start ≡ true) ⊎ (is_some (pass_at after start) ≡ true)
start_seen next cut start walk end zero before after w stop =
    open_cases (is_cut cut start) (is_some (pass_at after start)) (ap (may_pass cut after) (sym w.leads) ∙ stop)
start_seen next cut start walk end (suc steps) before after w stop = inr (ap is_some (w.path 0 (omega arith)))

pub still_seen : (next : List ℕ) (cut : List Bool) (start walk end steps : ℕ) (before after : List (Option Pass))
    → IsTargetWalk next cut start walk before after end steps
    → (q : ℕ) → is_some (pass_at before q) ≡ true → is_some (pass_at after q) ≡ true
still_seen next cut start walk end steps before after w q some = let p = some_pass (pass_at before q) some in ap is_some (w.keeps q p.0 p.1)

-- ---- before the first walk, and after one more

pub none_more : (xs : List (Option Pass)) (q : ℕ) → ((k : ℕ) → pass_at xs k ≡ None) → pass_at (xs ++ None ∷ []) q ≡ None
none_more [] zero none = refl
none_more [] (suc q) none = refl
none_more (x ∷ xs) zero none = none zero
none_more (x ∷ xs) (suc q) none = none_more xs q (λ k. none (suc k))

no_pass : {R : Type 0} (o : Option Pass) (p : Pass) → o ≡ None → o ≡ Some p → R
no_pass None p n e = absurd (cc e)
no_pass (Some x) p n e = absurd (cc n)

-- where nothing was passed, all walks so far are settled
none_settled : (next : List ℕ) (cut : List Bool) (passes : List (Option Pass)) → length passes ≡ length next → ((q : ℕ) → pass_at passes q ≡ None)
    → AreSettledWalks next cut passes [] []
none_settled next cut passes same none = record {
  same = same;
  known = λ q p e. no_pass (pass_at passes q) p (none q) e;
  ends = λ q p total e g. no_pass (pass_at passes q) p (none q) e;
  told = λ w g. absurd (cc g);
  inside = refl;
  uncut = λ q p e. no_pass (pass_at passes q) p (none q) e;
  goes = λ q p e g. no_pass (pass_at passes q) p (none q) e;
  rounds = λ k q g. absurd (cc g);
  all = λ q p e g r. no_pass (pass_at passes q) p (none q) e;
}

pub none_settled_in : (next : List ℕ) (cut : List Bool) (passes : List (Option Pass)) (vs : List Verdict) (found : List ℕ)
    → length passes ≡ length next → ((q : ℕ) → pass_at passes q ≡ None) → vs ≡ [] → found ≡ [] → AreSettledWalks next cut passes vs found
none_settled_in next cut passes vs found same none e f =
    subst (λ l. AreSettledWalks next cut passes l found) (sym e)
    (subst (λ l. AreSettledWalks next cut passes [] l) (sym f) (none_settled next cut passes same none))

-- each state up to one was seen
pub seen_more : (cut : List Bool) (before after : List (Option Pass)) (start : ℕ)
    → ((q : ℕ) → q < start → (is_cut cut q ≡ true) ⊎ (is_some (pass_at before q) ≡ true))
    → ((q : ℕ) → is_some (pass_at before q) ≡ true → is_some (pass_at after q) ≡ true)
    → (is_cut cut start ≡ true) ⊎ (is_some (pass_at after start) ≡ true)
    → (q : ℕ) → q < start + 1 → (is_cut cut q ≡ true) ⊎ (is_some (pass_at after q) ≡ true)
seen_more cut before after start seen keeps last q h =
    ⊎_elim (λ at. subst (λ k. (is_cut cut k ≡ true) ⊎ (is_some (pass_at after k) ≡ true)) (sym at) last)
    (λ apart. ⊎_elim (λ c. inl c) (λ s. inr (keeps q s)) (seen q (omega arith))) (cases_eq q start)

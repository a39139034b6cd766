-- Rounds: states that lead back to themselves and meet no cut.
use Rattle.std.proofs.Common.{◌≡◌, ℕ, zero, suc, ◌+◌, ◌-◌, ◌<◌, Bool, true, false, List, [], ◌∷◌, ◌++◌, length, refl, sym, ◌∙◌, ap, ap₂, subst, inl, inr}
use Rattle.std.proofs.Common.{⊎_elim, arith, length-append}
use Rattle.std.specs.Prelude.{◌⊎◌, ◌==◌, cond, Option, Some, None, slice_index, nat_lt}
use Rattle.std.specs.Option.{is_some}
use Rattle.std.specs.List.{slice_get}
use Rattle.std.proofs.lemmas.Bool.{cases_eq, eqb-true}
use Rattle.std.proofs.lemmas.List.Folds.{list_all-append}
use Rattle.std.proofs.lemmas.Option.{slice_get_past, slice_get_within}
use Rattle.fs_model.proofs.Booleans.{or_other}
use Rattle.fs_model.proofs.Lists.{slice_get-front}
use Rattle.fs_rules.specs.declared.uncut_cycles.Pass.{Pass}
use Rattle.fs_rules.specs.declared.uncut_cycles.Verdict.{Verdict}
use Rattle.fs_rules.specs.declared.uncut_cycles.Verdict.TheVariants.{Endless}
use Rattle.fs_rules.specs.TargetWalks.{state_after_walk, is_cut, walk_reaches_cut, IsRound, IsTargetList, pass_at, may_pass, IsTargetWalk, NeverEnds}
use Rattle.fs_rules.specs.TargetWalks.{AreSettledWalks, walk_verdict}
use Rattle.fs_rules.specs.TargetWalks.{trail, round_of_walk}
use Rattle.fs_rules.proofs.Walks.{walked_last, walked_at, walked_add, get_old, get_new, get_none, judged_never, closed_is, end_known, settle_ends, settle_told}
use Rattle.fs_rules.proofs.Walks.{closed_inside, and_both, some_pass, verdict_cases}

-- ---- items of lists

pub get_back : {A : Type 0} (xs ys : List A) (k : ℕ) (x : A) → slice_get ys k ≡ Some x → (j : ℕ) × (slice_get (xs ++ ys) j ≡ Some x)
get_back [] ys k x e = (k, e)
get_back (z ∷ xs) ys k x e = let r = get_back xs ys k x e in (suc r.0, r.1)

pub get_either : {A : Type 0} (xs ys : List A) (k : ℕ) (x : A) → slice_get (xs ++ ys) k ≡ Some x
    → ((j : ℕ) × (slice_get xs j ≡ Some x)) ⊎ ((j : ℕ) × (slice_get ys j ≡ Some x))
get_either [] ys k x e = inr (k, e)
get_either (z ∷ xs) ys zero x e = inl (zero, e)
get_either (z ∷ xs) ys (suc k) x e = ⊎_elim (λ l. inl (suc l.0, l.1)) (λ r. inr r) (get_either xs ys k x e)

trail_at : (next : List ℕ) (n i q : ℕ) → i < n → slice_get (trail next n q) i ≡ Some (state_after_walk next i q)
trail_at next zero i q h = absurd (omega arith)
trail_at next (suc n) zero q h = refl
trail_at next (suc n) (suc i) q h = trail_at next n i (slice_index next q) (omega arith)

trail_in : (next : List ℕ) (n k q x : ℕ) → slice_get (trail next n q) k ≡ Some x → (k < n) × (x ≡ state_after_walk next k q)
trail_in next zero k q x e = absurd (cc)
trail_in next (suc n) zero q x e = (omega arith, cc)
trail_in next (suc n) (suc k) q x e = let r = trail_in next n k (slice_index next q) x e in (omega (arith, r.0), r.1)

-- ---- steps on a round

step_back : (next : List ℕ) (q n : ℕ) → 0 < n → state_after_walk next n q ≡ q → (e f : ℕ) → f ≡ slice_index next e → (u : ℕ) × (state_after_walk next u e ≡ q)
    → (g : ℕ) → g ≡ f
    → (u : ℕ) × (state_after_walk next u g ≡ q)
step_back next q zero some back e f is r g at = absurd (omega arith)
step_back next q (suc n) some back e f is (zero, r) g at = (n, ap (state_after_walk next n) (at ∙ is ∙ ap (slice_index next) r) ∙ back)
step_back next q (suc n) some back e f is (suc u, r) g at = (u, ap (state_after_walk next u) (at ∙ is) ∙ r)

-- what leads back is led back to
pub back_from : (next : List ℕ) (q length_ : ℕ) → 0 < length_ → state_after_walk next length_ q ≡ q → (t : ℕ)
    → (u : ℕ) × (state_after_walk next u (state_after_walk next t q) ≡ q)
back_from next q n some back zero = (zero, refl)
back_from next q n some back (suc t) = step_back next q n some back (state_after_walk next t q)
    (slice_index next (state_after_walk next t q)) refl (back_from next q n some back t)
    (state_after_walk next (suc t) q) (walked_last next t q)

around_step : (next : List ℕ) (q n : ℕ) → state_after_walk next n q ≡ q → (t i : ℕ) → i < n → state_after_walk next t q ≡ state_after_walk next i q → 0 < n
    → (k : ℕ) × ((k < n) × (state_after_walk next (suc t) q ≡ state_after_walk next k q))
around_step next q n back t i h e some =
    let on : state_after_walk next (suc t) q ≡ state_after_walk next (suc i) q = walked_last next t q ∙ ap (slice_index next) e ∙ sym (walked_last next i q) in
    ⊎_elim (λ at. (zero, (some, on ∙ walked_at next (suc i) n q at ∙ back))) (λ apart. (suc i, (omega arith, on))) (cases_eq (suc i) n)

-- where a round of some steps leads: each place is one of the first
pub around : (next : List ℕ) (q n : ℕ) → 0 < n → state_after_walk next n q ≡ q → (t : ℕ)
    → (i : ℕ) × ((i < n) × (state_after_walk next t q ≡ state_after_walk next i q))
around next q n some back zero = (zero, (some, refl))
around next q n some back (suc t) = let r = around next q n some back t in around_step next q n back t r.0 r.1.0 r.1.1 some

-- ---- a walk that closes a round

-- the round at the end of a walk that ended at a state of its own
record Closes (next : List ℕ) (cut : List Bool) (start end steps walk : ℕ) (after : List (Option Pass)) (p : Pass) : Type 0 where
  own : p.walk ≡ walk
  step : p.step < steps
  at : end ≡ state_after_walk next p.step start
  back : state_after_walk next (steps - p.step) end ≡ end

closes : (next : List ℕ) (cut : List Bool) (start end steps : ℕ) (before after : List (Option Pass)) (vs : List Verdict) (found : List ℕ) (p : Pass)
    → AreSettledWalks next cut before vs found → IsTargetWalk next cut start (length vs) before after end steps
    → pass_at after end ≡ Some p → slice_get vs p.walk ≡ None → Closes next cut start end steps (length vs) after p
closes next cut start end steps before after vs found p s w is none =
    ⊎_elim
    (λ old. let h = s.known end p old in let past = get_none vs p.walk none in absurd (omega arith))
    (λ new. record {
      own = new.0;
      step = new.1;
      at = new.2;
      back = ap (state_after_walk next (steps - p.step)) new.2 ∙ walked_add next p.step (steps - p.step) start
          ∙ walked_at next (p.step + (steps - p.step)) steps start (omega (arith, new.1)) ∙ sym w.leads;
    })
    (w.adds end p is)

-- the places of such a round are those that the walk passed
on_path : (next : List ℕ) (cut : List Bool) (start end steps walk : ℕ) (before after : List (Option Pass)) (p : Pass)
    → IsTargetWalk next cut start walk before after end steps → Closes next cut start end steps walk after p
    → (i : ℕ) → i < steps - p.step → pass_at after (state_after_walk next i end) ≡ Some (record { walk = walk; step = p.step + i })
on_path next cut start end steps walk before after p w c i h =
    ap (pass_at after) (ap (state_after_walk next i) c.at ∙ walked_add next p.step i start) ∙ w.path (p.step + i) (omega arith)

settled_uncut : (next : List ℕ) (cut : List Bool) (start end steps : ℕ) (before after : List (Option Pass)) (vs : List Verdict) (found : List ℕ)
    → AreSettledWalks next cut before vs found → IsTargetWalk next cut start (length vs) before after end steps
    → (q : ℕ) (p : Pass) → pass_at after q ≡ Some p → is_cut cut q ≡ false
settled_uncut next cut start end steps before after vs found s w q p e = ⊎_elim (λ old. s.uncut q p old) (λ new. new.3) (w.adds q p e)

-- each state of a closed round leads back to itself
closed_round : (next : List ℕ) (cut : List Bool) (start end steps : ℕ) (before after : List (Option Pass)) (vs : List Verdict) (found : List ℕ) (p : Pass)
    → AreSettledWalks next cut before vs found
    → IsTargetWalk next cut start (length vs) before after end steps → Closes next cut start end steps (length vs) after p → (j : ℕ)
    → IsRound next cut (state_after_walk next j end)
closed_round next cut start end steps before after vs found p s w c j =
    let n = steps - p.step in
    let some : 0 < n = let h = c.step in omega arith in
    record {
      steps = n;
      some = some;
      back = walked_add next j n end ∙ walked_at next (j + n) (n + j) end (omega arith) ∙ sym (walked_add next n j end) ∙ ap (state_after_walk next j) c.back;
      uncut = λ m.
          let r = around next end n some c.back (j + m) in
          ap (is_cut cut) (walked_add next j m end ∙ r.1.1)
          ∙ settled_uncut next cut start end steps before after vs found s w (state_after_walk next r.0 end) (record { walk = length vs; step = p.step + r.0 })
          (on_path next cut start end steps (length vs) before after p w c r.0 r.1.0);
    }

closed_if : (next : List ℕ) (own : Bool) (walk end steps k q : ℕ) (p : Pass) → (p.walk == walk) ≡ own
    → slice_get (cond own (trail next (steps - p.step) end) []) k ≡ Some q
    → (Some p ≡ Some p) × (p.walk ≡ walk) × (slice_get (trail next (steps - p.step) end) k ≡ Some q)
closed_if next true walk end steps k q p e g = (refl, eqb-true p.walk walk e, g)
closed_if next false walk end steps k q p e g = absurd (cc)

-- the pass at the end of a walk that closed a round
closed_by : (next : List ℕ) (walk end steps k q : ℕ) (pass : Option Pass) → slice_get (round_of_walk next walk end steps pass) k ≡ Some q
    → (p : Pass) × ((pass ≡ Some p) × (p.walk ≡ walk) × (slice_get (trail next (steps - p.step) end) k ≡ Some q))
closed_by next walk end steps k q None e = absurd (cc)
closed_by next walk end steps k q (Some p) e = (p, closed_if next (p.walk == walk) walk end steps k q p refl e)

settle_rounds : (next : List ℕ) (cut : List Bool) (start end steps : ℕ) (before after : List (Option Pass)) (vs : List Verdict) (found : List ℕ)
    → AreSettledWalks next cut before vs found → IsTargetWalk next cut start (length vs) before after end steps
    → (k q : ℕ) → slice_get (found ++ round_of_walk next (length vs) end steps (pass_at after end)) k ≡ Some q → IsRound next cut q
settle_rounds next cut start end steps before after vs found s w k q e =
    ⊎_elim (λ old. s.rounds old.0 q old.1)
    (λ new.
    let b = closed_by next (length vs) end steps new.0 q (pass_at after end) new.1 in
    let c = closes next cut start end steps before after vs found b.0 s w b.1.0 (slice_get_past vs b.0.walk (omega (arith, b.1.1))) in
    let t = trail_in next (steps - b.0.step) new.0 end q b.1.2 in
    subst (IsRound next cut) (sym t.1) (closed_round next cut start end steps before after vs found b.0 s w c new.0))
    (get_either found (round_of_walk next (length vs) end steps (pass_at after end)) k q e)

-- ---- walks without end

settle_goes : (next : List ℕ) (cut : List Bool) (start end steps : ℕ) (before after : List (Option Pass)) (vs : List Verdict) (found : List ℕ) (v : Verdict)
    → AreSettledWalks next cut before vs found → IsTargetWalk next cut start (length vs) before after end steps
    → may_pass cut after end ≡ false → v ≡ walk_verdict (is_cut cut end) (pass_at after end) steps vs → (q : ℕ) (p : Pass) → pass_at after q ≡ Some p
    → slice_get (vs ++ v ∷ []) p.walk ≡ Some Endless → NeverEnds after (vs ++ v ∷ []) (slice_index next q)
settle_goes next cut start end steps before after vs found v s w stop j q p e g =
    ⊎_elim
    (λ old.
    let k = s.known q p old in
    let n = s.goes q p old (sym (get_old vs v p.walk k) ∙ g) in
    let low = s.known (slice_index next q) n.by n.passes_it in
    record { by = n.by; passes_it = w.keeps (slice_index next q) n.by n.passes_it; endless = get_old vs v n.by.walk low ∙ n.endless })
    (λ new.
    let last : Some v ≡ Some Endless = sym (get_new vs v) ∙ ap (slice_get (vs ++ v ∷ [])) (sym new.0) ∙ g in
    let verdict : v ≡ Endless = cc in
    let to : slice_index next q ≡ state_after_walk next (suc p.step) start = ap (slice_index next) new.2 ∙ sym (walked_last next p.step start) in
    ⊎_elim
    (λ at.
    let n = judged_never (is_cut cut end) (pass_at after end) steps vs stop (sym j ∙ verdict) in
    let here : slice_index next q ≡ end = to ∙ walked_at next (suc p.step) steps start at ∙ sym w.leads in
    let is : pass_at after (slice_index next q) ≡ Some n.by = ap (pass_at after) here ∙ n.is in
    ⊎_elim
    (λ none. let c = closes next cut start end steps before after vs found n.by s w n.is none in
    record { by = n.by; passes_it = is; endless = ap (slice_get (vs ++ v ∷ [])) c.own ∙ get_new vs v ∙ last })
    (λ never. record { by = n.by; passes_it = is; endless = get_old vs v n.by.walk (slice_get_within vs n.by.walk Endless never) ∙ never })
    n.there)
    (λ apart. record {
      by = record { walk = length vs; step = suc p.step };
      passes_it = ap (pass_at after) to ∙ w.path (suc p.step) (omega (arith, new.1));
      endless = get_new vs v ∙ last;
    })
    (cases_eq (suc p.step) steps))
    (w.adds q p e)

-- from a state without end all states are without end
pub all_go : (next : List ℕ) (cut : List Bool) (passes : List (Option Pass)) (vs : List Verdict) (found : List ℕ) → AreSettledWalks next cut passes vs found
    → (t q : ℕ) → NeverEnds passes vs q → NeverEnds passes vs (state_after_walk next t q)
all_go next cut passes vs found s zero q n = n
all_go next cut passes vs found s (suc t) q n = all_go next cut passes vs found s t (slice_index next q) (s.goes q n.by n.passes_it n.endless)

settle_found : (next : List ℕ) (cut : List Bool) (start end steps : ℕ) (before after : List (Option Pass)) (vs : List Verdict) (found : List ℕ) (v : Verdict)
    → AreSettledWalks next cut before vs found → IsTargetWalk next cut start (length vs) before after end steps
    → may_pass cut after end ≡ false → v ≡ walk_verdict (is_cut cut end) (pass_at after end) steps vs → (q : ℕ) (p : Pass) → pass_at after q ≡ Some p
    → slice_get (vs ++ v ∷ []) p.walk ≡ Some Endless → IsRound next cut q
    → (k : ℕ) × (slice_get (found ++ round_of_walk next (length vs) end steps (pass_at after end)) k ≡ Some q)
settle_found next cut start end steps before after vs found v s w stop j q p e g r =
    let more = round_of_walk next (length vs) end steps (pass_at after end) in
    ⊎_elim
    (λ old.
    let k = s.all q p old (sym (get_old vs v p.walk (s.known q p old)) ∙ g) r in
    (k.0, slice_get-front found more k.0 q k.1))
    (λ new.
    let last : Some v ≡ Some Endless = sym (get_new vs v) ∙ ap (slice_get (vs ++ v ∷ [])) (sym new.0) ∙ g in
    let verdict : v ≡ Endless = cc in
    let n = judged_never (is_cut cut end) (pass_at after end) steps vs stop (sym j ∙ verdict) in
    let ahead : end ≡ state_after_walk next (steps - p.step) q = w.leads ∙ walked_at next steps (p.step + (steps - p.step)) start (omega (arith, new.1))
    ∙ sym (walked_add next p.step (steps - p.step) start) ∙ ap (state_after_walk next (steps - p.step)) (sym new.2) in
    let b = back_from next q r.steps r.some r.back (steps - p.step) in
    let back : state_after_walk next b.0 end ≡ q = ap (state_after_walk next b.0) ahead ∙ b.1 in
    ⊎_elim
    (λ none.
    let c = closes next cut start end steps before after vs found n.by s w n.is none in
    let size = steps - n.by.step in
    let some : 0 < size = let h = c.step in omega arith in
    let a = around next end size some c.back b.0 in
    let t : slice_get more a.0 ≡ Some q = ap (λ l. slice_get l a.0) (closed_is next (length vs) end steps (pass_at after end) n.by n.is c.own)
    ∙ trail_at next size a.0 end a.1.0 ∙ ap Some (sym a.1.1 ∙ back) in
    get_back found more a.0 q t)
    (λ never.
    let there = end_known next cut start end steps before after vs n.by Endless w n.is never in
    let m = all_go next cut before vs found s b.0 end (record { by = n.by; passes_it = there; endless = never }) in
    let old : pass_at before q ≡ Some m.by = ap (pass_at before) (sym back) ∙ m.passes_it in
    let low = s.known q m.by old in
    let now : pass_at after q ≡ Some m.by = w.keeps q m.by old in
    let same : m.by ≡ p = cc in
    let walk : m.by.walk ≡ length vs = ap (λ x. x.walk) same ∙ new.0 in
    absurd (omega arith))
    n.there)
    (w.adds q p e)

-- ---- the whole

pub settle : (next : List ℕ) (cut : List Bool) (start end steps : ℕ) (before after : List (Option Pass)) (vs : List Verdict) (found : List ℕ) (v : Verdict)
    → IsTargetList next cut → AreSettledWalks next cut before vs found → IsTargetWalk next cut start (length vs) before after end steps
    → may_pass cut after end ≡ false → v ≡ walk_verdict (is_cut cut end) (pass_at after end) steps vs
    → AreSettledWalks next cut after (vs ++ v ∷ []) (found ++ round_of_walk next (length vs) end steps (pass_at after end))
settle next cut start end steps before after vs found v g s w stop j =
    let long : length (vs ++ v ∷ []) ≡ length vs + 1 = length-append vs (v ∷ []) in
    record {
      same = w.same ∙ s.same;
      known = λ q p e. ⊎_elim (λ old. let h = s.known q p old in omega arith) (λ new. omega (arith, new.0)) (w.adds q p e);
      ends = settle_ends next cut start end steps before after vs found v s w j;
      told = settle_told next cut start end steps before after vs found v s w stop j;
      uncut = λ q p e. ⊎_elim (λ old. s.uncut q p old) (λ new. new.3) (w.adds q p e);
      goes = settle_goes next cut start end steps before after vs found v s w stop j;
      rounds = settle_rounds next cut start end steps before after vs found s w;
      all = settle_found next cut start end steps before after vs found v s w stop j;
      inside = list_all-append (λ q. nat_lt q (length next)) found (round_of_walk next (length vs) end steps (pass_at after end))
          ∙ and_both s.inside (closed_inside next cut (length vs) end steps (pass_at after end) g w.within);
    }

pub settle_all : (next : List ℕ) (cut : List Bool) (start end steps walk : ℕ) (before after : List (Option Pass)) (pass : Option Pass) (vs told : List Verdict)
    (found more : List ℕ) (v : Verdict)
    → walk ≡ length vs → pass ≡ pass_at after end → IsTargetList next cut → AreSettledWalks next cut before vs found
    → IsTargetWalk next cut start walk before after end steps → may_pass cut after end ≡ false → v ≡ walk_verdict (is_cut cut end) pass steps vs
    → told ≡ vs ++ v ∷ [] → more ≡ found ++ round_of_walk next walk end steps pass → AreSettledWalks next cut after told more
settle_all next cut start end steps walk before after pass vs told found more v same at g s w stop j e f =
    let own : IsTargetWalk next cut start (length vs) before after end steps = subst (λ k. IsTargetWalk next cut start k before after end steps) same w in
    let all = settle next cut start end steps before after vs found v g s own stop (j ∙ ap (λ o. walk_verdict (is_cut cut end) o steps vs) at) in
    let f' : more ≡ found ++ round_of_walk next (length vs) end steps (pass_at after end) = f
    ∙ ap₂ (λ (k : ℕ) (o : Option Pass). found ++ round_of_walk next k end steps o) same at in
    subst (λ l. AreSettledWalks next cut after l more) (sym e) (subst (λ l. AreSettledWalks next cut after (vs ++ v ∷ []) l) (sym f') all)

pub not_reached : (next : List ℕ) (cut : List Bool) (n q : ℕ) → walk_reaches_cut next cut n q ≡ true
    → ((k : ℕ) → is_cut cut (state_after_walk next k q) ≡ false) → ⊥
not_reached next cut zero q e f = let g : is_cut cut q ≡ false = f zero in cc
not_reached next cut (suc n) q e f = not_reached next cut n (slice_index next q)
    (or_other (is_cut cut q) (walk_reaches_cut next cut n (slice_index next q)) (f zero) e) (λ k. f (suc k))

-- where all states were seen, each that leads back to itself was found
pub all_found :
    (next : List ℕ) (cut : List Bool) (passes : List (Option Pass)) (vs : List Verdict) (found : List ℕ) → AreSettledWalks next cut passes vs found
    → (q : ℕ) → (is_cut cut q ≡ true) ⊎ (is_some (pass_at passes q) ≡ true)
    → IsRound next cut q → (k : ℕ) × (slice_get found k ≡ Some q)
all_found next cut passes vs found s q seen r =
    ⊎_elim (λ at_cut. let g : is_cut cut q ≡ false = r.uncut zero in absurd (cc))
    (λ some.
    let p = some_pass (pass_at passes q) some in
    ⊎_elim (λ never. s.all q p.0 p.1 never r)
    (λ t. let f = s.ends q p.0 t.0 p.1 t.1 in absurd (not_reached next cut (t.0 - p.0.step) q f.2 r.uncut))
    (verdict_cases vs p.0.walk (slice_get vs p.0.walk) refl (s.known q p.0 p.1)))
    seen

-- Walks by first targets, over lists of these and of whether each state cuts paths.
use Rattle.std.specs.Prelude.{◌≡◌, ℕ, zero, suc, ◌+◌, ◌-◌, ◌<◌, ◌≤◌, Bool, true, false, ◌||◌, ◌&&◌, not, ◌⊎◌, ◌==◌, cond, List}
use Rattle.std.specs.Prelude.{[], ◌∷◌, length, count_by, Option, Some, None, slice_index, nat_lt}
use Rattle.std.specs.Option.{is_some}
use Rattle.std.specs.List.{slice_index_or, slice_get, list_all}
use Rattle.fs_rules.specs.declared.uncut_cycles.Pass.{Pass}
use Rattle.fs_rules.specs.declared.uncut_cycles.Verdict.{Verdict}
use Rattle.fs_rules.specs.declared.uncut_cycles.Verdict.TheVariants.{Ends, Endless}

-- where n steps lead
abbrev pub state_after_walk : List ℕ → ℕ → ℕ → ℕ
state_after_walk next zero q = q
state_after_walk next (suc n) q = state_after_walk next n (slice_index next q)

-- whether a state cuts paths
abbrev pub is_cut : List Bool → ℕ → Bool
is_cut cut q = slice_index_or cut q false

-- within n steps a cut comes
abbrev pub walk_reaches_cut : List ℕ → List Bool → ℕ → ℕ → Bool
walk_reaches_cut next cut zero q = is_cut cut q
walk_reaches_cut next cut (suc n) q = is_cut cut q || walk_reaches_cut next cut n (slice_index next q)

-- steps lead back and meet no cut
pub record IsRound (next : List ℕ) (cut : List Bool) (q : ℕ) : Type 0 where
  pub steps : ℕ
  pub some : 0 < steps
  pub back : state_after_walk next steps q ≡ q
  pub uncut : (k : ℕ) → is_cut cut (state_after_walk next k q) ≡ false

-- each state leads to a state
pub record IsTargetList (next : List ℕ) (cut : List Bool) : Type 0 where
  pub same : length cut ≡ length next
  pub leads : (q : ℕ) → q < length next → slice_index next q < length next

-- when a state was passed, if it was
abbrev pub pass_at : List (Option Pass) → ℕ → Option Pass
pass_at passes q = slice_index_or passes q None

-- how many states were passed
abbrev pub pass_count : List (Option Pass) → ℕ
pass_count passes = count_by is_some passes

-- whether a walk goes on from a state: it is no cut and was not passed
abbrev pub may_pass : List Bool → List (Option Pass) → ℕ → Bool
may_pass cut passes q = not (is_cut cut q) && not (is_some (pass_at passes q))

-- one walk from a state, which passes states that were not passed before, up to a cut or a state that was
pub record IsTargetWalk (next : List ℕ) (cut : List Bool) (start walk : ℕ) (before after : List (Option Pass))
    (end steps : ℕ) : Type 0 where
  pub same : length after ≡ length before
  pub leads : end ≡ state_after_walk next steps start
  pub within : end < length next
  pub keeps : (q : ℕ) (p : Pass) → pass_at before q ≡ Some p → pass_at after q ≡ Some p
  pub adds : (q : ℕ) (p : Pass) → pass_at after q ≡ Some p → (pass_at before q ≡ Some p)
      ⊎ ((p.walk ≡ walk) × (p.step < steps) × (q ≡ state_after_walk next p.step start) × (is_cut cut q ≡ false))
  pub path : (k : ℕ) → k < steps → pass_at after (state_after_walk next k start) ≡ Some (record { walk = walk; step = k })
  pub count : pass_count after ≡ pass_count before + steps

-- a state that was passed by a walk without end
pub record NeverEnds (passes : List (Option Pass)) (verdicts : List Verdict) (q : ℕ) : Type 0 where
  pub by : Pass
  pub passes_it : pass_at passes q ≡ Some by
  pub endless : slice_get verdicts by.walk ≡ Some Endless

-- where walks ended so far
pub record AreSettledWalks (next : List ℕ) (cut : List Bool) (passes : List (Option Pass)) (verdicts : List Verdict)
    (found : List ℕ) : Type 0 where
  pub same : length passes ≡ length next
  pub known : (q : ℕ) (p : Pass) → pass_at passes q ≡ Some p → p.walk < length verdicts
  pub ends : (q : ℕ) (p : Pass) (total : ℕ) → pass_at passes q ≡ Some p → slice_get verdicts p.walk ≡ Some (Ends total)
      → (p.step ≤ total) × (total ≤ pass_count passes) × (walk_reaches_cut next cut (total - p.step) q ≡ true)
  pub told : (w : ℕ) → slice_get verdicts w ≡ Some Endless → 0 < length found
  pub inside : list_all (λ q. nat_lt q (length next)) found ≡ true
  pub uncut : (q : ℕ) (p : Pass) → pass_at passes q ≡ Some p → is_cut cut q ≡ false
  pub goes : (q : ℕ) (p : Pass) → pass_at passes q ≡ Some p → slice_get verdicts p.walk ≡ Some Endless
      → NeverEnds passes verdicts (slice_index next q)
  pub rounds : (k q : ℕ) → slice_get found k ≡ Some q → IsRound next cut q
  pub all : (q : ℕ) (p : Pass) → pass_at passes q ≡ Some p → slice_get verdicts p.walk ≡ Some Endless → IsRound next cut q
      → (k : ℕ) × (slice_get found k ≡ Some q)

-- what a walk comes to that stops at a state with this verdict on the walk that passed it, or with none yet
abbrev pub walk_verdict_by : ℕ → Pass → Option Verdict → Verdict
walk_verdict_by steps p None = Endless
walk_verdict_by steps p (Some Endless) = Endless
walk_verdict_by steps p (Some (Ends total)) = Ends (total - p.step + steps)

-- what a walk comes to that stops after these steps, at a cut or at a state that was passed
abbrev pub walk_verdict : Bool → Option Pass → ℕ → List Verdict → Verdict
walk_verdict true pass steps verdicts = Ends steps
walk_verdict false None steps verdicts = Endless
walk_verdict false (Some p) steps verdicts = walk_verdict_by steps p (slice_get verdicts p.walk)

-- the states of that many steps, from one on
abbrev pub trail : List ℕ → ℕ → ℕ → List ℕ
trail next zero q = []
trail next (suc n) q = q ∷ trail next n (slice_index next q)

-- the states of the round that a walk closed, if it did
abbrev pub round_of_walk : List ℕ → (walk end steps : ℕ) → Option Pass → List ℕ
round_of_walk next walk end steps None = []
round_of_walk next walk end steps (Some p) = cond (p.walk == walk) (trail next (steps - p.step) end) []

-- Runs go along paths.
use Rattle.std.proofs.Common.{◌≡◌, ℕ, zero, suc, ◌+◌, ◌<◌, ◌==◌, List, [], ◌∷◌, ◌++◌, length, map, ap, sym, refl, ◌∙◌, subst, arith, cond, Bool, true, false}
use Rattle.std.specs.Prelude.{◌≢◌}
use Rattle.std.proofs.lemmas.Bool.Decides.{nat_tests}
use Rattle.fs_model.specs.SoundMachines.{IsSound, is_cutpoint}
use Rattle.fs_model.specs.Machines.{Fsmd}
use Rattle.fs_model.specs.Stores.{Store}
use Rattle.fs_model.specs.Runs.{ReachesReset, FirstReturn}
use Rattle.fs_cut.specs.Paths.{Point, Start, At, Done, Path, IsPath, BranchStep, is_point, state_of, target_of, Passes, steps_by, steps_in, store_after}
use Rattle.fs_cut.specs.Paths.{store_after_steps, takes}
use Rattle.fs_cut.specs.Covers.{path_by}
use Rattle.fs_cut.specs.Cuts.{branch_taken, Remains, TakenFrom, GoesDown}
use Rattle.fs_cut.proofs.Branches.{target_in, some_branch, takes_branch, taken_is, taken_holds, only_branch, step_down, step_up}
use Rattle.fs_cut.proofs.Listed.{point_state, path_is, path_unique}

-- a step by the first branch
abbrev pub only_step : ℕ → BranchStep
only_step r = record { state = r; branch = 0 }

pub steps_are : (m : Fsmd) (p : Path) (v : IsPath m p) → steps_in p ≡ record { state = state_of m p.from; branch = p.branch } ∷ map only_step v.rest
steps_are m p v = ap (steps_by p.branch) v.left

-- steps that follow one another have their effects joined
pub effect_joined : (m : Fsmd) (xs ys : List BranchStep) (s : Store) → store_after_steps m (xs ++ ys) s ≡ store_after_steps m ys (store_after_steps m xs s)
effect_joined m [] ys s = refl
effect_joined m (x ∷ xs) ys s = effect_joined m xs ys (store_after m x s)

module _ (m : Fsmd) where
  goes_at : (P : Point) (n : ℕ) (s t : Store) → P ≢ Done → Remains m P n s t → FirstReturn m n (state_of m P) s t
  goes_at Start n s t h r = r
  goes_at (At q) n s t h r = r
  goes_at Done n s t h r = absurd (h refl)

  at_goes : (P : Point) (n : ℕ) (s t : Store) → P ≢ Done → FirstReturn m n (state_of m P) s t → Remains m P n s t
  at_goes Start n s t h r = r
  at_goes (At q) n s t h r = r
  at_goes Done n s t h r = absurd (h refl)

  not_reset : (q : ℕ) → is_cutpoint m q ≡ false → q ≢ m.reset
  not_reset q h e = grind (arith, nat_tests)

  end_down : (b : Bool) (q n : ℕ) (s t : Store) → (q == m.reset) ≡ b → ReachesReset m n q s t → Remains m (cond b Done (At q)) n s t
  end_down true q zero s t e r = (refl, r.1)
  end_down true q (suc n) s t e r = absurd (r.0 (grind (arith, nat_tests)))
  end_down false q zero s t e r = absurd (grind (arith, nat_tests, r.0))
  end_down false q (suc n) s t e r = r.1

  end_up : (b : Bool) (q n : ℕ) (s t : Store) → (q == m.reset) ≡ b → Remains m (cond b Done (At q)) n s t → ReachesReset m n q s t
  end_up true q zero s t e r = (grind (arith, nat_tests), r.1)
  end_up true q (suc n) s t e r = absurd (omega (arith, r.0))
  end_up false q zero s t e r = absurd r
  end_up false q (suc n) s t e r = ((λ h. grind (arith, nat_tests)), r)

  module _ (sound : IsSound m) where
    -- one step, by the branch that is taken
    moved : (q k n : ℕ) (s t : Store) → q < length m.states → branch_taken m q s ≡ k → FirstReturn m n q s t
        → (j : ℕ) × (n ≡ suc j) × ReachesReset m j (target_of m q k) (store_after m (record { state = q; branch = k }) s) t
    moved q k zero s t h e g = absurd g
    moved q k (suc n) s t h e g = (
      n,
      refl,
      subst (λ (b : ℕ). ReachesReset m n (target_of m q b) (store_after m (record { state = q; branch = b }) s) t) e
          (step_down m sound q s (λ r u. ReachesReset m n r u t) h g),
    )

    moves : (q k n : ℕ) (s t : Store) → q < length m.states → branch_taken m q s ≡ k
        → ReachesReset m n (target_of m q k) (store_after m (record { state = q; branch = k }) s) t → FirstReturn m (suc n) q s t
    moves q k n s t h e r =
        step_up m sound q s (λ x u. ReachesReset m n x u t) h
        (subst (λ (b : ℕ). ReachesReset m n (target_of m q b) (store_after m (record { state = q; branch = b }) s) t) (sym e) r)

    next_in : (q : ℕ) → q < length m.states → target_of m q 0 < length m.states
    next_in q h = target_in m sound q 0 (some_branch m sound q h)

    passes_down : (rs : List ℕ) (q n : ℕ) (P : Point) (s t : Store) → q < length m.states → Passes m q rs P → ReachesReset m n q s t
        → (k : ℕ) × (n ≡ length rs + k) × Remains m P k (store_after_steps m (map only_step rs) s) t
    passes_down [] q n P s t h w r = (n, omega arith, subst (λ (X : Point). Remains m X n s t) (sym w.1) (end_down (q == m.reset) q n s t refl r))
    passes_down (x ∷ rs) q zero P s t h w r = absurd (not_reset q w.0 r.0)
    passes_down (x ∷ rs) q (suc n) P s t h w r =
        let a = moved q 0 (suc n) s t h (only_branch m sound q s h w.0) r.1 in
        let d = passes_down rs (target_of m q 0) a.0 P (store_after m (only_step q) s) t (next_in q h) w.2 a.2 in (
          d.0,
          omega (arith, d.1, a.1),
          subst (λ (y : ℕ). Remains m P d.0 (store_after_steps m (map only_step rs) (store_after m (only_step y) s)) t) (sym w.1) d.2,
        )

    passes_up : (rs : List ℕ) (q n : ℕ) (P : Point) (s t : Store) → q < length m.states → Passes m q rs P
        → Remains m P n (store_after_steps m (map only_step rs) s) t → (k : ℕ) × (k ≡ length rs + n) × ReachesReset m k q s t
    passes_up [] q n P s t h w r = (n, omega arith, end_up (q == m.reset) q n s t refl (subst (λ (X : Point). Remains m X n s t) w.1 r))
    passes_up (x ∷ rs) q n P s t h w r =
        let d = passes_up rs (target_of m q 0) n P (store_after m (only_step q) s) t (next_in q h) w.2
        (subst (λ (y : ℕ). Remains m P n (store_after_steps m (map only_step rs) (store_after m (only_step y) s)) t) w.1 r) in
        (suc d.0, omega (arith, d.1), (not_reset q w.0, moves q 0 d.0 s t h (only_branch m sound q s h w.0) d.2))

    taken_by : (p : Path) (s : Store) → IsPath m p → takes m p s ≡ true → branch_taken m (state_of m p.from) s ≡ p.branch
    taken_by p s v b = taken_is m sound (state_of m p.from) p.branch s (point_state m p.from sound v.point) v.numbered b

    states_count : (p : Path) (v : IsPath m p) → length p.states ≡ suc (length v.rest)
    states_count p v = ap length v.left

    -- a path takes its steps off a run
    pub path_down : (p : Path) (n : ℕ) (s t : Store) → IsPath m p → takes m p s ≡ true → Remains m p.from n s t → GoesDown m p n s t
    path_down p n s t v b r =
        let q = state_of m p.from in
        let h = point_state m p.from sound v.point in
        let a = moved q p.branch n s t h (taken_by p s v b) (goes_at p.from n s t v.goes r) in
        let d = passes_down v.rest (target_of m q p.branch) a.0 p.to (store_after m (record { state = q; branch = p.branch }) s) t
        (target_in m sound q p.branch v.numbered) v.passes a.2 in
        record {
          left = d.0;
          steps = omega (arith, d.1, a.1, states_count p v);
          remains = subst (λ (xs : List BranchStep). Remains m p.to d.0 (store_after_steps m xs s) t) (sym (steps_are m p v)) d.2;
        }

    -- a path can be put in front of a run
    pub path_up : (p : Path) (n : ℕ) (s t : Store) → IsPath m p → takes m p s ≡ true → Remains m p.to n (store_after_steps m (steps_in p) s) t
        → Remains m p.from (length p.states + n) s t
    path_up p n s t v b r =
        let q = state_of m p.from in
        let h = point_state m p.from sound v.point in
        let d = passes_up v.rest (target_of m q p.branch) n p.to (store_after m (record { state = q; branch = p.branch }) s) t
        (target_in m sound q p.branch v.numbered) v.passes
        (subst (λ (xs : List BranchStep). Remains m p.to n (store_after_steps m xs s) t) (steps_are m p v) r) in
        let e : suc d.0 ≡ length p.states + n = omega (arith, d.1, states_count p v) in
        subst (λ (k : ℕ). Remains m p.from k s t) e (at_goes p.from (suc d.0) s t v.goes (moves q p.branch d.0 s t h (taken_by p s v b) d.2))

    -- a store takes a path from each point
    pub path_exists : (P : Point) (s : Store) → is_point m P ≡ true → P ≢ Done → TakenFrom m P s
    path_exists P s h d =
        let q = state_of m P in
        let i = point_state m P sound h in
        let k = branch_taken m q s in
        record { path = path_by m P q k; is_path = path_is m P k sound h d (takes_branch m sound q s i).within; from = refl; taken = taken_holds m sound q s i }

    -- and only one
    pub one_path : (p r : Path) (s : Store) → IsPath m p → IsPath m r → p.from ≡ r.from → takes m p s ≡ true → takes m r s ≡ true → p ≡ r
    one_path p r s v w e a b =
        let same : branch_taken m (state_of m p.from) s ≡ branch_taken m (state_of m r.from) s = ap (λ (P : Point). branch_taken m (state_of m P) s) e in
        path_unique m p r v w e (sym (taken_by p s v a) ∙ same ∙ taken_by r s w b)

-- Runs, as a loop of steps goes along them.
use Rattle.std.proofs.Common.{◌≡◌, ◌≢◌, ℕ, zero, suc, ◌+◌, ◌-◌, ◌≤◌, ◌<◌, refl, sym, subst, ◌⊎◌, inl, inr, arith}
use Rattle.std.proofs.lemmas.Bool.{cases_lt}
use Rattle.fs_model.specs.Machines.{Fsmd}
use Rattle.fs_model.specs.Stores.{Store}
use Rattle.fs_model.specs.Runs.{Inputs, Step, ReachesReset, FirstReturn, Run, start, output}
use Rattle.fs_model.specs.Touched.{touched_by_step, AllInRange, StaysInRange}
use Rattle.std.specs.Prelude.{List, IfOk, Result, Ok, Err}
use Rattle.base_laws.proofs.Numbers.{plus_suc}
use Rattle.fs_runs.specs.declared.run.Ended.{Ended}
use Rattle.fs_runs.specs.declared.run.RunStop.{RunStop}
use Rattle.fs_runs.specs.Outcomes.{RunsOn, LeavesRange, told_by}
use Rattle.fs_model.proofs.Determined.{same_state, same_store}

-- a return from a state that is not the reset state takes a step
goes_on : (m : Fsmd) (n q : ℕ) (s t : Store) → q ≢ m.reset → FirstReturn m n q s t → ReachesReset m n q s t
goes_on m zero q s t h g = absurd g
goes_on m (suc n) q s t h g = (h, g)

returns_on : (m : Fsmd) (n q : ℕ) (s t : Store) → q ≢ m.reset → ReachesReset m n q s t → FirstReturn m n q s t
returns_on m zero q s t h g = absurd (h g.0)
returns_on m (suc n) q s t h g = g.1

-- one step in front of a run
pub step_goes : (m : Fsmd) (n q r : ℕ) (s u t : Store) → Step m q s r u → r ≢ m.reset → FirstReturn m n r u t → FirstReturn m (suc n) q s t
step_goes m n q r s u t step h g = record { state = r; store = u; step = step; after = goes_on m n r u t h g }

pub goes_step : (m : Fsmd) (n q r : ℕ) (s u t : Store) → Step m q s r u → r ≢ m.reset → FirstReturn m (suc n) q s t → FirstReturn m n r u t
goes_step m n q r s u t step h x =
    let e : x.state ≡ r = same_state m q s x.state r x.store u x.step step in
    let f : x.store ≡ u = same_store m q s x.state r x.store u x.step step in
    returns_on m n r u t h (subst (λ z. ReachesReset m n r z t) f (subst (λ z. ReachesReset m n z x.store t) e x.after))

pub step_returns : (m : Fsmd) (q r : ℕ) (s u : Store) → Step m q s r u → r ≡ m.reset → FirstReturn m 1 q s u
step_returns m q r s u step h = record { state = r; store = u; step = step; after = (h, refl) }

-- numbers in range
pub range_step : (m : Fsmd) (n q r : ℕ) (s u : Store) → Step m q s r u → AllInRange (touched_by_step m q s) → StaysInRange m n r u → StaysInRange m (suc n) q s
range_step m n q r s u step a g = (
  a,
  λ r2 u2 step2 h.
      let e : r ≡ r2 = same_state m q s r r2 u u2 step step2 in
      let f : u ≡ u2 = same_store m q s r r2 u u2 step step2 in
      subst (λ z. StaysInRange m n r2 z) f (subst (λ z. StaysInRange m n z u) e g),
)

pub range_last : (m : Fsmd) (q r : ℕ) (s u : Store) → Step m q s r u → AllInRange (touched_by_step m q s) → StaysInRange m 1 q s
range_last m q r s u step a = (a, λ r2 u2 step2 h. tt)

pub range_rest : (m : Fsmd) (n q r : ℕ) (s u : Store) → Step m q s r u → r ≢ m.reset → StaysInRange m (suc n) q s → StaysInRange m n r u
range_rest m n q r s u step h g = g.1 r u step h

-- after k steps from the first place, a run that has not returned is at a state and a store
pub record At (m : Fsmd) (k q : ℕ) (s : Store) (first : ℕ) (from : Store) : Type 0 where
  pub goes : (n : ℕ) (t : Store) → FirstReturn m n q s t → FirstReturn m (k + n) first from t
  pub none : (n : ℕ) (t : Store) → n ≤ k → ¬ FirstReturn m n first from t
  pub range : (n : ℕ) → StaysInRange m n q s → StaysInRange m (k + n) first from
  pub past : (n : ℕ) → StaysInRange m (k + n) first from → StaysInRange m n q s
  pub left : (n : ℕ) (t : Store) → FirstReturn m (k + n) first from t → FirstReturn m n q s t

at_first_none : (m : Fsmd) (first : ℕ) (from : Store) (n : ℕ) (t : Store) → n ≤ 0 → ¬ FirstReturn m n first from t
at_first_none m first from zero t h g = g
at_first_none m first from (suc n) t h g = absurd (omega arith)

pub at_first : (m : Fsmd) (first : ℕ) (from : Store) → At m 0 first from first from
at_first m first from = record {
  goes = λ n t g. subst (λ z. FirstReturn m z first from t) (zero_front n) g;
  none = at_first_none m first from;
  range = λ n g. subst (λ z. StaysInRange m z first from) (zero_front n) g;
  past = λ n g. subst (λ z. StaysInRange m z first from) (sym (zero_front n)) g;
  left = λ n t g. subst (λ z. FirstReturn m z first from t) (sym (zero_front n)) g;
}
  where
    zero_front : (n : ℕ) → n ≡ 0 + n
    zero_front n = omega arith

none_more : (m : Fsmd) (k q r : ℕ) (s u : Store) (first : ℕ) (from : Store) → At m k q s first from → Step m q s r u → r ≢ m.reset
    → (n : ℕ) (t : Store) → n ≤ k + 1 → (n ≡ k + 1) ⊎ (n ≤ k) → ¬ FirstReturn m n first from t
none_more m k q r s u first from a step h n t _ (inr low) g = a.none n t low g
none_more m k q r s u first from a step h n t _ (inl e) g = goes_step m 0 q r s u t step h (a.left 1 t (subst (λ z. FirstReturn m z first from t) e g))

split : (n k : ℕ) → n ≤ k + 1 → (n ≡ k + 1) ⊎ (n ≤ k)
split n k h = cases_split (cases_lt k n)
  where
    cases_split : (k < n) ⊎ (n ≤ k) → (n ≡ k + 1) ⊎ (n ≤ k)
    cases_split (inl x) = inl (omega arith)
    cases_split (inr x) = inr x

-- one more step that doesn't return
pub at_next : (m : Fsmd) (k q r : ℕ) (s u : Store) (first : ℕ) (from : Store) → At m k q s first from → Step m q s r u → AllInRange (touched_by_step m q s)
    → r ≢ m.reset → At m (k + 1) r u first from
at_next m k q r s u first from a step range h = record {
  goes = λ n t g. subst (λ z. FirstReturn m z first from t) (plus_suc k n) (a.goes (suc n) t (step_goes m n q r s u t step h g));
  none = λ n t low. none_more m k q r s u first from a step h n t low (split n k low);
  range = λ n g. subst (λ z. StaysInRange m z first from) (plus_suc k n) (a.range (suc n) (range_step m n q r s u step range g));
  past = λ n g. range_rest m n q r s u step h (a.past (suc n) (subst (λ z. StaysInRange m z first from) (sym (plus_suc k n)) g));
  left = λ n t g. goes_step m n q r s u t step h (a.left (suc n) t (subst (λ z. FirstReturn m z first from t) (sym (plus_suc k n)) g));
}

pub ended_goes : (m : Fsmd) (k q r : ℕ) (s u : Store) (first : ℕ) (from : Store) → At m k q s first from → Step m q s r u → r ≡ m.reset
    → FirstReturn m (k + 1) first from u
ended_goes m k q r s u first from a step h = a.goes 1 u (step_returns m q r s u step h)

pub ended_range : (m : Fsmd) (k q r : ℕ) (s u : Store) (first : ℕ) (from : Store) → At m k q s first from → Step m q s r u → AllInRange (touched_by_step m q s)
    → StaysInRange m (k + 1) first from
ended_range m k q r s u first from a step range = a.range 1 (range_last m q r s u step range)

last_zero : (k : ℕ) → k + 0 ≡ k
last_zero k = omega arith

less_one : (k : ℕ) → k + 0 ≡ k + 1 - 1
less_one k = omega arith

pub leaves_range : (m : Fsmd) (ins : Inputs) (limit k q : ℕ) (s : Store) → At m k q s m.reset (start m ins) → k < limit → ¬ AllInRange (touched_by_step m q s)
    → LeavesRange m ins limit (k + 1)
leaves_range m ins limit k q s a h out = record {
  counted = omega arith;
  within = omega arith;
  before = subst (λ z. StaysInRange m z m.reset (start m ins)) (less_one k) (a.range 0 tt);
  here = λ g. out (a.past 1 g).0;
}

pub runs_on : (m : Fsmd) (ins : Inputs) (limit k q : ℕ) (s : Store) → At m k q s m.reset (start m ins) → k ≡ limit → RunsOn m ins limit
runs_on m ins limit k q s a e = subst (λ z. RunsOn m ins z) e (record {
  no_return = a.none;
  in_range = subst (λ z. StaysInRange m z m.reset (start m ins)) (last_zero k) (a.range 0 tt);
})

pub run_ended : (r : Result Ended RunStop) (m : Fsmd) (ins : Inputs) (n : ℕ) (end : Store) → FirstReturn m n m.reset (start m ins) end
    → IfOk r (λ e. (name : List ℕ) → output m end name ≡ told_by m e.outputs.items name) → IfOk r (λ e. e.steps ≡ n)
    → IfOk r (λ e. Run m ins (told_by m e.outputs.items) e.steps)
run_ended (Ok e) m ins n end g outs steps = record { end = end; goes = subst (λ k. FirstReturn m k m.reset (start m ins) end) (sym steps) g; gives = outs }
run_ended (Err e) m ins n end g outs steps = tt

pub range_ended : (r : Result Ended RunStop) (m : Fsmd) (ins : Inputs) (n : ℕ) → StaysInRange m n m.reset (start m ins) → IfOk r (λ e. e.steps ≡ n)
    → IfOk r (λ e. StaysInRange m e.steps m.reset (start m ins))
range_ended (Ok e) m ins n g steps = subst (λ k. StaysInRange m k m.reset (start m ins)) (sym steps) g
range_ended (Err e) m ins n g steps = tt

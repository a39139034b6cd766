-- Numbers that stay in range over fewer steps, and behind the return.
use Rattle.std.proofs.Common.{◌≡◌, ℕ, zero, suc, ◌≤◌, ◌∙◌, subst, arith}
use Rattle.fs_model.specs.Machines.{Fsmd}
use Rattle.fs_model.specs.Stores.{Store}
use Rattle.fs_model.specs.Runs.{AfterStep, ReachesReset}
use Rattle.fs_model.specs.Touched.{StaysInRange}
use Rattle.fs_model.proofs.Determined.{same_state, same_store}

-- fewer steps stay in range too
pub stays_less : (m : Fsmd) (k n q : ℕ) (s : Store) → k ≤ n → StaysInRange m n q s → StaysInRange m k q s
stays_less m zero n q s le x = tt
stays_less m (suc k) zero q s le x = absurd (omega arith)
stays_less m (suc k) (suc n) q s le x = (x.0, λ r t st ne. stays_less m k n r t (omega arith) (x.1 r t st ne))

-- behind the return nothing is touched
pub after_on : (m : Fsmd) (k n q : ℕ) (s t : Store) → AfterStep m q s (λ r u. ReachesReset m n r u t) → StaysInRange m (suc n) q s → StaysInRange m k q s
after_on m zero n q s t a x = tt
after_on m (suc k) zero q s t a x = (x.0, λ r u st ne. absurd (ne (same_state m q s r a.state u a.store st a.step ∙ a.after.0)))
after_on m (suc k) (suc n) q s t a x = (
  x.0,
  λ r u st ne.
      let e : a.state ≡ r = same_state m q s a.state r a.store u a.step st in
      let f : a.store ≡ u = same_store m q s a.state r a.store u a.step st in
      after_on m k n r u t
      (subst (λ z. AfterStep m r z (λ w v. ReachesReset m n w v t)) f (subst (λ z. AfterStep m z a.store (λ w v. ReachesReset m n w v t)) e a.after.1))
      (x.1 r u st ne),
)

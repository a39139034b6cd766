-- A step, and so a run, leads to one end.
use Rattle.std.proofs.Common.{◌≡◌, ℕ, zero, suc, refl, sym, ◌∙◌, ap, subst}
use Rattle.fs_model.specs.Machines.{Fsmd}
use Rattle.fs_model.specs.Stores.{Store}
use Rattle.fs_model.specs.Runs.{Step, ReachesReset, FirstReturn}

pub same_state : (m : Fsmd) (q : ℕ) (s : Store) (r u : ℕ) (t v : Store) → Step m q s r t → Step m q s u v → r ≡ u
same_state m q s r u t v a b = let e : a.transition ≡ b.transition = cc (a.taken, b.taken) in a.target ∙ ap (λ l. l.target) e ∙ sym b.target

pub same_store : (m : Fsmd) (q : ℕ) (s : Store) (r u : ℕ) (t v : Store) → Step m q s r t → Step m q s u v → t ≡ v
same_store m q s r u t v a b = let e : a.transition ≡ b.transition = cc (a.taken, b.taken) in cc (a.store, b.store)

-- both ways of a run after a step that they share
abbrev pub SameEnd : ℕ → ℕ → Store → Store → Type 0
SameEnd n k t u = (n ≡ k) × (t ≡ u)

pub returns_once : (m : Fsmd) (n k q : ℕ) (s t u : Store) → ReachesReset m n q s t → ReachesReset m k q s u → SameEnd n k t u
returns_once m zero zero q s t u a b = (refl, sym a.1 ∙ b.1)
returns_once m zero (suc k) q s t u a b = absurd (b.0 a.0)
returns_once m (suc n) zero q s t u a b = absurd (a.0 b.0)
returns_once m (suc n) (suc k) q s t u a b =
    let x = a.1 in
    let y = b.1 in
    let e : y.state ≡ x.state = same_state m q s y.state x.state y.store x.store y.step x.step in
    let f : y.store ≡ x.store = same_store m q s y.state x.state y.store x.store y.step x.step in
    let rest : ReachesReset m k x.state x.store u = subst (λ z. ReachesReset m k x.state z u) f (subst (λ z. ReachesReset m k z y.store u) e y.after) in
    let ih = returns_once m n k x.state x.store t u x.after rest in
    (ap suc ih.0, ih.1)

pub goes_once : (m : Fsmd) (q : ℕ) (s t u : Store) (n k : ℕ) → FirstReturn m n q s t → FirstReturn m k q s u → SameEnd n k t u
goes_once m q s t u zero k a b = absurd a
goes_once m q s t u (suc n) zero a b = absurd b
goes_once m q s t u (suc n) (suc k) x y =
    let e : y.state ≡ x.state = same_state m q s y.state x.state y.store x.store y.step x.step in
    let f : y.store ≡ x.store = same_store m q s y.state x.state y.store x.store y.step x.step in
    let rest : ReachesReset m k x.state x.store u = subst (λ z. ReachesReset m k x.state z u) f (subst (λ z. ReachesReset m k z y.store u) e y.after) in
    let ih = returns_once m n k x.state x.store t u x.after rest in
    (ap suc ih.0, ih.1)

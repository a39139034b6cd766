-- Two machines that come from related states to related states with the same store, each in its own number of steps.
use Rattle.std.proofs.Common.{◌≡◌, ℕ, zero, suc, ◌<◌, ◌≤◌, sym, ◌∙◌, ap, subst, arith}
use Rattle.std.specs.Prelude.{◌≢◌, List, [], Option}
use Rattle.fs_model.specs.Machines.{Fsmd}
use Rattle.fs_model.specs.Stores.{Store}
use Rattle.fs_model.specs.Runs.{AfterStep, ReachesReset, FirstReturn, Inputs, Content, start, output, Run, SameBehaviour}
use Rattle.fs_model.proofs.Determined.{same_state, same_store}

-- from state q and store s, n steps lead to r and u, and none of the states left is the reset state
abbrev pub Passes : Fsmd → ℕ → ℕ → Store → ℕ → Store → Type 0
Passes m zero q s r u = (q ≡ r) × (s ≡ u)
Passes m (suc n) q s r u = (q ≢ m.reset) × AfterStep m q s (λ x v. Passes m n x v r u)

-- the same with a first step, whatever state it leaves
abbrev pub Leads : Fsmd → ℕ → ℕ → Store → ℕ → Store → Type 0
Leads m n q s r u = AfterStep m q s (λ x v. Passes m n x v r u)

-- two steps from one state and store lead to the same
meets : (m : Fsmd) (q : ℕ) (s : Store) (P : ℕ → Store → Type 0) (a : AfterStep m q s P) (Q : ℕ → Store → Type 0) (b : AfterStep m q s Q) → Q a.state a.store
meets m q s P a Q b =
    subst (λ x. Q x a.store) (same_state m q s b.state a.state b.store a.store b.step a.step)
    (subst (λ v. Q b.state v) (same_store m q s b.state a.state b.store a.store b.step a.step) b.after)

passes_down : (m : Fsmd) (n k q : ℕ) (s : Store) (r : ℕ) (u t : Store) → Passes m n q s r u → ReachesReset m k q s t
    → (j : ℕ) × (j ≤ k) × ReachesReset m j r u t
passes_down m zero k q s r u t p g = (k, omega arith, subst (λ x. ReachesReset m k x u t) p.0 (subst (λ v. ReachesReset m k q v t) p.1 g))
passes_down m (suc n) zero q s r u t p g = absurd (p.0 g.0)
passes_down m (suc n) (suc k) q s r u t p g =
    let rest : ReachesReset m k p.1.state p.1.store t = meets m q s (λ x v. Passes m n x v r u) p.1 (λ x v. ReachesReset m k x v t) g.1 in
    let d = passes_down m n k p.1.state p.1.store r u t p.1.after rest in
    (d.0, omega (arith, d.1), d.2)

passes_up : (m : Fsmd) (n k q : ℕ) (s : Store) (r : ℕ) (u t : Store) → Passes m n q s r u → ReachesReset m k r u t → (j : ℕ) × ReachesReset m j q s t
passes_up m zero k q s r u t p g = (k, subst (λ x. ReachesReset m k x s t) (sym p.0) (subst (λ v. ReachesReset m k r v t) (sym p.1) g))
passes_up m (suc n) k q s r u t p g =
    let d = passes_up m n k p.1.state p.1.store r u t p.1.after g in
    (suc d.0, (p.0, record { state = p.1.state; store = p.1.store; step = p.1.step; after = d.1 }))

-- both machines come from a pair of states to another pair, with the same store
pub record Pace (a b : Fsmd) (R : ℕ → ℕ → Type 0) (q p : ℕ) (s : Store) : Type 0 where
  pub left : ℕ
  pub right : ℕ
  pub to_left : ℕ
  pub to_right : ℕ
  pub store : Store
  pub leads_left : Leads a left q s to_left store
  pub leads_right : Leads b right p s to_right store
  pub related : R to_left to_right

module _ (a b : Fsmd) (R : ℕ → ℕ → Type 0) (ends : (q p : ℕ) → R q p → q ≡ a.reset → p ≡ b.reset) (ends_too : (q p : ℕ) → R q p → p ≡ b.reset → q ≡ a.reset)
    (paces : (q p : ℕ) (s : Store) → R q p → Pace a b R q p s) where
  abbrev Followed : ℕ → Type 0
  Followed n = (q p : ℕ) (s t : Store) → R q p → FirstReturn a n q s t → (k : ℕ) × FirstReturn b k p s t

  goes_returns : (k p : ℕ) (s t : Store) → p ≢ b.reset → FirstReturn b k p s t → (j : ℕ) × ReachesReset b j p s t
  goes_returns zero p s t h g = absurd g
  goes_returns (suc k) p s t h g = (suc k, (h, g))

  -- what is left of the run at the next pair
  returned : (j n q p : ℕ) (s t : Store) → j < n → ((i : ℕ) → i < n → Followed i) → R q p → ReachesReset a j q s t → (k : ℕ) × ReachesReset b k p s t
  returned zero n q p s t h ih r g = (0, (ends q p r g.0, g.1))
  returned (suc j) n q p s t h ih r g =
      let d = ih (suc j) h q p s t r g.1 in
      goes_returns d.0 p s t (λ e. g.0 (ends_too q p r e)) d.1

  one_pace : (n q p : ℕ) (s t : Store) → ((i : ℕ) → i < n → Followed i) → R q p → FirstReturn a n q s t → (k : ℕ) × FirstReturn b k p s t
  one_pace zero q p s t ih r g = absurd g
  one_pace (suc n) q p s t ih r g =
      let c = paces q p s r in
      let d = passes_down a c.left n c.leads_left.state c.leads_left.store c.to_left c.store t c.leads_left.after
      (meets a q s (λ x v. Passes a c.left x v c.to_left c.store) c.leads_left (λ x v. ReachesReset a n x v t) g) in
      let e = returned d.0 (suc n) c.to_left c.to_right c.store t (omega (arith, d.1)) ih c.related d.2 in
      let f = passes_up b c.right e.0 c.leads_right.state c.leads_right.store c.to_right c.store t c.leads_right.after e.1 in
      (suc f.0, record { state = c.leads_right.state; store = c.leads_right.store; step = c.leads_right.step; after = f.1 })

  below : (n i : ℕ) → i < n → Followed i
  below zero i h = absurd (omega arith)
  below (suc n) i h = λ q p s t r g. one_pace i q p s t (λ j k. below n j (omega arith)) r g

  pub follow : (n q p : ℕ) (s t : Store) → R q p → FirstReturn a n q s t → (k : ℕ) × FirstReturn b k p s t
  follow n = below (suc n) n (omega arith)

turned : (a b : Fsmd) (R : ℕ → ℕ → Type 0) (q p : ℕ) (s : Store) → Pace a b R q p s → Pace b a (λ x y. R y x) p q s
turned a b R q p s c = record {
  left = c.right;
  right = c.left;
  to_left = c.to_right;
  to_right = c.to_left;
  store = c.store;
  leads_left = c.leads_right;
  leads_right = c.leads_left;
  related = c.related;
}

one_way : (a b : Fsmd) → a.variables ≡ b.variables → ((n : ℕ) (s t : Store) → FirstReturn a n a.reset s t → (k : ℕ) × FirstReturn b k b.reset s t)
    → (ins : Inputs) (outs : List ℕ → Option Content) (n : ℕ) → Run a ins outs n → (k : ℕ) × Run b ins outs k
one_way a b e f ins outs n r =
    let starts : start a ins ≡ start b ins = ap (λ vs. start (record { variables = vs; reset = 0; states = [] }) ins) e in
    let d = f n (start a ins) r.end r.goes in (
      d.0,
      record {
        end = r.end;
        goes = subst (λ s. FirstReturn b d.0 b.reset s r.end) starts d.1;
        gives = λ name. sym (ap (λ vs. output (record { variables = vs; reset = 0; states = [] }) r.end name) e) ∙ r.gives name;
      },
    )

pub same_by_paces : (a b : Fsmd) (R : ℕ → ℕ → Type 0) → a.variables ≡ b.variables → R a.reset b.reset
    → ((q p : ℕ) → R q p → q ≡ a.reset → p ≡ b.reset) → ((q p : ℕ) → R q p → p ≡ b.reset → q ≡ a.reset)
    → ((q p : ℕ) (s : Store) → R q p → Pace a b R q p s) → SameBehaviour a b
same_by_paces a b R e r f g paces = record {
  forth = one_way a b e (λ n s t. follow a b R f g paces n a.reset b.reset s t r);
  back = one_way b a (sym e)
      (λ n s t. follow b a (λ x y. R y x) (λ q p. g p q) (λ q p. f p q) (λ q p s h. turned a b R p q s (paces p q s h)) n b.reset a.reset s t r);
}

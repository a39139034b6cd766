-- What is live by the flows of a machine is live by walks of its branches.
use Rattle.std.proofs.Common.{◌≡◌, ℕ, zero, suc, ◌<◌, ◌≤◌, List, [], ◌∷◌, ◌++◌, length, map, ap, sym, refl, ◌∙◌, subst, inl, inr, ◌⊎◌, arith, Bool, true, false}
use Rattle.std.proofs.Common.{All}
use Rattle.std.specs.Prelude.{◌≢◌, ◌==◌, nat_lt, Contains}
use Rattle.std.proofs.lemmas.Bool.Decides.{nat_tests}
use Rattle.std.specs.List.{slice_index_or}
use Rattle.std.proofs.lemmas.List.{get_or-map, length-map}
use Rattle.std.proofs.lemmas.List.Elements.{Contains-append_left, Contains-append_right, Contains-append_cases, Contains-get_or}
use Rattle.std.proofs.lemmas.Bool.{eqb-false, eqb-true}
use Rattle.fs_model.specs.Machines.{Fsmd, State, transitions_of}
use Rattle.fs_model.specs.Trees.{branches_of}
use Rattle.fs_model.specs.SoundMachines.{IsSound, branch_count, assigned_in}
use Rattle.fs_cut.specs.Paths.{branch_at, target_of}
use Rattle.fs_cut.proofs.Branches.{no_branch, target_in}
use Rattle.fs_variable_sets.specs.declared.VariableSet.{VariableSet}
use Rattle.fs_variable_sets.specs.Sets.{has_variable}
use Rattle.fs_variable_sets.specs.declared.flows.Flow.{Flow}
use Rattle.fs_variable_sets.specs.Flows.{IsInside, IsLiveIn, reading, passing, IsExact}
use Rattle.hls_bind.specs.Liveness.{read_by, reads, writes, PassesUnwritten, IsLive}
use Rattle.hls_bind.proofs.Lives.{live_reads, live_passes}
use Rattle.hls_bind.specs.BranchFlows.{Transfer, transfer_of, transfer_by, transfers_at, transfers_below}
use Rattle.hls_bind.specs.Live.{HasLive}
use Rattle.hls_bind.proofs.Listed.{listed, members}

-- ---- flows and what they do
contains_mapped : {A B : Type 0} (g : A → B) (xs : List A) (x : A) → Contains xs x → Contains (map g xs) (g x)
contains_mapped g xs x c = (c.0, (let n = length-map xs g in let h = c.1 in omega (arith, n, h)), get_or-map g xs c.0 x (g x) c.1 ∙ ap g c.2)

-- a flow that does this
record IsListed (flows : List Flow) (t : Transfer) : Type 0 where
  flow : Flow
  listed : Contains flows flow
  is : transfer_of flow ≡ t

listed_at : (flows : List Flow) (k : ℕ) (t : Transfer) → k < length (map transfer_of flows) → slice_index_or (map transfer_of flows) k t ≡ t → IsListed flows t
listed_at [] k t h e = absurd (omega (arith, h))
listed_at (f ∷ fs) zero t h e = record { flow = f; listed = (0, omega arith, refl); is = e }
listed_at (f ∷ fs) (suc k) t h e =
    let r = listed_at fs k t (omega (arith, h)) e in
    record { flow = r.flow; listed = (suc r.listed.0, (let low = r.listed.1 in omega (arith, low)), r.listed.2); is = r.is }

-- ---- what the branches of a machine do
record IsOfBranch (m : Fsmd) (f : Transfer) : Type 0 where
  state : ℕ
  branch : ℕ
  numbered : branch < branch_count m state
  is : f ≡ transfer_by state (branch_at m state branch)

state_inside : (ss : List State) (q : ℕ) → length ss ≤ q → (slice_index_or ss q (record { name = []; transitions = [] })).transitions ≡ []
state_inside [] q h = refl
state_inside (s ∷ ss) zero h = absurd (omega (arith, h))
state_inside (s ∷ ss) (suc q) h = state_inside ss q (omega (arith, h))

module _ (m : Fsmd) where
  no_branches : (q : ℕ) → length m.states ≤ q → branch_count m q ≡ 0
  no_branches q h = ap (λ ls. length (branches_of ls)) (state_inside m.states q h)

  below_by : (q k : ℕ) (t : Bool) → nat_lt q (length m.states) ≡ t → k < branch_count m q → q < length m.states
  below_by q k true e h = grind (arith, nat_tests, e)
  below_by q k false e h = let past : length m.states ≤ q = grind (arith, nat_tests, e) in let none = no_branches q past in absurd (omega (arith, h, none))

  -- a state with a branch is there
  pub is_there : (q k : ℕ) → k < branch_count m q → q < length m.states
  is_there q k h = below_by q k (nat_lt q (length m.states)) refl h

  of_state : (q : ℕ) (f : Transfer) → Contains (transfers_at m q) f → IsOfBranch m f
  of_state q f c =
      let bs = branches_of (transitions_of m q) in
      let low : c.0 < length bs = let n = length-map bs (transfer_by q) in let h = c.1 in omega (arith, n, h) in
      record { state = q; branch = c.0; numbered = low; is = sym c.2 ∙ get_or-map (transfer_by q) bs c.0 no_branch f low }

  in_either : (n : ℕ) (f : Transfer) → Contains (transfers_at m n) f ⊎ Contains (transfers_below m n) f → (Contains (transfers_below m n) f → IsOfBranch m f)
      → IsOfBranch m f
  in_either n f (inl c) next = of_state n f c
  in_either n f (inr c) next = next c

  of_transfer : (n : ℕ) (f : Transfer) → Contains (transfers_below m n) f → IsOfBranch m f
  of_transfer zero f c = let h = c.1 in absurd (omega (arith, h))
  of_transfer (suc n) f c = in_either n f (Contains-append_cases (transfers_at m n) (transfers_below m n) f c) (of_transfer n f)

  its_transfer : (q k : ℕ) → k < branch_count m q → Contains (transfers_at m q) (transfer_by q (branch_at m q k))
  its_transfer q k h =
      let bs = branches_of (transitions_of m q) in
      let low : k < length (map (transfer_by q) bs) = let n = length-map bs (transfer_by q) in omega (arith, n, h) in
      (k, low, get_or-map (transfer_by q) bs k no_branch (transfer_by q (branch_at m q k)) h)

  at_state : (n q k : ℕ) (t : Bool) → (q == n) ≡ t → q < suc n → k < branch_count m q
      → (q < n → Contains (transfers_below m n) (transfer_by q (branch_at m q k)))
      → Contains (transfers_at m n ++ transfers_below m n) (transfer_by q (branch_at m q k))
  at_state n q k true e h i next =
      let same : q ≡ n = eqb-true q n e in
      Contains-append_left (transfers_at m n) (transfers_below m n) (transfer_by q (branch_at m q k))
      (subst (λ z. Contains (transfers_at m z) (transfer_by q (branch_at m q k))) same (its_transfer q k i))
  at_state n q k false e h i next =
      let apart = eqb-false q n e in
      Contains-append_right (transfers_at m n) (transfers_below m n) (transfer_by q (branch_at m q k)) (next (omega (arith, h, apart)))

  has_transfer : (n q k : ℕ) → q < n → k < branch_count m q → Contains (transfers_below m n) (transfer_by q (branch_at m q k))
  has_transfer zero q k h i = absurd (omega (arith, h))
  has_transfer (suc n) q k h i = at_state n q k (q == n) refl h i (λ low. has_transfer n q k low i)

  abbrev all : List Transfer
  all = transfers_below m (length m.states)

  -- ---- both ways
  module _ (flows : List Flow) (are : map transfer_of flows ≡ all) where
    of_flow : (f : Flow) → Contains flows f → IsOfBranch m (transfer_of f)
    of_flow f c = of_transfer (length m.states) (transfer_of f)
        (subst (λ (fs : List Transfer). Contains fs (transfer_of f)) are (contains_mapped transfer_of flows f c))

    its_flow : (q k : ℕ) → k < branch_count m q → IsListed flows (transfer_by q (branch_at m q k))
    its_flow q k h = let c = subst (λ (fs : List Transfer). Contains fs (transfer_by q (branch_at m q k))) (sym are)
        (has_transfer (length m.states) q k (is_there q k h) h) in listed_at flows c.0 (transfer_by q (branch_at m q k)) c.1 c.2

    live_by_read : (x : ℕ) (f : Flow) → IsOfBranch m (transfer_of f) → has_variable f.reads x ≡ true → IsLive m x f.from
    live_by_read x f o r =
        let b = branch_at m o.state o.branch in
        subst (λ (t : Transfer). t.reads x ≡ true → IsLive m x t.from) (sym o.is) (λ h. live_reads m x o.state o.branch o.numbered (listed (read_by b) x h)) r

    live_by_pass : (x : ℕ) → x < 128 → (f : Flow) → IsOfBranch m (transfer_of f) → has_variable f.writes x ≡ false → f.target ≢ m.reset → IsLive m x f.target
        → IsLive m x f.from
    live_by_pass x low f o w on l =
        let b = branch_at m o.state o.branch in
        subst (λ (t : Transfer). t.writes x ≡ false → t.target ≢ m.reset → IsLive m x t.target → IsLive m x t.from) (sym o.is)
        (λ h i j. live_passes m x o.state o.branch o.numbered (sym (members (assigned_in b.assignments) x low) ∙ h) i j) w on l

    to_live : (x : ℕ) → x < 128 → (q : ℕ) → IsLiveIn flows m.reset x q → IsLive m x q
    to_live x low q (reading f l r) = live_by_read x f (of_flow f l) r
    to_live x low q (passing f l w on d) = live_by_pass x low f (of_flow f l) w on (to_live x low f.target d)

    read_in : (x : ℕ) → x < 128 → (q k : ℕ) → k < branch_count m q → reads x (branch_at m q k) ≡ true → IsLiveIn flows m.reset x q
    read_in x low q k h r =
        let f = its_flow q k h in
        let from = ap (λ (t : Transfer). t.from) f.is in
        let read = ap (λ (t : Transfer). t.reads x) f.is in
        subst (λ z. IsLiveIn flows m.reset x z) from (reading f.flow f.listed (read ∙ members (read_by (branch_at m q k)) x low ∙ r))

    passed_in : (x : ℕ) → x < 128 → (q k : ℕ) → k < branch_count m q → writes x (branch_at m q k) ≡ false → target_of m q k ≢ m.reset
        → IsLiveIn flows m.reset x (target_of m q k) → IsLiveIn flows m.reset x q
    passed_in x low q k h w on l =
        let f = its_flow q k h in
        let from = ap (λ (t : Transfer). t.from) f.is in
        let target : f.flow.target ≡ target_of m q k = ap (λ (t : Transfer). t.target) f.is in
        let written = ap (λ (t : Transfer). t.writes x) f.is in
        subst (λ z. IsLiveIn flows m.reset x z) from
        (passing f.flow f.listed (written ∙ members (assigned_in (branch_at m q k).assignments) x low ∙ w) (λ e. on (sym target ∙ e))
        (subst (λ z. IsLiveIn flows m.reset x z) (sym target) l))

    walked : (x : ℕ) → x < 128 → (ks : List ℕ) (q r : ℕ) → PassesUnwritten m x q ks r → IsLiveIn flows m.reset x r → IsLiveIn flows m.reset x q
    walked x low [] q r h l = subst (λ z. IsLiveIn flows m.reset x z) (sym h) l
    walked x low (k ∷ ks) q r h l = passed_in x low q k h.0 h.1 h.2 (walked x low ks (target_of m q k) r h.3 l)

    from_live : (x : ℕ) → x < 128 → (q : ℕ) → IsLive m x q → IsLiveIn flows m.reset x q
    from_live x low q l = walked x low l.earlier q l.state l.passes (read_in x low l.state l.branch l.numbered l.read)

    pub has_live : (sets : List VariableSet) → IsExact flows m.reset sets → HasLive m sets
    has_live sets e = record { sound = λ q v i low h. to_live v low q (e.0 q v h); complete = λ q v low l. e.1 q v (from_live v low q l) }

    inside_by : IsSound m → (f : Flow) → IsOfBranch m (transfer_of f) → IsInside (length m.states) f
    inside_by sound f o =
        subst (λ (t : Transfer). (t.from < length m.states) × (t.target < length m.states)) (sym o.is)
        (is_there o.state o.branch o.numbered, target_in m sound o.state o.branch o.numbered)

    pub all_inside : IsSound m → All (IsInside (length m.states)) flows
    all_inside sound = λ k d h. inside_by sound (slice_index_or flows k d) (of_flow (slice_index_or flows k d) (Contains-get_or flows k d h))

pub inside_at : (m : Fsmd) (flows slice : List Flow) (n : ℕ) → IsSound m → map transfer_of flows ≡ transfers_below m (length m.states) → slice ≡ flows
    → n ≡ length m.states → All (IsInside n) slice
inside_at m flows slice n sound e f g = subst (λ i. All (IsInside i) slice) (sym g) (all_inside m slice (ap (map transfer_of) f ∙ e) sound)

pub live_at : (m : Fsmd) (flows slice : List Flow) (sets : List VariableSet) (reset : ℕ) → map transfer_of flows ≡ transfers_below m (length m.states)
    → slice ≡ flows → reset ≡ m.reset → IsExact slice reset sets → HasLive m sets
live_at m flows slice sets reset e f g x = has_live m slice (ap (map transfer_of) f ∙ e) sets (subst (λ r. IsExact slice r sets) g x)

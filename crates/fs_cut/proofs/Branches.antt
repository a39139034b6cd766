-- The branches of sound machines, and the one that a store takes.
use Rattle.std.proofs.Common.{◌≡◌, ℕ, zero, suc, ◌<◌, ◌≤◌, List, [], ◌∷◌, ◌++◌, length, ap, sym, refl, ◌∙◌, subst, arith, Option, Some, None, Bool, true, false}
use Rattle.std.specs.Prelude.{◌&&◌, cond, nat_lt, slice_get, filter}
use Rattle.std.specs.List.{list_all, slice_index_or}
use Rattle.std.proofs.lemmas.Bool.Decides.{nat_tests}
use Rattle.std.proofs.lemmas.List.Folds.{list_all-append}
use Rattle.std.proofs.lemmas.Bool.{and_from, lt-ltb, ltb-true}
use Rattle.fs_model.proofs.Booleans.{and_first, and_second}
use Rattle.fs_model.proofs.Lists.{one_element}
use Rattle.fs_model.specs.SoundMachines.{IsSound, branch_count, is_cutpoint, first_transition_target}
use Rattle.fs_model.specs.Expressions.{Literal, Guard, Test, Not, And, Or, Assignment, Transition}
use Rattle.fs_model.specs.Machines.{Fsmd, transitions_of}
use Rattle.fs_model.specs.Stores.{Store}
use Rattle.fs_model.specs.Meaning.{transition_taken, act_all}
use Rattle.fs_model.specs.Runs.{Step as StepOf, AfterStep}
use Rattle.fs_model.specs.Trees.{Tree, Empty, Leaf, Node, Branch, tree_of_guard, tree_of_condition, tree_of_transitions, leaves, branches_of, negated_literal}
use Rattle.fs_model.specs.Trees.{branch_holds}
use Rattle.fs_ast.proofs.Opens.{takes_one}
use Rattle.fs_cut.specs.Paths.{BranchStep, branch_at, target_of, store_after}
use Rattle.fs_cut.specs.Cuts.{taken_index, branch_taken}
use Rattle.fs_ast.proofs.OneBranch.{count-lines, only_transition}
use Rattle.fs_ast.proofs.Leaves.{length_leaves}

-- ---- where branches lead
-- whether each leaf leads to one of n states
abbrev lead_in : ℕ → Tree → Bool
lead_in n Empty = true
lead_in n (Leaf assignments target) = nat_lt target n
lead_in n (Node l on_yes on_no) = lead_in n on_yes && lead_in n on_no

abbrev within : ℕ → Branch → Bool
within n b = nat_lt b.target n

leaves_lead : (n : ℕ) (t : Tree) (way : List (Literal ℕ)) → lead_in n t ≡ true → list_all (within n) (leaves t way) ≡ true
leaves_lead n Empty way h = refl
leaves_lead n (Leaf assignments target) way h = and_from (nat_lt target n) true h refl
leaves_lead n (Node l y f) way h =
    list_all-append (within n) (leaves y (way ++ l ∷ [])) (leaves f (way ++ negated_literal l ∷ []))
    ∙ and_from _ _ (leaves_lead n y (way ++ l ∷ []) (and_first (lead_in n y) (lead_in n f) h))
    (leaves_lead n f (way ++ negated_literal l ∷ []) (and_second (lead_in n y) (lead_in n f) h))

guard_leads : (n : ℕ) (g : Guard ℕ) (y f : Tree) → lead_in n y ≡ true → lead_in n f ≡ true → lead_in n (tree_of_guard g y f) ≡ true
guard_leads n (Test l) y f p q = and_from (lead_in n y) (lead_in n f) p q
guard_leads n (Not c) y f p q = guard_leads n c f y q p
guard_leads n (And c d) y f p q = guard_leads n c (tree_of_guard d y f) f (guard_leads n d y f p q) q
guard_leads n (Or c d) y f p q = guard_leads n c y (tree_of_guard d y f) p (guard_leads n d y f p q)

condition_leads : (n : ℕ) (g : Option (Guard ℕ)) (y f : Tree) → lead_in n y ≡ true → lead_in n f ≡ true → lead_in n (tree_of_condition g y f) ≡ true
condition_leads n None y f p q = p
condition_leads n (Some c) y f p q = guard_leads n c y f p q

lines_lead : (n : ℕ) (ls : List (Transition ℕ ℕ)) → ((k : ℕ) (l : Transition ℕ ℕ) → slice_get ls k ≡ Some l → l.target < n)
    → lead_in n (tree_of_transitions ls) ≡ true
lines_lead n [] h = refl
lines_lead n (l ∷ ls) h = condition_leads n l.guard (Leaf l.assignments l.target) (tree_of_transitions ls) (lt-ltb l.target n (h 0 l refl))
    (lines_lead n ls (λ k m e. h (suc k) m e))

pub test_at : {X : Type 0} (test : X → Bool) (xs : List X) (k : ℕ) (d : X) → list_all test xs ≡ true → k < length xs → test (slice_index_or xs k d) ≡ true
test_at test [] k d h i = absurd (omega arith)
test_at test (x ∷ xs) zero d h i = and_first (test x) (list_all test xs) h
test_at test (x ∷ xs) (suc k) d h i = test_at test xs k d (and_second (test x) (list_all test xs) h) (omega arith)

-- ---- one branch at most

pub few : (m : Fsmd) (q : ℕ) → is_cutpoint m q ≡ false → branch_count m q ≤ 1
few m q c = grind (arith, nat_tests)

abbrev pub no_branch : Branch
no_branch = record { literals = []; assignments = []; target = 0 }

-- ---- the branch that is open
record Finds (bs : List Branch) (s : Store) (b : Branch) : Type 0 where
  within : taken_index bs s < length bs
  is : slice_index_or bs (taken_index bs s) no_branch ≡ b

finds_by : (w b : Branch) (bs : List Branch) (s : Store) (t : Bool) → branch_holds s w ≡ t
    → cond t (w ∷ filter (branch_holds s) bs) (filter (branch_holds s) bs) ≡ b ∷ []
    → (filter (branch_holds s) bs ≡ b ∷ [] → Finds bs s b) → Finds (w ∷ bs) s b
finds_by w b bs s true e h next = record { within = rw e (omega arith); is = rw e (cc h) }
finds_by w b bs s false e h next =
    let d = next h in
    record { within = rw e (omega (arith, d.within)); is = rw e d.is }

finds : (bs : List Branch) (s : Store) (b : Branch) → filter (branch_holds s) bs ≡ b ∷ [] → Finds bs s b
finds [] s b h = absurd (cc h)
finds (w ∷ bs) s b h = finds_by w b bs s (branch_holds s w) refl h (finds bs s b)

none_by : (b : Branch) (bs : List Branch) (k : ℕ) (s : Store) (t : Bool) → branch_holds s b ≡ t
    → cond t (b ∷ filter (branch_holds s) bs) (filter (branch_holds s) bs) ≡ [] → (branch_holds s b ≡ false → filter (branch_holds s) bs ≡ [] → ⊥) → ⊥
none_by b bs k s true e h next = absurd (cc h)
none_by b bs k s false e h next = next e h

none_open : (bs : List Branch) (k : ℕ) (s : Store) → filter (branch_holds s) bs ≡ [] → k < length bs → branch_holds s (slice_index_or bs k no_branch) ≡ true → ⊥
none_open [] k s h i e = omega arith
none_open (b ∷ bs) zero s h i e = none_by b bs 0 s (branch_holds s b) refl h (λ f g. cc (e, f))
none_open (b ∷ bs) (suc k) s h i e = none_by b bs k s (branch_holds s b) refl h (λ f g. none_open bs k s g (omega arith) e)

only_by : (w b : Branch) (bs : List Branch) (k : ℕ) (s : Store) (t : Bool) → branch_holds s w ≡ t
    → cond t (w ∷ filter (branch_holds s) bs) (filter (branch_holds s) bs) ≡ b ∷ []
    → k < length bs → branch_holds s (slice_index_or bs k no_branch) ≡ true → (filter (branch_holds s) bs ≡ b ∷ [] → taken_index bs s ≡ k)
    → cond t 0 (suc (taken_index bs s)) ≡ suc k
only_by w b bs k s true e h i o next = absurd (none_open bs k s (cc h) i o)
only_by w b bs k s false e h i o next = ap suc (next h)

only_open : (bs : List Branch) (s : Store) (b : Branch) (k : ℕ) → filter (branch_holds s) bs ≡ b ∷ [] → k < length bs
    → branch_holds s (slice_index_or bs k no_branch) ≡ true → taken_index bs s ≡ k
only_open [] s b k h i e = absurd (omega arith)
only_open (w ∷ bs) s b zero h i e = ap (λ t. cond t 0 (suc (taken_index bs s))) e
only_open (w ∷ bs) s b (suc k) h i e = only_by w b bs k s (branch_holds s w) refl h (omega arith) e (λ g. only_open bs s b k g (omega arith) e)

open_by : (w : Branch) (bs : List Branch) (s : Store) (t : Bool) → branch_holds s w ≡ t → cond t 0 (suc (taken_index bs s)) < suc (length bs)
    → (taken_index bs s < length bs → branch_holds s (slice_index_or bs (taken_index bs s) no_branch) ≡ true)
    → branch_holds s (slice_index_or (w ∷ bs) (cond t 0 (suc (taken_index bs s))) no_branch) ≡ true
open_by w bs s true e h next = e
open_by w bs s false e h next = next (omega arith)

first_is_open : (bs : List Branch) (s : Store) → taken_index bs s < length bs → branch_holds s (slice_index_or bs (taken_index bs s) no_branch) ≡ true
first_is_open [] s h = absurd (omega arith)
first_is_open (w ∷ bs) s h = open_by w bs s (branch_holds s w) refl h (first_is_open bs s)

-- the branch that a store takes is that of the transition
pub record Takes (m : Fsmd) (q : ℕ) (s : Store) : Type 0 where
  pub within : branch_taken m q s < branch_count m q
  pub transition : Transition ℕ ℕ
  pub taken : transition_taken (transitions_of m q) s ≡ Some transition
  pub assignments : (branch_at m q (branch_taken m q s)).assignments ≡ transition.assignments
  pub target : target_of m q (branch_taken m q s) ≡ transition.target

-- the step that a store takes
abbrev pub step_at : Fsmd → ℕ → Store → BranchStep
step_at m q s = record { state = q; branch = branch_taken m q s }

module _ (m : Fsmd) (sound : IsSound m) where
  -- each branch leads to a state
  pub target_in : (q k : ℕ) → k < branch_count m q → target_of m q k < length m.states
  target_in q k h =
      let n = length m.states in
      let bs = branches_of (transitions_of m q) in
      ltb-true (target_of m q k) n
      (test_at (within n) bs k no_branch
      (leaves_lead n (tree_of_transitions (transitions_of m q)) [] (lines_lead n (transitions_of m q) (λ j l e. (sound.transitions_sound q l j e).target_in)))
      h)

  -- each state has a branch
  pub some_branch : (q : ℕ) → q < length m.states → 0 < branch_count m q
  some_branch q h = omega (arith, length_leaves (tree_of_transitions (transitions_of m q)) [], count-lines (transitions_of m q) (sound.open_last q h))

  -- the one branch leads where the first transition leads
  pub first_target : (q : ℕ) → q < length m.states → is_cutpoint m q ≡ false → first_transition_target (transitions_of m q) ≡ target_of m q 0
  first_target q h c =
      let a = one_element (branches_of (transitions_of m q)) (some_branch q h) (few m q c) in
      let o = only_transition (transitions_of m q) a.0 (sound.open_last q h) a.1 in
      ap first_transition_target o.alone ∙ o.target ∙ sym (ap (λ (bs : List Branch). (slice_index_or bs 0 no_branch).target) a.1)

  pub takes_branch : (q : ℕ) (s : Store) → q < length m.states → Takes m q s
  takes_branch q s h =
      let o = takes_one (transitions_of m q) s (sound.open_last q h) in
      let f = finds (branches_of (transitions_of m q)) s o.branch o.one in
      record {
        within = f.within;
        transition = o.transition;
        taken = o.taken;
        assignments = ap (λ (b : Branch). b.assignments) f.is ∙ o.assignments;
        target = ap (λ (b : Branch). b.target) f.is ∙ o.target;
      }

  -- a store takes the one branch whose literals hold
  pub taken_is : (q k : ℕ) (s : Store) → q < length m.states → k < branch_count m q → branch_holds s (branch_at m q k) ≡ true → branch_taken m q s ≡ k
  taken_is q k s h i e =
      let o = takes_one (transitions_of m q) s (sound.open_last q h) in
      only_open (branches_of (transitions_of m q)) s o.branch k o.one i e

  pub taken_holds : (q : ℕ) (s : Store) → q < length m.states → branch_holds s (branch_at m q (branch_taken m q s)) ≡ true
  taken_holds q s h = first_is_open (branches_of (transitions_of m q)) s (takes_branch q s h).within

  -- a state with one branch is left by it
  pub only_branch : (q : ℕ) (s : Store) → q < length m.states → is_cutpoint m q ≡ false → branch_taken m q s ≡ 0
  only_branch q s h c = omega (arith, (takes_branch q s h).within, few m q c)

  -- a step is one by the branch taken
  pub step_down : (q : ℕ) (s : Store) (After : ℕ → Store → Type 0) → q < length m.states → AfterStep m q s After
      → After (target_of m q (branch_taken m q s)) (store_after m (step_at m q s) s)
  step_down q s After h w =
      let o = takes_branch q s h in
      let same : w.step.transition ≡ o.transition = cc (sym w.step.taken ∙ o.taken) in
      let at : w.state ≡ target_of m q (branch_taken m q s) = w.step.target ∙ ap (λ (l : Transition ℕ ℕ). l.target) same ∙ sym o.target in
      let holds : w.store ≡ store_after m (step_at m q s) s = w.step.store ∙ ap (λ (l : Transition ℕ ℕ). act_all l.assignments s s) same
      ∙ sym (ap (λ (a : List (Assignment ℕ)). act_all a s s) o.assignments) in
      subst (λ (r : ℕ). After r (store_after m (step_at m q s) s)) at (subst (λ (u : Store). After w.state u) holds w.after)

  pub step_taken : (q : ℕ) (s : Store) → q < length m.states → StepOf m q s (target_of m q (branch_taken m q s)) (store_after m (step_at m q s) s)
  step_taken q s h =
      let o = takes_branch q s h in
      record { transition = o.transition; taken = o.taken; target = o.target; store = ap (λ (acts : List (Assignment ℕ)). act_all acts s s) o.assignments }

  pub step_up : (q : ℕ) (s : Store) (After : ℕ → Store → Type 0) → q < length m.states
      → After (target_of m q (branch_taken m q s)) (store_after m (step_at m q s) s) → AfterStep m q s After
  step_up q s After h a = record { state = target_of m q (branch_taken m q s); store = store_after m (step_at m q s) s; step = step_taken q s h; after = a }

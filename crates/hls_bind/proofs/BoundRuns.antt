-- A machine with registers in place of locals goes along with the machine.
use Rattle.std.proofs.Common.{◌≡◌, ℕ, zero, suc, ◌<◌, List, [], ◌∷◌, ◌++◌, length, map, ap, sym, refl, ◌∙◌, subst, arith, Option, Some, None, Bool, true, false}
use Rattle.std.proofs.Common.{ℤ, pos}
use Rattle.std.specs.Prelude.{◌≢◌, ◌&&◌, ◌==◌, cond, not, slice_get}
use Rattle.std.specs.List.{list_all, slice_index_or, flat_map}
use Rattle.std.proofs.lemmas.List.Folds.{list_all-append}
use Rattle.std.proofs.lemmas.Bool.{and_from, eqb-false, eqb-true}
use Rattle.fs_model.proofs.Booleans.{and_first, and_second}
use Rattle.fs_model.proofs.Lists.{length_map}
use Rattle.fs_model.specs.declared.parts.Role.{Role}
use Rattle.fs_model.specs.declared.parts.Role.TheVariants.{Input, Output, Local}
use Rattle.fs_model.specs.declared.parts.Sort.{Sort}
use Rattle.fs_model.specs.declared.parts.Sort.TheVariants.{Scalar, Array, Port}
use Rattle.fs_model.specs.declared.parts.VarInfo.{VarInfo}
use Rattle.fs_model.specs.Expressions.{Literal, Assignment, Transition}
use Rattle.fs_model.specs.Machines.{Fsmd, State, transitions_of}
use Rattle.fs_model.specs.Stores.{Store}
use Rattle.fs_model.specs.Meaning.{act_all}
use Rattle.fs_model.specs.Runs.{AfterStep, ReachesReset, FirstReturn, Run, Inputs, Content, start, first_scalar, first_array, is_input, is_scalar, is_array}
use Rattle.fs_model.specs.Runs.{SameBehaviour}
use Rattle.fs_model.specs.Trees.{Branch, branches_of, branch_holds}
use Rattle.fs_model.specs.SoundMachines.{IsSound, branch_count, array_at, has_sort, arrays_in_condition, arrays_in_assignments}
use Rattle.fs_cut.specs.Paths.{branch_at, target_of, store_after}
use Rattle.fs_cut.specs.Cuts.{branch_taken}
use Rattle.fs_model.proofs.Passing.{branches_pass, condition_uses}
use Rattle.fs_model.specs.PartFolds.{arrays, condition_passes, transition_passes, branch_passes}
use Rattle.fs_model.specs.Renamed.{transition_over, assignment_over}
use Rattle.fs_cut.proofs.Branches.{no_branch, test_at, step_at, target_in, taken_is, taken_holds, takes_branch, step_down, step_up}
use Rattle.hls_bind.specs.Liveness.{reads, writes, read_by, read_by_assignment, IsLive}
use Rattle.hls_bind.specs.Bindings.{is_local, is_scalar_local}
use Rattle.hls_bind.proofs.RegisterMachines.{state_over, Agree, IsBoundBy, NeverClobbers}
use Rattle.hls_bind.proofs.Over.{has, read_by_literal, branch_over, over_branches, in_front, in_back}
use Rattle.hls_bind.proofs.Effects.{unbound, plain_literal, plain_assignments, literals_over, scalar_after, array_after, port_after}

-- ---- a local holds 0 at the start, and is no array
zero_by : (r : Role) (b : Bool) (z : ℤ) → (is_local r && b) ≡ true → cond (is_input r && b) z (pos 0) ≡ pos 0
zero_by Input b z h = absurd (cc h)
zero_by Output b z h = refl
zero_by Local b z h = refl

zero_at : (ins : Inputs) (o : Option VarInfo) → is_scalar_local o ≡ true → first_scalar ins o ≡ pos 0
zero_at ins None h = refl
zero_at ins (Some v) h = zero_by v.role (is_scalar v.sort) (ins.scalar v.name) h

no_array_by : (b : Bool) (s : Sort) → (b && is_scalar s) ≡ true → is_array s ≡ true → ⊥
no_array_by b Scalar h i = cc i
no_array_by true Array h i = cc h
no_array_by false Array h i = cc h
no_array_by b Port h i = cc i

no_array : (o : Option VarInfo) → is_scalar_local o ≡ true → has_sort is_array o ≡ true → ⊥
no_array None h i = cc h
no_array (Some v) h i = no_array_by (is_local v.role) v.sort h i

-- ---- machines over other numbers
pub lines_over : (f : ℕ → ℕ) (ss : List State) (q : ℕ)
    → (slice_index_or (map (state_over f) ss) q (record { name = []; transitions = [] })).transitions
    ≡ map (transition_over f (λ r. r)) (slice_index_or ss q (record { name = []; transitions = [] })).transitions
lines_over f [] q = refl
lines_over f (s ∷ ss) zero = refl
lines_over f (s ∷ ss) (suc q) = lines_over f ss q

at_over : (f : ℕ → ℕ) (bs : List Branch) (j : ℕ) → slice_index_or (map (branch_over f) bs) j no_branch ≡ branch_over f (slice_index_or bs j no_branch)
at_over f [] j = refl
at_over f (b ∷ bs) zero = refl
at_over f (b ∷ bs) (suc j) = at_over f bs j

all_lines : (test : Transition ℕ ℕ → Bool) (ls : List (Transition ℕ ℕ)) → ((j : ℕ) (l : Transition ℕ ℕ) → slice_get ls j ≡ Some l → test l ≡ true)
    → list_all test ls ≡ true
all_lines test [] h = refl
all_lines test (l ∷ ls) h = and_from (test l) (list_all test ls) (h 0 l refl) (all_lines test ls (λ j k e. h (suc j) k e))

module _ (f : ℕ → ℕ) (bound : ℕ → Bool) (m k : Fsmd) (sound : IsSound m) (sound_k : IsSound k) (ren : IsBoundBy f bound m k)
    (safe : NeverClobbers f bound m) where
  -- ---- arrays are not bound
  unbound_by : (x : ℕ) (t : Bool) → bound x ≡ t → array_at m.variables x ≡ true → not t ≡ true
  unbound_by x true e h = absurd (no_array (slice_get m.variables x) (ren.locals x e) h)
  unbound_by x false e h = refl

  unbound_all : (xs : List ℕ) → list_all (array_at m.variables) xs ≡ true → list_all (unbound f bound) xs ≡ true
  unbound_all [] h = refl
  unbound_all (x ∷ xs) h = and_from (unbound f bound x) (list_all (unbound f bound) xs)
      (unbound_by x (bound x) refl (and_first (array_at m.variables x) (list_all (array_at m.variables) xs) h))
      (unbound_all xs (and_second (array_at m.variables x) (list_all (array_at m.variables) xs) h))

  abbrev tests : Literal ℕ → Bool
  tests = plain_literal f bound

  abbrev checks : List (Assignment ℕ) → Bool
  checks = plain_assignments f bound

  abbrev anywhere : ℕ → Bool
  anywhere r = true

  line_plain : (l : Transition ℕ ℕ) → list_all (array_at m.variables) (arrays_in_condition l.guard ++ arrays_in_assignments l.assignments) ≡ true
      → transition_passes tests checks anywhere l ≡ true
  line_plain l h =
      let e = sym (list_all-append (unbound f bound) (arrays_in_condition l.guard) (arrays_in_assignments l.assignments))
      ∙ unbound_all (arrays_in_condition l.guard ++ arrays_in_assignments l.assignments) h in
      and_from (condition_passes tests l.guard) (checks l.assignments && true)
      (sym (condition_uses (unbound f bound) arrays l.guard) ∙ and_first (list_all (unbound f bound) (arrays_in_condition l.guard)) (checks l.assignments) e)
      (and_from (checks l.assignments) true (and_second (list_all (unbound f bound) (arrays_in_condition l.guard)) (checks l.assignments) e) refl)

  record IsPlain (b : Branch) : Type 0 where
    literals : list_all tests b.literals ≡ true
    assignments : checks b.assignments ≡ true

  branch_plain : (q j : ℕ) → j < branch_count m q → IsPlain (branch_at m q j)
  branch_plain q j h =
      let b = branch_at m q j in
      let all = branches_pass tests (λ l. refl) checks anywhere (transitions_of m q)
      (all_lines (transition_passes tests checks anywhere) (transitions_of m q) (λ i l e. line_plain l (sound.transitions_sound q l i e).arrays)) in
      let e = test_at (branch_passes tests checks anywhere) (branches_of (transitions_of m q)) j no_branch all h in
      record {
        literals = and_first (list_all tests b.literals) (checks b.assignments && true) e;
        assignments = and_first (checks b.assignments) true (and_second (list_all tests b.literals) (checks b.assignments && true) e);
      }

  -- ---- branches of the other machine
  branches_over : (q : ℕ) → branches_of (transitions_of k q) ≡ map (branch_over f) (branches_of (transitions_of m q))
  branches_over q = ap (λ (ss : List State). branches_of (slice_index_or ss q (record { name = []; transitions = [] })).transitions) ren.states
      ∙ ap branches_of (lines_over f m.states q) ∙ over_branches f (transitions_of m q)

  branch_is : (q j : ℕ) → branch_at k q j ≡ branch_over f (branch_at m q j)
  branch_is q j = ap (λ (bs : List Branch). slice_index_or bs j no_branch) (branches_over q) ∙ at_over f (branches_of (transitions_of m q)) j

  count_is : (q : ℕ) → branch_count k q ≡ branch_count m q
  count_is q = ap length (branches_over q) ∙ length_map (branch_over f) (branches_of (transitions_of m q))

  states_are : length k.states ≡ length m.states
  states_are = ap length ren.states ∙ length_map (state_over f) m.states

  -- ---- the relation of stores
  record Holds (q : ℕ) (s t : Store) : Type 0 where
    agree : Agree f bound s t
    live : (x : ℕ) → bound x ≡ true → IsLive m x q → s.scalar x ≡ t.scalar (f x)

  module _ (q : ℕ) (inside : q < length m.states) (s t : Store) (h : Holds q s t) where
    abbrev j : ℕ
    j = branch_taken m q s

    abbrev b : Branch
    b = branch_at m q j

    numbered : j < branch_count m q
    numbered = (takes_branch m sound q s inside).within

    read_by_bound : (x : ℕ) (c : Bool) → bound x ≡ c → reads x b ≡ true → s.scalar x ≡ t.scalar (f x)
    read_by_bound x true e r = h.live x e (record { earlier = []; state = q; branch = j; passes = refl; numbered = numbered; read = r })
    read_by_bound x false e r = h.agree.scalars x e

    same_reads : (x : ℕ) → has (read_by b) x ≡ true → s.scalar x ≡ t.scalar (f x)
    same_reads x r = read_by_bound x (bound x) refl r

    abbrev literal_reads : List ℕ
    literal_reads = flat_map read_by_literal b.literals

    abbrev assignment_reads : List ℕ
    assignment_reads = flat_map read_by_assignment b.assignments

    plain : IsPlain b
    plain = branch_plain q j numbered

    holds_over : branch_holds t (branch_at k q j) ≡ true
    holds_over =
        ap (branch_holds t) (branch_is q j)
        ∙ sym (literals_over f bound s t h.agree b.literals (λ x e. same_reads x (in_front literal_reads assignment_reads x e)) plain.literals)
        ∙ taken_holds m sound q s inside

    same_branch : branch_taken k q t ≡ j
    same_branch = taken_is k sound_k q j t (omega (arith, inside, states_are)) (omega (arith, numbered, count_is q)) holds_over

    same_target : target_of k q (branch_taken k q t) ≡ target_of m q j
    same_target = ap (target_of k q) same_branch ∙ ap (λ (w : Branch). w.target) (branch_is q j)

    abbrev s' : Store
    s' = store_after m (step_at m q s) s

    abbrev t' : Store
    t' = store_after k (step_at k q t) t

    after_is : t' ≡ act_all (map (assignment_over f) b.assignments) t t
    after_is = ap (λ i. act_all (branch_at k q i).assignments t t) same_branch ∙ ap (λ (w : Branch). act_all w.assignments t t) (branch_is q j)

    assigned_same : (x : ℕ) → has assignment_reads x ≡ true → s.scalar x ≡ t.scalar (f x)
    assigned_same x e = same_reads x (in_back literal_reads assignment_reads x e)

    abbrev plain_b : checks b.assignments ≡ true
    plain_b = plain.assignments

    scalar_next : (x : ℕ) → ((y : ℕ) → writes y b ≡ true → f y ≡ f x → y ≡ x) → (writes x b ≡ false → s.scalar x ≡ t.scalar (f x))
        → s'.scalar x ≡ t'.scalar (f x)
    scalar_next x apart e = scalar_after f bound s t h.agree b.assignments s t x assigned_same plain_b apart e
        ∙ sym (ap (λ (u : Store). u.scalar (f x)) after_is)

    agree_next : Agree f bound s' t'
    agree_next = record {
      scalars = λ x e. scalar_next x (λ y w g. sym (ren.apart x y e (sym g))) (λ n. h.agree.scalars x e);
      arrays = λ x e. array_after f bound s t h.agree b.assignments s t x assigned_same plain_b (λ y g. ren.apart x y e g) (h.agree.arrays x e)
          ∙ sym (ap (λ (u : Store). u.array (f x)) after_is);
      ports = λ x e. port_after f bound s t h.agree b.assignments s t x assigned_same plain_b (λ y g. ren.apart x y e g) (h.agree.ports x e)
          ∙ sym (ap (λ (u : Store). u.port (f x)) after_is);
    }

    passed_on : (x : ℕ) → target_of m q j ≢ m.reset → IsLive m x (target_of m q j) → writes x b ≡ false → IsLive m x q
    passed_on x on l w = record {
      earlier = j ∷ l.earlier;
      state = l.state;
      branch = l.branch;
      passes = (numbered, w, on, l.passes);
      numbered = l.numbered;
      read = l.read;
    }

    written_alone : (x y : ℕ) → bound x ≡ true → target_of m q j ≢ m.reset → IsLive m x (target_of m q j) → writes y b ≡ true → f y ≡ f x → (c d : Bool)
        → (y == x) ≡ c → bound y ≡ d → y ≡ x
    written_alone x y e on l w g true d p i = eqb-true y x p
    written_alone x y e on l w g false false p i = ren.apart y x i g
    written_alone x y e on l w g false true p i =
        absurd
        (safe.never q j y x
        (record { numbered = numbered; written_bound = i; other_bound = e; differ = λ r. eqb-false y x p r; shared = g; writes = w; goes_on = on; live = l }))

    live_next : target_of m q j ≢ m.reset → Holds (target_of m q j) s' t'
    live_next on = record {
      agree = agree_next;
      live = λ x e l. scalar_next x (λ y w g. written_alone x y e on l w g (y == x) (bound y) refl refl) (λ n. h.live x e (passed_on x on l n));
    }

  -- ---- runs
  abbrev Forth : ℕ → ℕ → Store → Store → Type 0
  Forth n q s t = (u : Store) → ReachesReset m n q s u → (v : Store) × ReachesReset k n q t v × Agree f bound u v

  abbrev Back : ℕ → ℕ → Store → Store → Type 0
  Back n q s t = (v : Store) → ReachesReset k n q t v → (u : Store) × ReachesReset m n q s u × Agree f bound u v

  record Follows (n q : ℕ) (s t : Store) : Type 0 where
    forth : Forth n q s t
    back : Back n q s t

  record FollowsStep (n q : ℕ) (s t : Store) : Type 0 where
    forth : (u : Store) → AfterStep m q s (λ r w. ReachesReset m n r w u) → (v : Store) × AfterStep k q t (λ r w. ReachesReset k n r w v) × Agree f bound u v
    back : (v : Store) → AfterStep k q t (λ r w. ReachesReset k n r w v) → (u : Store) × AfterStep m q s (λ r w. ReachesReset m n r w u) × Agree f bound u v

  by_step : (n q : ℕ) (inside : q < length m.states) (s t : Store) (h : Holds q s t)
      → Follows n (target_of m q (branch_taken m q s)) (s' q inside s t h) (t' q inside s t h) → FollowsStep n q s t
  by_step n q inside s t h rest =
      let inside_k : q < length k.states = omega (arith, inside, states_are) in
      let e = same_target q inside s t h in
      record {
        forth = λ u w.
            let d = rest.forth u (step_down m sound q s (λ r x. ReachesReset m n r x u) inside w) in
            (d.0, step_up k sound_k q t (λ r x. ReachesReset k n r x d.0) inside_k (subst (λ r. ReachesReset k n r (t' q inside s t h) d.0) (sym e) d.1), d.2);
        back = λ v w.
            let d =
            rest.back v (subst (λ r. ReachesReset k n r (t' q inside s t h) v) e (step_down k sound_k q t (λ r x. ReachesReset k n r x v) inside_k w)) in
            (d.0, step_up m sound q s (λ r x. ReachesReset m n r x d.0) inside d.1, d.2);
      }

  follows : (n q : ℕ) (s t : Store) → q < length m.states → Agree f bound s t → (q ≢ m.reset → Holds q s t) → Follows n q s t
  follows zero q s t inside agree h = record {
    forth = λ u r. (t, (r.0 ∙ sym ren.reset, refl), subst (λ (w : Store). Agree f bound w t) r.1 agree);
    back = λ v r. (s, (r.0 ∙ ren.reset, refl), subst (λ (w : Store). Agree f bound s w) r.1 agree);
  }
  follows (suc n) q s t inside agree h = record {
    forth = λ u r.
        let d =
        (by_step n q inside s t (h r.0)
        (follows n _ _ _ (target_in m sound q (branch_taken m q s) (numbered q inside s t (h r.0))) (agree_next q inside s t (h r.0))
        (live_next q inside s t (h r.0)))).forth u r.1 in
        (d.0, (λ e. r.0 (e ∙ ren.reset), d.1), d.2);
    back = λ v r.
        let on : q ≢ m.reset = λ e. r.0 (e ∙ sym ren.reset) in
        let d =
        (by_step n q inside s t (h on)
        (follows n _ _ _ (target_in m sound q (branch_taken m q s) (numbered q inside s t (h on))) (agree_next q inside s t (h on))
        (live_next q inside s t (h on)))).back v r.1 in
        (d.0, (on, d.1), d.2);
  }

  begins : (ins : Inputs) → Holds m.reset (start m ins) (start k ins)
  begins ins = record {
    agree = record {
      scalars = λ x e. ap (first_scalar ins) (sym (ren.kept x e));
      arrays = λ x e. ap (first_array ins) (sym (ren.kept x e));
      ports = λ x e. refl;
    };
    live = λ x e l. zero_at ins (slice_get m.variables x) (ren.locals x e) ∙ sym (zero_at ins (slice_get k.variables (f x)) (ren.registers x e));
  }

  from_start : (ins : Inputs) (n : ℕ) → FollowsStep n m.reset (start m ins) (start k ins)
  from_start ins n =
      let s = start m ins in
      let t = start k ins in
      let h = begins ins in
      let inside = sound.reset_in in
      by_step n m.reset inside s t h
      (follows n _ _ _ (target_in m sound m.reset (branch_taken m m.reset s) (numbered m.reset inside s t h)) (agree_next m.reset inside s t h)
      (live_next m.reset inside s t h))

  run_forth : (ins : Inputs) (outs : List ℕ → Option Content) (n : ℕ) → Run m ins outs n → (i : ℕ) × Run k ins outs i
  run_forth ins outs zero r = absurd r.goes
  run_forth ins outs (suc n) r =
      let d = (from_start ins n).forth r.end r.goes in (
        suc n,
        record {
          end = d.0;
          goes = subst (λ q. FirstReturn k (suc n) q (start k ins) d.0) (sym ren.reset) d.1;
          gives = λ name. sym (ren.outputs r.end d.0 d.2 name) ∙ r.gives name;
        },
      )

  run_back : (ins : Inputs) (outs : List ℕ → Option Content) (n : ℕ) → Run k ins outs n → (i : ℕ) × Run m ins outs i
  run_back ins outs zero r = absurd r.goes
  run_back ins outs (suc n) r =
      let d = (from_start ins n).back r.end (subst (λ q. FirstReturn k (suc n) q (start k ins) r.end) ren.reset r.goes) in
      (suc n, record { end = d.0; goes = d.1; gives = λ name. ren.outputs d.0 r.end d.2 name ∙ r.gives name })

  pub same_behaviour : SameBehaviour m k
  same_behaviour = record { forth = run_forth; back = run_back }

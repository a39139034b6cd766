-- The parts in which registers stand for locals are lawful.
use Rattle.std.proofs.Common.{◌≡◌, ℕ, zero, suc, ◌<◌, List, [], ◌∷◌, ◌++◌, length, map, ap, ap₂, sym, refl, ◌∙◌, subst, arith, Bool, true, false, Option, Some}
use Rattle.std.proofs.Common.{None}
use Rattle.std.specs.Prelude.{◌==◌, ◌&&◌, ◌||◌, not, nat_lt, slice_get}
use Rattle.std.specs.List.{list_all, slice_index_or}
use Rattle.std.proofs.lemmas.Bool.{eqb-false, eqb-true}
use Rattle.fs_model.proofs.Lists.{length_map, map_map}
use Rattle.fs_model.proofs.Options.{is_none-map}
use Rattle.fs_model.specs.declared.parts.Role.{Role}
use Rattle.fs_model.specs.declared.parts.Role.TheVariants.{Input, Output, Local}
use Rattle.fs_model.specs.declared.parts.Sort.{Sort}
use Rattle.fs_model.specs.declared.parts.Sort.TheVariants.{Scalar, Array, Port}
use Rattle.fs_model.specs.declared.parts.VarInfo.{VarInfo}
use Rattle.fs_model.specs.Expressions.{Assignment, Transition}
use Rattle.fs_model.specs.Renamed.{guard_over, transition_over}
use Rattle.fs_model.specs.Source.{Source}
use Rattle.fs_model.specs.Machines.{Fsmd, State, transitions_of}
use Rattle.fs_model.specs.Runs.{is_scalar, is_array, is_port, is_input}
use Rattle.fs_model.specs.Trees.{branches_of}
use Rattle.fs_ast.specs.MachineOfParts.{variables_of, machine_of}
use Rattle.fs_model.specs.SoundMachines.{IsSound, IsSoundTransition, names_differ, ends_open, has_sort, scalar_at, array_at, port_at, input_at, is_input_of}
use Rattle.fs_model.specs.SoundMachines.{assigned_in, occurs, all_differ, scalars_in_condition, arrays_in_condition, scalars_in_assignments}
use Rattle.fs_model.specs.SoundMachines.{arrays_in_assignments}
use Rattle.fs_model.specs.SoundMachines.{ports_in_assignments, branch_count, first_transition_target, is_cutpoint, reaches_cutpoint}
use Rattle.fs_ast.specs.Rules.{IsEndless, BreaksNoRule}
use Rattle.fs_ast.proofs.Uses.{emits_over}
use Rattle.fs_ast.proofs.Kept.{no_state, get_mapped, not_endless, passes_no_cutpoint}
use Rattle.fs_ast.proofs.Faultless.{IsFaultless}
use Rattle.fs_ast.proofs.LawfulParts.{KeepsRules, lawful_where}
use Rattle.hls_bind.specs.Bindings.{register, is_bound, is_local, is_scalar_local, bound_parts, IsBindingOf, AreRegisters}
use Rattle.hls_bind.specs.Conflicts.{Conflict, IsShared, IsTwice}
use Rattle.hls_bind.proofs.RegisterMachines.{state_over}
use Rattle.hls_bind.proofs.Over.{over_branches}
use Rattle.hls_bind.proofs.BoundRuns.{lines_over}
use Rattle.hls_bind.proofs.Variables.{is_kept, is_register, is_local_of, are_apart, shared_register, bound_is}
use Rattle.hls_bind.proofs.Renamed.{is_k, ws, f, k}
use Rattle.hls_bind.proofs.Lawful.{scalars_over, arrays_over, ports_over, assigned_over, sorts_kept, inputs_kept, still_differ}
use Rattle.hls_bind.proofs.Twice.{taken_by}
use Rattle.hls_bind.proofs.Names.{no_more, new_differ}

-- ---- sorts and roles
sort_scalar : (b : Bool) (s : Sort) (test : Sort → Bool) → (b && is_scalar s) ≡ true → test s ≡ true → test Scalar ≡ true
sort_scalar b Scalar test h i = i
sort_scalar true Array test h i = absurd (cc h)
sort_scalar false Array test h i = absurd (cc h)
sort_scalar true Port test h i = absurd (cc h)
sort_scalar false Port test h i = absurd (cc h)

scalar_test : (o : Option VarInfo) (test : Sort → Bool) → is_scalar_local o ≡ true → has_sort test o ≡ true → test Scalar ≡ true
scalar_test None test h i = absurd (cc h)
scalar_test (Some v) test h i = sort_scalar (is_local v.role) v.sort test h i

sort_test : (b : Bool) (s : Sort) (test : Sort → Bool) → (b && is_scalar s) ≡ true → test Scalar ≡ true → test s ≡ true
sort_test b Scalar test h i = i
sort_test true Array test h i = absurd (cc h)
sort_test false Array test h i = absurd (cc h)
sort_test true Port test h i = absurd (cc h)
sort_test false Port test h i = absurd (cc h)

test_scalar : (o : Option VarInfo) (test : Sort → Bool) → is_scalar_local o ≡ true → test Scalar ≡ true → has_sort test o ≡ true
test_scalar None test h i = absurd (cc h)
test_scalar (Some v) test h i = sort_test (is_local v.role) v.sort test h i

role_test : (r : Role) (b : Bool) → (is_local r && b) ≡ true → is_input r ≡ false
role_test Local b h = refl
role_test Input b h = absurd (cc h)
role_test Output b h = absurd (cc h)

local_test : (o : Option VarInfo) → is_scalar_local o ≡ true → is_input_of o ≡ false
local_test None h = absurd (cc h)
local_test (Some v) h = role_test v.role (is_scalar v.sort) h

-- ---- transitions over other numbers

open_over : (g : ℕ → ℕ) (ls : List (Transition ℕ ℕ)) → ends_open (map (transition_over g (λ q. q)) ls) ≡ ends_open ls
open_over g [] = refl
open_over g (l ∷ []) = is_none-map (guard_over g) l.guard
open_over g (l ∷ k ∷ ls) = ap₂ (λ (x y : Bool). not x && y) (is_none-map (guard_over g) l.guard) (open_over g (k ∷ ls))

-- only a state has transitions
state_in : (ss : List State) (q j : ℕ) (l : Transition ℕ ℕ) → slice_get (slice_index_or ss q no_state).transitions j ≡ Some l → q < length ss
state_in [] q j l e = absurd (cc e)
state_in (s ∷ ss) zero j l e = omega arith
state_in (s ∷ ss) (suc q) j l e = omega (arith, state_in ss q j l e)

-- ---- machines over other numbers
first_over : (g : ℕ → ℕ) (ls : List (Transition ℕ ℕ)) → first_transition_target (map (transition_over g (λ q. q)) ls) ≡ first_transition_target ls
first_over g [] = refl
first_over g (l ∷ ls) = refl

module _ (g : ℕ → ℕ) (a c : Fsmd) (reset : c.reset ≡ a.reset) (states : c.states ≡ map (state_over g) a.states) where
  its_lines : (q : ℕ) → transitions_of c q ≡ map (transition_over g (λ r. r)) (transitions_of a q)
  its_lines q = ap (λ (ss : List State). (slice_index_or ss q (record { name = []; transitions = [] })).transitions) states ∙ lines_over g a.states q

  same_count : (q : ℕ) → branch_count c q ≡ branch_count a q
  same_count q = ap (λ ls. length (branches_of ls)) (its_lines q) ∙ ap length (over_branches g (transitions_of a q))
      ∙ length_map _ (branches_of (transitions_of a q))

  same_cut : (q : ℕ) → is_cutpoint c q ≡ is_cutpoint a q
  same_cut q = ap₂ (λ (x y : ℕ). (q == x) || nat_lt 1 y) reset (same_count q)

  same_first : (q : ℕ) → first_transition_target (transitions_of c q) ≡ first_transition_target (transitions_of a q)
  same_first q = ap first_transition_target (its_lines q) ∙ first_over g (transitions_of a q)

  same_reach : (n q : ℕ) → reaches_cutpoint c n q ≡ reaches_cutpoint a n q
  same_reach zero q = same_cut q
  same_reach (suc n) q = ap₂ (λ (x y : Bool). x || y) (same_cut q)
      (ap (reaches_cutpoint c n) (same_first q) ∙ same_reach n (first_transition_target (transitions_of a q)))

module _ (b : List (ℕ × List ℕ)) (rs : List (List ℕ)) (p : Source) (sound : IsSound (machine_of p)) (binds : IsBindingOf (variables_of p.declarations) b)
    (are : AreRegisters b rs) where
  abbrev M : Fsmd
  M = machine_of p

  abbrev V : List VarInfo
  V = variables_of p.declarations

  abbrev W : List VarInfo
  W = ws b rs p sound binds are

  abbrev F : ℕ → ℕ
  F = f b rs p sound binds are

  keeps_sort_by : (test : Sort → Bool) (x : ℕ) (t : Bool) → is_bound b x ≡ t → has_sort test (slice_get V x) ≡ true → has_sort test (slice_get W (F x)) ≡ true
  keeps_sort_by test x true e h =
      test_scalar (slice_get W (F x)) test (is_register b V rs binds are sound.variables_differ x e)
      (scalar_test (slice_get V x) test (is_local_of b V rs binds are sound.variables_differ x e) h)
  keeps_sort_by test x false e h = ap (has_sort test) (is_kept b V rs binds are sound.variables_differ x e) ∙ h

  keeps_sort : (test : Sort → Bool) (x : ℕ) → has_sort test (slice_get V x) ≡ true → has_sort test (slice_get W (F x)) ≡ true
  keeps_sort test x h = keeps_sort_by test x (is_bound b x) refl h

  keeps_input_by : (x : ℕ) (t : Bool) → is_bound b x ≡ t → input_at V x ≡ false → input_at W (F x) ≡ false
  keeps_input_by x true e h = local_test (slice_get W (F x)) (is_register b V rs binds are sound.variables_differ x e)
  keeps_input_by x false e h = ap is_input_of (is_kept b V rs binds are sound.variables_differ x e) ∙ h

  module _ (never : (c : Conflict) → IsTwice b (machine_of p) c → ⊥) where
    -- ---- one transition
    module _ (q : ℕ) (inside : q < length M.states) (j : ℕ) (L : Transition ℕ ℕ) (there : slice_get (transitions_of M q) j ≡ Some L) where
      abbrev s : IsSoundTransition V (length M.states) L
      s = sound.transitions_sound q L j there

      one_by : (x y : ℕ) → occurs x (assigned_in L.assignments) ≡ true → occurs y (assigned_in L.assignments) ≡ true → F x ≡ F y → (t u w : Bool)
          → is_bound b x ≡ t → is_bound b y ≡ u → (x == y) ≡ w → x ≡ y
      one_by x y h i e false u w g k z = are_apart b V rs binds are sound.variables_differ x y g e
      one_by x y h i e true false w g k z = sym (are_apart b V rs binds are sound.variables_differ y x k (sym e))
      one_by x y h i e true true true g k z = eqb-true x y z
      one_by x y h i e true true false g k z =
          let r = bound_is b x (register b x) refl g in
          let o = bound_is b y (register b y) refl k in
          let same = shared_register b V rs binds are sound.variables_differ x y r.0 o.0 r.1 o.1 e in
          let a = taken_by (transitions_of M q) j L (sound.open_last q inside) there in
          let c : Conflict = record { state = q; branch = a.branch; written = x; other = y } in
          let shared : IsShared b M c = record {
            numbered = a.numbered;
            shared = r.0;
            written_in = r.1;
            other_in = o.1 ∙ ap (λ (n : List ℕ). Some n) (sym same);
            differ = eqb-false x y z;
            writes = ap (λ (acts : List (Assignment ℕ)). occurs x (assigned_in acts)) a.same ∙ h;
          } in
          absurd (never c (record { shared = shared; both = ap (λ (acts : List (Assignment ℕ)). occurs y (assigned_in acts)) a.same ∙ i }))

      one : (x y : ℕ) → occurs x (assigned_in L.assignments) ≡ true → occurs y (assigned_in L.assignments) ≡ true → F x ≡ F y → x ≡ y
      one x y h i e = one_by x y h i e (is_bound b x) (is_bound b y) (x == y) refl refl refl

      abbrev N : Transition ℕ ℕ
      N = transition_over F (λ r. r) L

      once : all_differ (assigned_in N.assignments) ≡ true
      once = ap all_differ (assigned_over F L.assignments) ∙ still_differ F (assigned_in L.assignments) one s.assigned_once

      faultless : IsFaultless W N.guard N.assignments
      faultless = record {
        scalars = ap (list_all (scalar_at W)) (scalars_over F L)
            ∙ sorts_kept F V W keeps_sort is_scalar (scalars_in_condition L.guard ++ scalars_in_assignments L.assignments) s.scalars;
        arrays = ap (list_all (array_at W)) (arrays_over F L)
            ∙ sorts_kept F V W keeps_sort is_array (arrays_in_condition L.guard ++ arrays_in_assignments L.assignments) s.arrays;
        ports = ap (list_all (port_at W)) (ports_over F L.assignments) ∙ sorts_kept F V W keeps_sort is_port (ports_in_assignments L.assignments) s.ports;
        inputs_stay = inputs_kept F V W (λ x h. keeps_input_by x (is_bound b x) refl h) L.assignments s.inputs_stay;
        assigned_once = once;
        few_emits = let e = emits_over F L.assignments in let few = s.few_emits in omega (arith, e, few);
      }

    -- ---- the machine with registers
    abbrev K : Fsmd
    K = k b rs p sound binds are

    state_count : length K.states ≡ length M.states
    state_count = length_map (state_over F) M.states

    lines_of : (q : ℕ) → transitions_of K q ≡ map (transition_over F (λ r. r)) (transitions_of M q)
    lines_of q = its_lines F M K refl refl q

    old_line : (q j : ℕ) (l : Transition ℕ ℕ) → slice_get (transitions_of K q) j ≡ Some l
        → (L : Transition ℕ ℕ) × ((slice_get (transitions_of M q) j ≡ Some L) × (l ≡ transition_over F (λ r. r) L))
    old_line q j l e = get_mapped (transition_over F (λ r. r)) (transitions_of M q) j l (subst (λ z. slice_get z j ≡ Some l) (lines_of q) e)

    keeps_rules : KeepsRules K
    keeps_rules = record {
      few_variables = let fewer = no_more b V rs binds are sound.variables_differ in let few = sound.few_variables in omega (arith, fewer, few);
      few_states = let few = sound.few_states in omega (arith, few, state_count);
      variables_differ = new_differ b V rs binds are sound.variables_differ;
      states_differ = ap names_differ (map_map (λ (s : State). s.name) (state_over F) M.states) ∙ sound.states_differ;
      reset_in = let low = sound.reset_in in omega (arith, low, state_count);
      faultless = λ q j l e.
          (let o = old_line q j l e in
          subst (λ (z : Transition ℕ ℕ). IsFaultless W z.guard z.assignments) (sym o.1.1) (faultless q (state_in M.states q j o.0 o.1.0) j o.0 o.1.0));
      leads_in = λ q j l e.
          (let o = old_line q j l e in
          let low = (sound.transitions_sound q o.0 j o.1.0).target_in in
          subst (λ (z : Transition ℕ ℕ). z.target < length K.states) (sym o.1.1) (omega (arith, low, state_count)));
      open_last = λ q h. ap ends_open (lines_of q) ∙ open_over F (transitions_of M q) ∙ sound.open_last q (omega (arith, h, state_count));
      few_branches = λ q. (let few = sound.few_branches q in omega (arith, few, same_count F M K refl refl q));
    }

    never_endless : (q : ℕ) → q < length K.states → IsEndless K q → ⊥
    never_endless q h e = not_endless K (length M.states) q
        (same_reach F M K refl refl (length M.states) q ∙ sound.cut q (omega (arith, h, state_count)))
        (passes_no_cutpoint K q e)

    pub bound_lawful : BreaksNoRule (bound_parts b rs p)
    bound_lawful =
        let same = sym (is_k b rs p sound binds are) in
        lawful_where (bound_parts b rs p) (subst (λ (z : Fsmd). KeepsRules z) same keeps_rules)
        (subst (λ (z : Fsmd). (q : ℕ) → q < length z.states → IsEndless z q → ⊥) same never_endless)

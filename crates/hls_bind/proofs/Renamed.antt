-- The machine of the parts in which registers stand for locals.
use Rattle.std.proofs.Common.{◌≡◌, ℕ, suc, List, [], ◌∷◌, ◌++◌, map, ap, ap₂, sym, refl, ◌∙◌, subst, Option, Some, None, Bool, true}
use Rattle.std.specs.Prelude.{slice_get, option_map}
use Rattle.std.specs.List.{list_all, slice_index_or}
use Rattle.std.specs.Option.{unwrap_or}
use Rattle.std.proofs.lemmas.List.Folds.{list_all-append}
use Rattle.std.proofs.lemmas.Option.{slice_get_within}
use Rattle.fs_model.proofs.Booleans.{and_first, and_second}
use Rattle.fs_model.specs.declared.parts.VarInfo.{VarInfo}
use Rattle.fs_model.specs.Expressions.{Expression, Number, Variable, Read, Sum, Difference, Product, Quotient, Remainder, Negative, Guard, Test, Not, And, Or}
use Rattle.fs_model.specs.Expressions.{Assignment}
use Rattle.fs_model.specs.Expressions.{Assign, ArrayWrite, Emit, Transition}
use Rattle.fs_model.specs.Source.{SourceTransition, SourceState, Source}
use Rattle.fs_model.specs.Machines.{Fsmd, State}
use Rattle.fs_model.specs.declared.parts.Sort.{Sort}
use Rattle.fs_model.specs.Runs.{SameBehaviour, is_scalar, is_array, is_port}
use Rattle.fs_model.specs.Renamed.{expression_over, guard_over, assignment_over, transition_over}
use Rattle.fs_model.specs.SoundMachines.{IsSound, scalar_at, array_at, port_at, has_sort, port_in, ports_in_assignments, scalars_in, arrays_in}
use Rattle.fs_model.specs.SoundMachines.{scalars_in_guard}
use Rattle.fs_model.specs.SoundMachines.{arrays_in_guard, scalars_in_condition, arrays_in_condition, scalars_in_assignment, arrays_in_assignment}
use Rattle.fs_model.specs.SoundMachines.{scalars_in_assignments, arrays_in_assignments}
use Rattle.fs_ast.specs.MachineOfParts.{place_or_end, names_of, variables_of, state_names, state_spelled, machine_of}
use Rattle.hls_bind.proofs.RegisterMachines.{state_over, IsBoundBy, NeverClobbers}
use Rattle.hls_bind.specs.Bindings.{register, is_bound, bound_name, transition_renamed, state_renamed, bound_parts, IsBindingOf, AreRegisters}
use Rattle.hls_bind.specs.Conflicts.{Conflict, IsShared, Clobbers}
use Rattle.hls_bind.proofs.BoundRuns.{same_behaviour}
use Rattle.hls_bind.proofs.Looks.{get_place, look_name}
use Rattle.hls_bind.proofs.Variables.{variables_bound, new, name_at, number_for, inside_is, is_kept, is_register, is_local_of, are_apart}
use Rattle.hls_bind.proofs.Variables.{shared_register, same_output, bound_is}

-- ---- one way round and the other
module _ (g g' : List ℕ → ℕ) (r : List ℕ → List ℕ) (f : ℕ → ℕ) (S A P : ℕ → Bool) (as_scalar : (n : List ℕ) → S (g n) ≡ true → g' (r n) ≡ f (g n))
    (as_array : (n : List ℕ) → A (g n) ≡ true → g' (r n) ≡ f (g n)) (as_port : (n : List ℕ) → P (g n) ≡ true → g' (r n) ≡ f (g n)) where
  abbrev Fine : List ℕ → List ℕ → Type 0
  Fine xs ys = (list_all S xs ≡ true) × (list_all A ys ≡ true)

  front : (a b c d : List ℕ) → Fine (a ++ b) (c ++ d) → Fine a c
  front a b c d h = (
    and_first (list_all S a) (list_all S b) (sym (list_all-append S a b) ∙ h.0),
    and_first (list_all A c) (list_all A d) (sym (list_all-append A c d) ∙ h.1),
  )

  back : (a b c d : List ℕ) → Fine (a ++ b) (c ++ d) → Fine b d
  back a b c d h = (
    and_second (list_all S a) (list_all S b) (sym (list_all-append S a b) ∙ h.0),
    and_second (list_all A c) (list_all A d) (sym (list_all-append A c d) ∙ h.1),
  )

  abbrev of_expression : Expression (List ℕ) → Type 0
  of_expression e = Fine (scalars_in (expression_over g e)) (arrays_in (expression_over g e))

  abbrev Turns : Expression (List ℕ) → Type 0
  Turns e = of_expression e → expression_over g' (expression_over r e) ≡ expression_over f (expression_over g e)

  two : (op : Expression ℕ → Expression ℕ → Expression ℕ) (a b : Expression (List ℕ))
      → Fine (scalars_in (expression_over g a) ++ scalars_in (expression_over g b)) (arrays_in (expression_over g a) ++ arrays_in (expression_over g b))
      → Turns a → Turns b
      → op (expression_over g' (expression_over r a)) (expression_over g' (expression_over r b))
      ≡ op (expression_over f (expression_over g a)) (expression_over f (expression_over g b))
  two op a b h p q = ap₂ op (p (front (scalars_in (expression_over g a)) (scalars_in (expression_over g b)) (arrays_in (expression_over g a))
      (arrays_in (expression_over g b)) h))
      (q (back (scalars_in (expression_over g a)) (scalars_in (expression_over g b)) (arrays_in (expression_over g a)) (arrays_in (expression_over g b)) h))

  expression : (e : Expression (List ℕ)) → Turns e
  expression (Number n) h = refl
  expression (Variable x) h = ap (λ (y : ℕ). Variable y) (as_scalar x (and_first (S (g x)) true h.0))
  expression (Read x i) h = ap₂ (λ (y : ℕ) (j : Expression ℕ). Read y j) (as_array x (and_first (A (g x)) (list_all A (arrays_in (expression_over g i))) h.1))
      (expression i (h.0, and_second (A (g x)) (list_all A (arrays_in (expression_over g i))) h.1))
  expression (Sum a b) h = two (λ x y. Sum x y) a b h (expression a) (expression b)
  expression (Difference a b) h = two (λ x y. Difference x y) a b h (expression a) (expression b)
  expression (Product a b) h = two (λ x y. Product x y) a b h (expression a) (expression b)
  expression (Quotient a b) h = two (λ x y. Quotient x y) a b h (expression a) (expression b)
  expression (Remainder a b) h = two (λ x y. Remainder x y) a b h (expression a) (expression b)
  expression (Negative a) h = ap (λ (x : Expression ℕ). Negative x) (expression a h)

  guard : (c : Guard (List ℕ)) → Fine (scalars_in_guard (guard_over g c)) (arrays_in_guard (guard_over g c))
      → guard_over g' (guard_over r c) ≡ guard_over f (guard_over g c)
  guard (Test l) h =
      let i = front (scalars_in (expression_over g l.left)) (scalars_in (expression_over g l.right)) (arrays_in (expression_over g l.left))
      (arrays_in (expression_over g l.right)) h in
      let j = back (scalars_in (expression_over g l.left)) (scalars_in (expression_over g l.right)) (arrays_in (expression_over g l.left))
      (arrays_in (expression_over g l.right)) h in
      ap₂ (λ (x y : Expression ℕ). Test (record { relation = l.relation; left = x; right = y })) (expression l.left i) (expression l.right j)
  guard (Not c) h = ap (λ (d : Guard ℕ). Not d) (guard c h)
  guard (And c d) h =
      let i = front (scalars_in_guard (guard_over g c)) (scalars_in_guard (guard_over g d)) (arrays_in_guard (guard_over g c))
      (arrays_in_guard (guard_over g d)) h in
      let j = back (scalars_in_guard (guard_over g c)) (scalars_in_guard (guard_over g d)) (arrays_in_guard (guard_over g c))
      (arrays_in_guard (guard_over g d)) h in
      ap₂ (λ (x y : Guard ℕ). And x y) (guard c i) (guard d j)
  guard (Or c d) h =
      let i = front (scalars_in_guard (guard_over g c)) (scalars_in_guard (guard_over g d)) (arrays_in_guard (guard_over g c))
      (arrays_in_guard (guard_over g d)) h in
      let j = back (scalars_in_guard (guard_over g c)) (scalars_in_guard (guard_over g d)) (arrays_in_guard (guard_over g c))
      (arrays_in_guard (guard_over g d)) h in
      ap₂ (λ (x y : Guard ℕ). Or x y) (guard c i) (guard d j)

  condition : (c : Option (Guard (List ℕ))) → Fine (scalars_in_condition (option_map (guard_over g) c)) (arrays_in_condition (option_map (guard_over g) c))
      → option_map (guard_over g') (option_map (guard_over r) c) ≡ option_map (guard_over f) (option_map (guard_over g) c)
  condition None h = refl
  condition (Some c) h = ap (λ (d : Guard ℕ). Some d) (guard c h)

  assignment : (a : Assignment (List ℕ)) → Fine (scalars_in_assignment (assignment_over g a)) (arrays_in_assignment (assignment_over g a))
      → list_all P (port_in (assignment_over g a)) ≡ true → assignment_over g' (assignment_over r a) ≡ assignment_over f (assignment_over g a)
  assignment (Assign x e) h o = ap₂ (λ (y : ℕ) (d : Expression ℕ). Assign y d)
      (as_scalar x (and_first (S (g x)) (list_all S (scalars_in (expression_over g e))) h.0))
      (expression e (and_second (S (g x)) (list_all S (scalars_in (expression_over g e))) h.0, h.1))
  assignment (ArrayWrite x i e) h o =
      let inner : Fine (scalars_in (expression_over g i) ++ scalars_in (expression_over g e))
      (arrays_in (expression_over g i) ++ arrays_in (expression_over g e)) =
      (h.0, and_second (A (g x)) (list_all A (arrays_in (expression_over g i) ++ arrays_in (expression_over g e))) h.1) in
      let named = as_array x (and_first (A (g x)) (list_all A (arrays_in (expression_over g i) ++ arrays_in (expression_over g e))) h.1) in
      let u = front (scalars_in (expression_over g i)) (scalars_in (expression_over g e)) (arrays_in (expression_over g i)) (arrays_in (expression_over g e))
      inner in
      let v = back (scalars_in (expression_over g i)) (scalars_in (expression_over g e)) (arrays_in (expression_over g i)) (arrays_in (expression_over g e))
      inner in
      ap (λ (y : ℕ). ArrayWrite y (expression_over g' (expression_over r i)) (expression_over g' (expression_over r e))) named
      ∙ ap₂ (λ (j d : Expression ℕ). ArrayWrite (f (g x)) j d) (expression i u) (expression e v)
  assignment (Emit x e) h o = ap₂ (λ (y : ℕ) (d : Expression ℕ). Emit y d) (as_port x (and_first (P (g x)) true o)) (expression e h)

  assignments : (acts : List (Assignment (List ℕ)))
      → Fine (scalars_in_assignments (map (assignment_over g) acts)) (arrays_in_assignments (map (assignment_over g) acts))
      → list_all P (ports_in_assignments (map (assignment_over g) acts)) ≡ true
      → map (assignment_over g') (map (assignment_over r) acts) ≡ map (assignment_over f) (map (assignment_over g) acts)
  assignments [] h o = refl
  assignments (a ∷ acts) h o =
      let i = front (scalars_in_assignment (assignment_over g a)) (scalars_in_assignments (map (assignment_over g) acts))
      (arrays_in_assignment (assignment_over g a)) (arrays_in_assignments (map (assignment_over g) acts)) h in
      let j = back (scalars_in_assignment (assignment_over g a)) (scalars_in_assignments (map (assignment_over g) acts))
      (arrays_in_assignment (assignment_over g a)) (arrays_in_assignments (map (assignment_over g) acts)) h in
      let e = sym (list_all-append P (port_in (assignment_over g a)) (ports_in_assignments (map (assignment_over g) acts))) ∙ o in
      let here = and_first (list_all P (port_in (assignment_over g a))) (list_all P (ports_in_assignments (map (assignment_over g) acts))) e in
      let later = and_second (list_all P (port_in (assignment_over g a))) (list_all P (ports_in_assignments (map (assignment_over g) acts))) e in
      ap₂ (λ (x : Assignment ℕ) (xs : List (Assignment ℕ)). x ∷ xs) (assignment a i here) (assignments acts j later)

  abbrev pub FineLine : Transition ℕ ℕ → Type 0
  FineLine l = Fine (scalars_in_condition l.guard ++ scalars_in_assignments l.assignments) (arrays_in_condition l.guard ++ arrays_in_assignments l.assignments)
      × (list_all P (ports_in_assignments l.assignments) ≡ true)

  pub line : (to : List ℕ → ℕ) (c : Transition (List ℕ) (List ℕ)) → FineLine (transition_over g to c)
      → transition_over g' to (transition_over r (λ s. s) c) ≡ transition_over f (λ q. q) (transition_over g to c)
  line to c h =
      let l = transition_over g to c in
      ap₂ (λ (x : Option (Guard ℕ)) (ys : List (Assignment ℕ)). record { guard = x; target = to c.target; assignments = ys })
      (condition c.guard
      (front (scalars_in_condition l.guard) (scalars_in_assignments l.assignments) (arrays_in_condition l.guard) (arrays_in_assignments l.assignments) h.0))
      (assignments c.assignments
      (back (scalars_in_condition l.guard) (scalars_in_assignments l.assignments) (arrays_in_condition l.guard) (arrays_in_assignments l.assignments) h.0) h.1)

  lines : (to : List ℕ → ℕ) (ls : List SourceTransition)
      → ((l : Transition ℕ ℕ) (k : ℕ) → slice_get (map (λ c. transition_over g to c.content) ls) k ≡ Some l → FineLine l)
      → map (λ c. transition_over g' to c.content) (map (transition_renamed r) ls)
      ≡ map (transition_over f (λ q. q)) (map (λ c. transition_over g to c.content) ls)
  lines to [] h = refl
  lines to (l ∷ ls) h = ap₂ (λ (x : Transition ℕ ℕ) (xs : List (Transition ℕ ℕ)). x ∷ xs) (line to l.content (h (transition_over g to l.content) 0 refl))
      (lines to ls (λ m k e. h m (suc k) e))

  abbrev spelled_by : (List ℕ → ℕ) → (List ℕ → ℕ) → SourceState → State
  spelled_by h to s = record { name = s.name; transitions = map (λ c. transition_over h to c.content) s.transitions }

  pub states : (to : List ℕ → ℕ) (ss : List SourceState)
      → ((q : ℕ) (l : Transition ℕ ℕ) (k : ℕ) → slice_get (slice_index_or (map (spelled_by g to) ss) q (record { name = []; transitions = [] })).transitions k
      ≡ Some l → FineLine l)
      → map (spelled_by g' to) (map (state_renamed r) ss) ≡ map (state_over f) (map (spelled_by g to) ss)
  states to [] h = refl
  states to (s ∷ ss) h = ap₂ (λ (x : State) (xs : List State). x ∷ xs)
      (ap (λ (ls : List (Transition ℕ ℕ)). record { name = s.name; transitions = ls }) (lines to s.transitions (h 0))) (states to ss (λ q. h (suc q)))

same_states : (r : List ℕ → List ℕ) (ss : List SourceState) → state_names (map (state_renamed r) ss) ≡ state_names ss
same_states r [] = refl
same_states r (s ∷ ss) = ap (λ (ns : List (List ℕ)). s.name ∷ ns) (same_states r ss)

sorted_in : (test : Sort → Bool) (o : Option VarInfo) → has_sort test o ≡ true → (v : VarInfo) × (o ≡ Some v)
sorted_in test None h = absurd (cc h)
sorted_in test (Some v) h = (v, refl)

module _ (b : List (ℕ × List ℕ)) (rs : List (List ℕ)) (p : Source) (sound : IsSound (machine_of p)) (binds : IsBindingOf (variables_of p.declarations) b)
    (are : AreRegisters b rs) where
  abbrev pub m : Fsmd
  m = machine_of p

  abbrev pub vs : List VarInfo
  vs = variables_of p.declarations

  abbrev pub names : List (List ℕ)
  names = names_of vs

  abbrev pub ws : List VarInfo
  ws = new b vs rs binds are sound.variables_differ

  abbrev pub f : ℕ → ℕ
  f = number_for b vs rs binds are sound.variables_differ

  abbrev to : List ℕ → ℕ
  to = place_or_end (state_names p.states)

  pub name_by : (n : List ℕ) (test : Sort → Bool) → has_sort test (slice_get vs (place_or_end names n)) ≡ true
      → place_or_end (names_of ws) (bound_name b names n) ≡ f (place_or_end names n)
  name_by n test h =
      let v = sorted_in test (slice_get vs (place_or_end names n)) h in
      let named : v.0.name ≡ n = look_name vs n v.0 (sym (get_place vs n) ∙ v.1) in
      let at : name_at b vs rs binds are sound.variables_differ (slice_get vs (place_or_end names n)) ≡ n =
      ap (name_at b vs rs binds are sound.variables_differ) v.1 ∙ named in
      sym (inside_is b vs rs binds are sound.variables_differ (place_or_end names n) (slice_get_within vs (place_or_end names n) v.0 v.1)
      ∙ ap (λ (x : List ℕ). place_or_end (names_of ws) (unwrap_or (register b (place_or_end names n)) x)) at)

  states_are : map (state_spelled (names_of ws) (state_names p.states)) (map (state_renamed (bound_name b names)) p.states) ≡ map (state_over f) m.states
  states_are = states (place_or_end names) (place_or_end (names_of ws)) (bound_name b names) f (scalar_at vs) (array_at vs) (port_at vs)
      (λ n h. name_by n is_scalar h)
      (λ n h. name_by n is_array h) (λ n h. name_by n is_port h) to p.states
      (λ q l k e. let s = sound.transitions_sound q l k e in ((s.scalars, s.arrays), s.ports))

  abbrev pub k : Fsmd
  k = record { variables = ws; reset = m.reset; states = map (state_over f) m.states }

  abbrev made : List VarInfo → List (List ℕ) → Fsmd
  made us ns = record {
    variables = us;
    reset = place_or_end ns p.reset;
    states = map (state_spelled (names_of us) ns) (map (state_renamed (bound_name b names)) p.states);
  }

  -- the machine of the parts with registers has the same states over other numbers
  pub is_k : machine_of (bound_parts b rs p) ≡ k
  is_k = ap₂ made (variables_bound b names p.reset_line rs p.declarations) (same_states (bound_name b names) p.states)
      ∙ ap (λ (ss : List State). record { variables = ws; reset = m.reset; states = ss }) states_are

  module _ (sound_k : IsSound (machine_of (bound_parts b rs p))) (safe : (c : Conflict) → Clobbers b (machine_of p) c → ⊥) where
    sound_new : IsSound k
    sound_new = subst (λ (x : Fsmd). IsSound x) is_k sound_k

    bound_by : IsBoundBy f (is_bound b) m k
    bound_by = record {
      reset = refl;
      states = refl;
      locals = is_local_of b vs rs binds are sound.variables_differ;
      registers = is_register b vs rs binds are sound.variables_differ;
      kept = is_kept b vs rs binds are sound.variables_differ;
      apart = are_apart b vs rs binds are sound.variables_differ;
      outputs = λ s t agree name. same_output b vs rs binds are sound.variables_differ s t agree sound_new.variables_differ name;
    }

    never : NeverClobbers f (is_bound b) m
    never = record {
      never = λ q i written other c.
          let r = bound_is b written (register b written) refl c.written_bound in
          let o = bound_is b other (register b other) refl c.other_bound in
          let one = shared_register b vs rs binds are sound.variables_differ written other r.0 o.0 r.1 o.1 c.shared in
          let same : IsShared b m (record { state = q; branch = i; written = written; other = other }) =
          record {
            numbered = c.numbered;
            shared = r.0;
            written_in = r.1;
            other_in = o.1 ∙ ap (λ (n : List ℕ). Some n) (sym one);
            differ = c.differ;
            writes = c.writes;
          } in
          safe (record { state = q; branch = i; written = written; other = other }) (record { shared = same; goes_on = c.goes_on; live = c.live });
    }

    pub bound_parts_behave : SameBehaviour m (machine_of (bound_parts b rs p))
    bound_parts_behave = subst (λ (x : Fsmd). SameBehaviour m x) (sym is_k) (same_behaviour f (is_bound b) m k sound sound_new bound_by never)

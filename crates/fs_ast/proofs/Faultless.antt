-- What breaks no rule: transitions, and lists of them.
use Rattle.std.proofs.Common.{◌≡◌, ℕ, zero, suc, ◌<◌, ◌≤◌, List, [], ◌∷◌, ◌++◌, map, ap, ap₂, refl, ◌∙◌, arith, Bool, true, false}
use Rattle.std.specs.Prelude.{◌&&◌, ◌||◌, not, nat_lt, Option, Some, None, option_map, is_none, is_some, slice_get}
use Rattle.std.specs.List.{list_all, list_any, flat_map}
use Rattle.std.proofs.lemmas.Bool.Decides.{nat_tests}
use Rattle.std.proofs.lemmas.Bool.{or_from, and_from, not-true, lt-ltb, le-ltb}
use Rattle.fs_model.proofs.Booleans.{and_first, and_second}
use Rattle.fs_model.specs.declared.parts.Sort.{Sort}
use Rattle.fs_model.specs.declared.parts.VarInfo.{VarInfo}
use Rattle.fs_model.specs.Limits.{most_emits}
use Rattle.fs_model.specs.Expressions.{Guard, Assignment, Transition}
use Rattle.fs_model.specs.Renamed.{guard_over}
use Rattle.fs_model.specs.Source.{SourceTransition}
use Rattle.fs_model.specs.Runs.{is_scalar, is_array, is_port}
use Rattle.fs_rules.specs.declared.check.CheckRule.{CheckRule}
use Rattle.fs_rules.specs.declared.check.CheckRule.TheVariants.{UnknownName, WrongSort, AssignInput, AssignedTwice, UnknownState, TooManyEmits}
use Rattle.fs_rules.specs.declared.check.CheckFault.{CheckFault}
use Rattle.fs_rules.specs.MachineOfParts.{place_or_end, transition_spelled}
use Rattle.fs_model.specs.SoundMachines.{IsSoundTransition, has_sort, other_sort_at, scalar_at, array_at, port_at, input_at, changed_by, assigned_in}
use Rattle.fs_model.specs.SoundMachines.{all_differ}
use Rattle.fs_model.specs.SoundMachines.{scalars_in_condition, arrays_in_condition, scalars_in_assignments, arrays_in_assignments, ports_in_assignments}
use Rattle.fs_model.specs.SoundMachines.{emit_count}
use Rattle.fs_model.specs.SoundMachines.{is_open, ends_open}
use Rattle.fs_rules.specs.Rules.{broken_where, is_known, uses_unknown, uses_wrong_sort, changes_input, transition_faults, lacks_else, after_else}

-- ---- nothing in a list
pub none_broken : (t : Bool) (r : CheckRule) (n : ℕ) → t ≡ false → broken_where t r n ≡ []
none_broken t r n h = ap (λ c. broken_where c r n) h

pub nil_both : (a b : List CheckFault) → a ≡ [] → b ≡ [] → a ++ b ≡ []
nil_both a b h i = ap₂ (λ (x y : List CheckFault). x ++ y) h i

pub none_flat : {A : Type 0} (g : A → List CheckFault) (xs : List A) → ((j : ℕ) (x : A) → slice_get xs j ≡ Some x → g x ≡ []) → flat_map g xs ≡ []
none_flat g [] h = refl
none_flat g (x ∷ xs) h = nil_both (g x) (flat_map g xs) (h 0 x refl) (none_flat g xs (λ j y e. h (suc j) y e))

-- ---- uses of variables
known_sort : (test : Sort → Bool) (vs : List VarInfo) (x : ℕ) → has_sort test (slice_get vs x) ≡ true
    → (is_known vs x ≡ true) × (other_sort_at test vs x ≡ false)
known_sort test [] x h = absurd (cc h)
known_sort test (v ∷ vs) zero h = (grind (arith, nat_tests), ap not h)
known_sort test (v ∷ vs) (suc x) h =
    let k = known_sort test vs x h in
    let low = k.0 in
    (grind (arith, nat_tests, low), k.1)

module _ (test : Sort → Bool) (vs : List VarInfo) where
  all_known : (xs : List ℕ) → list_all (λ x. has_sort test (slice_get vs x)) xs ≡ true → list_all (is_known vs) xs ≡ true
  all_known [] h = refl
  all_known (x ∷ xs) h =
      and_from (is_known vs x) (list_all (is_known vs) xs)
      (known_sort test vs x (and_first (has_sort test (slice_get vs x)) (list_all (λ y. has_sort test (slice_get vs y)) xs) h)).0
      (all_known xs (and_second (has_sort test (slice_get vs x)) (list_all (λ y. has_sort test (slice_get vs y)) xs) h))

  none_other : (xs : List ℕ) → list_all (λ x. has_sort test (slice_get vs x)) xs ≡ true → list_any (other_sort_at test vs) xs ≡ false
  none_other [] h = refl
  none_other (x ∷ xs) h =
      or_from (other_sort_at test vs x) (list_any (other_sort_at test vs) xs)
      (known_sort test vs x (and_first (has_sort test (slice_get vs x)) (list_all (λ y. has_sort test (slice_get vs y)) xs) h)).1
      (none_other xs (and_second (has_sort test (slice_get vs x)) (list_all (λ y. has_sort test (slice_get vs y)) xs) h))

none_input : (vs : List VarInfo) (acts : List (Assignment ℕ)) → list_all (λ a. not (input_at vs (changed_by a))) acts ≡ true
    → list_any (λ a. input_at vs (changed_by a)) acts ≡ false
none_input vs [] h = refl
none_input vs (a ∷ acts) h =
    or_from (input_at vs (changed_by a)) (list_any (λ c. input_at vs (changed_by c)) acts)
    (not-true (input_at vs (changed_by a)) (and_first (not (input_at vs (changed_by a))) (list_all (λ c. not (input_at vs (changed_by c))) acts) h))
    (none_input vs acts (and_second (not (input_at vs (changed_by a))) (list_all (λ c. not (input_at vs (changed_by c))) acts) h))

-- ---- one transition
-- what a guard, if there is one, and assignments keep, so that a transition with them breaks no rule where its target is a state
pub record IsFaultless (vs : List VarInfo) (guard : Option (Guard ℕ)) (acts : List (Assignment ℕ)) : Type 0 where
  pub scalars : list_all (scalar_at vs) (scalars_in_condition guard ++ scalars_in_assignments acts) ≡ true
  pub arrays : list_all (array_at vs) (arrays_in_condition guard ++ arrays_in_assignments acts) ≡ true
  pub ports : list_all (port_at vs) (ports_in_assignments acts) ≡ true
  pub inputs_stay : list_all (λ a. not (input_at vs (changed_by a))) acts ≡ true
  pub assigned_once : all_differ (assigned_in acts) ≡ true
  pub few_emits : emit_count acts ≤ most_emits

pub of_sound : (vs : List VarInfo) (count : ℕ) (l : Transition ℕ ℕ) → IsSoundTransition vs count l → IsFaultless vs l.guard l.assignments
of_sound vs count l s = record {
  scalars = s.scalars;
  arrays = s.arrays;
  ports = s.ports;
  inputs_stay = s.inputs_stay;
  assigned_once = s.assigned_once;
  few_emits = s.few_emits;
}

module _ (vs : List VarInfo) (l : Transition ℕ ℕ) (w : IsFaultless vs l.guard l.assignments) where
  abbrev scalars_of : List ℕ
  scalars_of = scalars_in_condition l.guard ++ scalars_in_assignments l.assignments

  abbrev arrays_of : List ℕ
  arrays_of = arrays_in_condition l.guard ++ arrays_in_assignments l.assignments

  abbrev ports_of : List ℕ
  ports_of = ports_in_assignments l.assignments

  known : uses_unknown vs l ≡ false
  known =
      ap not
      (and_from (list_all (is_known vs) scalars_of) (list_all (is_known vs) arrays_of && list_all (is_known vs) ports_of)
      (all_known is_scalar vs scalars_of w.scalars)
      (and_from (list_all (is_known vs) arrays_of) (list_all (is_known vs) ports_of) (all_known is_array vs arrays_of w.arrays)
      (all_known is_port vs ports_of w.ports)))

  sorted : uses_wrong_sort vs l ≡ false
  sorted =
      or_from (list_any (other_sort_at is_scalar vs) scalars_of)
      (list_any (other_sort_at is_array vs) arrays_of || list_any (other_sort_at is_port vs) ports_of) (none_other is_scalar vs scalars_of w.scalars)
      (or_from (list_any (other_sort_at is_array vs) arrays_of) (list_any (other_sort_at is_port vs) ports_of) (none_other is_array vs arrays_of w.arrays)
      (none_other is_port vs ports_of w.ports))

  pub none_at_line : (count n : ℕ) → l.target < count → transition_faults vs count n l ≡ []
  none_at_line count n h =
      nil_both (broken_where (uses_unknown vs l) UnknownName n) _ (none_broken (uses_unknown vs l) UnknownName n known)
      (nil_both (broken_where (uses_wrong_sort vs l) WrongSort n) _ (none_broken (uses_wrong_sort vs l) WrongSort n sorted)
      (nil_both (broken_where (changes_input vs l) AssignInput n) _ (none_broken (changes_input vs l) AssignInput n (none_input vs l.assignments w.inputs_stay))
      (nil_both (broken_where (not (all_differ (assigned_in l.assignments))) AssignedTwice n) _
      (none_broken (not (all_differ (assigned_in l.assignments))) AssignedTwice n (ap not w.assigned_once))
      (nil_both (broken_where (not (nat_lt l.target count)) UnknownState n) _
      (none_broken (not (nat_lt l.target count)) UnknownState n (ap not (lt-ltb l.target count h)))
      (none_broken (nat_lt most_emits (emit_count l.assignments)) TooManyEmits n (le-ltb most_emits (emit_count l.assignments) w.few_emits))))))

-- ---- the transitions of a state
unguarded : {A B : Type 0} (f : A → B) (g : Option A) → is_none (option_map f g) ≡ true → is_some g ≡ false
unguarded f None e = refl
unguarded f (Some x) e = absurd (cc e)

guarded : {A B : Type 0} (f : A → B) (g : Option A) → not (is_none (option_map f g)) ≡ true → is_some g ≡ true
guarded f None e = absurd (cc e)
guarded f (Some x) e = refl

module _ (ns ss : List (List ℕ)) where
  pub has_else : (ls : List SourceTransition) → ends_open (map (transition_spelled ns ss) ls) ≡ true → lacks_else ls ≡ false
  has_else [] e = absurd (cc e)
  has_else (l ∷ []) e = unguarded (guard_over (place_or_end ns)) l.content.guard e
  has_else (l ∷ k ∷ ls) e = has_else (k ∷ ls) (and_second (not (is_open (transition_spelled ns ss l))) (ends_open (map (transition_spelled ns ss) (k ∷ ls))) e)

  pub else_last : (ls : List SourceTransition) → ends_open (map (transition_spelled ns ss) ls) ≡ true → after_else false ls ≡ []
  else_last [] e = refl
  else_last (l ∷ []) e = refl
  else_last (l ∷ k ∷ ls) e =
      ap (λ t. after_else (not t) (k ∷ ls))
      (guarded (guard_over (place_or_end ns)) l.content.guard
      (and_first (not (is_open (transition_spelled ns ss l))) (ends_open (map (transition_spelled ns ss) (k ∷ ls))) e))
      ∙ else_last (k ∷ ls) (and_second (not (is_open (transition_spelled ns ss l))) (ends_open (map (transition_spelled ns ss) (k ∷ ls))) e)

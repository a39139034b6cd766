-- The numbers of a machine whose parts are well formed.
use Rattle.std.proofs.Common.{◌≡◌, ℕ, List, [], ◌∷◌, ◌++◌, refl, ◌^◌}
use Rattle.std.specs.Prelude.{ℤ, pos, int_lt, nat_le, Bool, true, not, Option, Some, None, option_map, map}
use Rattle.std.specs.List.{list_all}
use Rattle.std.proofs.lemmas.Bool.{and_parts, and_from}
use Rattle.fs_model.proofs.Booleans.{and_first, and_second}
use Rattle.fs_model.specs.Limits.{most_operators}
use Rattle.fs_model.specs.Expressions.{Expression, Number, Variable, Read, Sum, Difference, Product, Quotient, Remainder, Negative, Guard, Test, Not, And, Or}
use Rattle.fs_model.specs.Expressions.{Assignment}
use Rattle.fs_model.specs.Expressions.{Assign, ArrayWrite, Emit}
use Rattle.fs_model.specs.Renamed.{expression_over, guard_over, assignment_over}
use Rattle.fs_model.specs.Source.{SourceTransition, SourceState, Source}
use Rattle.fs_model.specs.WellFormed.{is_natural_expression, is_natural_guard, is_natural_assignment, operators_of_guard, operators_of_assignment}
use Rattle.fs_model.specs.WellFormed.{is_well_formed_condition, is_well_formed_assignment, is_well_formed_transition, is_well_formed_state}
use Rattle.fs_model.specs.WellFormed.{is_well_formed_declaration, is_well_formed}
use Rattle.fs_rules.specs.MachineOfParts.{variables_of, names_of, state_names, place_or_end, transition_spelled, state_spelled, machine_of}
use Rattle.fs_model.specs.SoundMachines.{numbers_in, numbers_in_guard, numbers_in_condition, numbers_in_assignment, numbers_in_assignments}
use Rattle.fs_model.specs.SoundMachines.{numbers_in_transitions}
use Rattle.fs_model.specs.SoundMachines.{numbers_in_states}
use Rattle.fs_ast.specs.StoredBranches.{KeepsTypes}
use Rattle.fs_ast.proofs.Numbers.{all_both, all_joined}
use Rattle.fs_ast.proofs.Kept.{AreRight}

abbrev is_natural : ℤ → Bool
is_natural n = not (int_lt n (pos 0))

expression : (f : List ℕ → ℕ) (t : Expression (List ℕ)) → is_natural_expression t ≡ true → list_all is_natural (numbers_in (expression_over f t)) ≡ true
expression f (Number n) h = and_from (is_natural n) true h refl
expression f (Variable x) h = refl
expression f (Read x i) h = expression f i h
expression f (Sum a b) h = let p = and_parts (is_natural_expression a) (is_natural_expression b) h in
    all_joined is_natural (numbers_in (expression_over f a)) (numbers_in (expression_over f b)) (expression f a p.0) (expression f b p.1)
expression f (Difference a b) h = let p = and_parts (is_natural_expression a) (is_natural_expression b) h in
    all_joined is_natural (numbers_in (expression_over f a)) (numbers_in (expression_over f b)) (expression f a p.0) (expression f b p.1)
expression f (Product a b) h = let p = and_parts (is_natural_expression a) (is_natural_expression b) h in
    all_joined is_natural (numbers_in (expression_over f a)) (numbers_in (expression_over f b)) (expression f a p.0) (expression f b p.1)
expression f (Quotient a b) h = let p = and_parts (is_natural_expression a) (is_natural_expression b) h in
    all_joined is_natural (numbers_in (expression_over f a)) (numbers_in (expression_over f b)) (expression f a p.0) (expression f b p.1)
expression f (Remainder a b) h = let p = and_parts (is_natural_expression a) (is_natural_expression b) h in
    all_joined is_natural (numbers_in (expression_over f a)) (numbers_in (expression_over f b)) (expression f a p.0) (expression f b p.1)
expression f (Negative a) h = expression f a h

guard : (f : List ℕ → ℕ) (g : Guard (List ℕ)) → is_natural_guard g ≡ true → list_all is_natural (numbers_in_guard (guard_over f g)) ≡ true
guard f (Test l) h = let p = and_parts (is_natural_expression l.left) (is_natural_expression l.right) h in
    all_joined is_natural (numbers_in (expression_over f l.left)) (numbers_in (expression_over f l.right)) (expression f l.left p.0) (expression f l.right p.1)
guard f (Not g) h = guard f g h
guard f (And a b) h = let p = and_parts (is_natural_guard a) (is_natural_guard b) h in
    all_joined is_natural (numbers_in_guard (guard_over f a)) (numbers_in_guard (guard_over f b)) (guard f a p.0) (guard f b p.1)
guard f (Or a b) h = let p = and_parts (is_natural_guard a) (is_natural_guard b) h in
    all_joined is_natural (numbers_in_guard (guard_over f a)) (numbers_in_guard (guard_over f b)) (guard f a p.0) (guard f b p.1)

condition : (f : List ℕ → ℕ) (g : Option (Guard (List ℕ))) → is_well_formed_condition g ≡ true
    → list_all is_natural (numbers_in_condition (option_map (guard_over f) g)) ≡ true
condition f None h = refl
condition f (Some g) h = guard f g (and_first (is_natural_guard g) (nat_le (operators_of_guard g) most_operators) h)

natural_assignment : (f : List ℕ → ℕ) (a : Assignment (List ℕ)) → is_natural_assignment a ≡ true
    → list_all is_natural (numbers_in_assignment (assignment_over f a)) ≡ true
natural_assignment f (Assign x e) h = expression f e h
natural_assignment f (ArrayWrite x i e) h = let p = and_parts (is_natural_expression i) (is_natural_expression e) h in
    all_joined is_natural (numbers_in (expression_over f i)) (numbers_in (expression_over f e)) (expression f i p.0) (expression f e p.1)
natural_assignment f (Emit x e) h = expression f e h

assignments : (f : List ℕ → ℕ) (bs : List (Assignment (List ℕ))) → list_all is_well_formed_assignment bs ≡ true
    → list_all is_natural (numbers_in_assignments (map (assignment_over f) bs)) ≡ true
assignments f [] h = refl
assignments f (a ∷ bs) h =
    let p = and_parts (is_well_formed_assignment a) (list_all is_well_formed_assignment bs) h in
    all_joined is_natural (numbers_in_assignment (assignment_over f a)) (numbers_in_assignments (map (assignment_over f) bs))
    (natural_assignment f a (and_first (is_natural_assignment a) (nat_le (operators_of_assignment a) most_operators) p.0)) (assignments f bs p.1)

lines : (vs ss : List (List ℕ)) (ls : List SourceTransition) → list_all is_well_formed_transition ls ≡ true
    → list_all is_natural (numbers_in_transitions (map (transition_spelled vs ss) ls)) ≡ true
lines vs ss [] h = refl
lines vs ss (l ∷ ls) h =
    let p = and_parts (is_well_formed_transition l) (list_all is_well_formed_transition ls) h in
    let q = and_parts (is_well_formed_condition l.content.guard) (list_all is_well_formed_assignment l.content.assignments) p.0 in
    let f = place_or_end vs in
    all_joined is_natural (numbers_in_condition (option_map (guard_over f) l.content.guard))
    (numbers_in_assignments (map (assignment_over f) l.content.assignments) ++ numbers_in_transitions (map (transition_spelled vs ss) ls))
    (condition f l.content.guard q.0)
    (all_joined is_natural (numbers_in_assignments (map (assignment_over f) l.content.assignments)) (numbers_in_transitions (map (transition_spelled vs ss) ls))
    (assignments f l.content.assignments q.1) (lines vs ss ls p.1))

states : (vs ss : List (List ℕ)) (sts : List SourceState) → list_all is_well_formed_state sts ≡ true
    → list_all is_natural (numbers_in_states (map (state_spelled vs ss) sts)) ≡ true
states vs ss [] h = refl
states vs ss (s ∷ sts) h =
    let p = and_parts (is_well_formed_state s) (list_all is_well_formed_state sts) h in
    all_joined is_natural (numbers_in_transitions (map (transition_spelled vs ss) s.transitions)) (numbers_in_states (map (state_spelled vs ss) sts))
    (lines vs ss s.transitions p.0) (states vs ss sts p.1)

pub right : (p : Source) → is_well_formed p ≡ true → KeepsTypes (machine_of p).variables (machine_of p).states → AreRight p
right p h k = record {
  variables = k.variables_named;
  states = k.states_named;
  numbers = all_both is_natural (λ n. int_lt n (pos (2 ^ 127))) (numbers_in_states (machine_of p).states)
      (states (names_of (variables_of p.declarations)) (state_names p.states) p.states
      (and_second (list_all is_well_formed_declaration p.declarations) (list_all is_well_formed_state p.states) h)) k.numbers_low;
}

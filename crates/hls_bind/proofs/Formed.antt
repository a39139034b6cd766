-- Parts with other names are well formed where the parts are.
use Rattle.std.proofs.Common.{◌≡◌, ℕ, ◌+◌, List, [], ◌∷◌, length, map, ap, ap₂, refl, ◌∙◌, Option, Some, None, Bool, true, false}
use Rattle.std.specs.Prelude.{◌&&◌, ◌||◌, ◌==◌, cond, not, nat_le, option_map}
use Rattle.std.specs.List.{list_all}
use Rattle.std.proofs.lemmas.List.Folds.{list_all-append}
use Rattle.std.proofs.lemmas.Bool.{and_from}
use Rattle.fs_model.proofs.Booleans.{and_first, and_second, and_true}
use Rattle.fs_ast.specs.MachineOfParts.{names_of, variables_of}
use Rattle.fs_model.specs.declared.parts.Role.TheVariants.{Local}
use Rattle.fs_model.specs.declared.parts.Sort.TheVariants.{Scalar}
use Rattle.fs_model.specs.Limits.{most_operators}
use Rattle.fs_model.specs.Expressions.{Expression, Number, Variable, Read, Sum, Difference, Product, Quotient, Remainder, Negative, Guard, Test, Not, And, Or}
use Rattle.fs_model.specs.Expressions.{Assignment}
use Rattle.fs_model.specs.Expressions.{Assign, ArrayWrite, Emit}
use Rattle.fs_model.specs.Renamed.{expression_over, guard_over, assignment_over}
use Rattle.fs_model.specs.Source.{Declaration, SourceTransition, SourceState, Source}
use Rattle.fs_model.specs.WellFormed.{is_sum, is_product, is_and, is_or, bracket, operators_of_expression, operators_of_guard, operators_of_assignment}
use Rattle.fs_model.specs.WellFormed.{is_natural_expression, is_natural_guard, is_natural_assignment, is_well_formed_condition, is_well_formed_assignment}
use Rattle.fs_model.specs.WellFormed.{is_well_formed_transition, is_well_formed_state, is_well_formed_declaration, is_well_formed}
use Rattle.hls_bind.specs.Bindings.{bound_name, declaration_without_bound, remaining_declarations, of_registers, transition_renamed, state_renamed}
use Rattle.hls_bind.specs.Bindings.{bound_parts}

module _ {X Y : Type 0} (f : X → Y) where
  sums : (e : Expression X) → is_sum (expression_over f e) ≡ is_sum e
  sums (Number n) = refl
  sums (Variable x) = refl
  sums (Read x i) = refl
  sums (Sum a b) = refl
  sums (Difference a b) = refl
  sums (Product a b) = refl
  sums (Quotient a b) = refl
  sums (Remainder a b) = refl
  sums (Negative a) = refl

  products : (e : Expression X) → is_product (expression_over f e) ≡ is_product e
  products (Number n) = refl
  products (Variable x) = refl
  products (Read x i) = refl
  products (Sum a b) = refl
  products (Difference a b) = refl
  products (Product a b) = refl
  products (Quotient a b) = refl
  products (Remainder a b) = refl
  products (Negative a) = refl

  compound : (e : Expression X) → (is_sum (expression_over f e) || is_product (expression_over f e)) ≡ (is_sum e || is_product e)
  compound e = ap₂ (λ (c d : Bool). c || d) (sums e) (products e)

  ands : (g : Guard X) → is_and (guard_over f g) ≡ is_and g
  ands (Test l) = refl
  ands (Not g) = refl
  ands (And a b) = refl
  ands (Or a b) = refl

  ors : (g : Guard X) → is_or (guard_over f g) ≡ is_or g
  ors (Test l) = refl
  ors (Not g) = refl
  ors (And a b) = refl
  ors (Or a b) = refl

  joined : (g : Guard X) → (is_and (guard_over f g) || is_or (guard_over f g)) ≡ (is_and g || is_or g)
  joined g = ap₂ (λ (c d : Bool). c || d) (ands g) (ors g)

  -- an operand with its bracket
  operand : (c d : Bool) (m n : ℕ) → c ≡ d → m ≡ n → bracket c + m ≡ bracket d + n
  operand c d m n e h = ap₂ (λ (x : Bool) (y : ℕ). bracket x + y) e h

  suc_sum_equal : (a b c d : ℕ) → a ≡ b → c ≡ d → 1 + (a + c) ≡ 1 + (b + d)
  suc_sum_equal a b c d e h = ap₂ (λ (x y : ℕ). 1 + (x + y)) e h

  operators : (e : Expression X) → operators_of_expression (expression_over f e) ≡ operators_of_expression e
  operators (Number n) = refl
  operators (Variable x) = refl
  operators (Read x i) = ap (λ n. 1 + n) (operators i)
  operators (Sum a b) = suc_sum_equal _ _ _ _ (operators a) (operand _ _ _ _ (sums b) (operators b))
  operators (Difference a b) = suc_sum_equal _ _ _ _ (operators a) (operand _ _ _ _ (sums b) (operators b))
  operators (Product a b) = suc_sum_equal _ _ _ _ (operand _ _ _ _ (sums a) (operators a)) (operand _ _ _ _ (compound b) (operators b))
  operators (Quotient a b) = suc_sum_equal _ _ _ _ (operand _ _ _ _ (sums a) (operators a)) (operand _ _ _ _ (compound b) (operators b))
  operators (Remainder a b) = suc_sum_equal _ _ _ _ (operand _ _ _ _ (sums a) (operators a)) (operand _ _ _ _ (compound b) (operators b))
  operators (Negative a) = ap (λ n. 1 + n) (operand _ _ _ _ (compound a) (operators a))

  guard_operators : (g : Guard X) → operators_of_guard (guard_over f g) ≡ operators_of_guard g
  guard_operators (Test l) = suc_sum_equal _ _ _ _ (operators l.left) (operators l.right)
  guard_operators (Not g) = ap (λ n. 1 + n) (operand _ _ _ _ (joined g) (guard_operators g))
  guard_operators (And a b) = suc_sum_equal _ _ _ _ (operand _ _ _ _ (ors a) (guard_operators a)) (operand _ _ _ _ (joined b) (guard_operators b))
  guard_operators (Or a b) = suc_sum_equal _ _ _ _ (guard_operators a) (operand _ _ _ _ (ors b) (guard_operators b))

  assignment_operators : (a : Assignment X) → operators_of_assignment (assignment_over f a) ≡ operators_of_assignment a
  assignment_operators (Assign x e) = operators e
  assignment_operators (ArrayWrite x i e) = suc_sum_equal _ _ _ _ (operators i) (operators e)
  assignment_operators (Emit x e) = operators e

  both_of : (a b c d : Bool) → a ≡ b → c ≡ d → (a && c) ≡ (b && d)
  both_of a b c d e h = ap₂ (λ (x y : Bool). x && y) e h

  natural : (e : Expression X) → is_natural_expression (expression_over f e) ≡ is_natural_expression e
  natural (Number n) = refl
  natural (Variable x) = refl
  natural (Read x i) = natural i
  natural (Sum a b) = both_of _ _ _ _ (natural a) (natural b)
  natural (Difference a b) = both_of _ _ _ _ (natural a) (natural b)
  natural (Product a b) = both_of _ _ _ _ (natural a) (natural b)
  natural (Quotient a b) = both_of _ _ _ _ (natural a) (natural b)
  natural (Remainder a b) = both_of _ _ _ _ (natural a) (natural b)
  natural (Negative a) = natural a

  natural_guard : (g : Guard X) → is_natural_guard (guard_over f g) ≡ is_natural_guard g
  natural_guard (Test l) = both_of _ _ _ _ (natural l.left) (natural l.right)
  natural_guard (Not g) = natural_guard g
  natural_guard (And a b) = both_of _ _ _ _ (natural_guard a) (natural_guard b)
  natural_guard (Or a b) = both_of _ _ _ _ (natural_guard a) (natural_guard b)

  natural_assignment : (a : Assignment X) → is_natural_assignment (assignment_over f a) ≡ is_natural_assignment a
  natural_assignment (Assign x e) = natural e
  natural_assignment (ArrayWrite x i e) = both_of _ _ _ _ (natural i) (natural e)
  natural_assignment (Emit x e) = natural e

  condition_formed : (g : Option (Guard X)) → is_well_formed_condition (option_map (guard_over f) g) ≡ is_well_formed_condition g
  condition_formed None = refl
  condition_formed (Some g) = ap₂ (λ (x : Bool) (n : ℕ). x && nat_le n most_operators) (natural_guard g) (guard_operators g)

  assignment_formed : (a : Assignment X) → is_well_formed_assignment (assignment_over f a) ≡ is_well_formed_assignment a
  assignment_formed a = ap₂ (λ (x : Bool) (n : ℕ). x && nat_le n most_operators) (natural_assignment a) (assignment_operators a)

  assignments_formed : (acts : List (Assignment X)) → list_all is_well_formed_assignment (map (assignment_over f) acts)
      ≡ list_all is_well_formed_assignment acts
  assignments_formed [] = refl
  assignments_formed (a ∷ acts) = both_of _ _ _ _ (assignment_formed a) (assignments_formed acts)

module _ (r : List ℕ → List ℕ) where
  line_formed : (l : SourceTransition) → is_well_formed_transition (transition_renamed r l) ≡ is_well_formed_transition l
  line_formed l = ap₂ (λ (x y : Bool). x && y) (condition_formed r l.content.guard) (assignments_formed r l.content.assignments)

  lines_formed : (ls : List SourceTransition) → list_all is_well_formed_transition (map (transition_renamed r) ls) ≡ list_all is_well_formed_transition ls
  lines_formed [] = refl
  lines_formed (l ∷ ls) = ap₂ (λ (x y : Bool). x && y) (line_formed l) (lines_formed ls)

  states_formed : (ss : List SourceState) → list_all is_well_formed_state (map (state_renamed r) ss) ≡ list_all is_well_formed_state ss
  states_formed [] = refl
  states_formed (s ∷ ss) = ap₂ (λ (x y : Bool). x && y) (lines_formed s.transitions) (states_formed ss)

-- ---- declarations
left_by : (e t d r : Bool) (x : Declaration) (ds : List Declaration) → not e ≡ t → is_well_formed_declaration x ≡ (not e && d) → d ≡ true
    → list_all is_well_formed_declaration ds ≡ true → list_all is_well_formed_declaration (cond t (x ∷ ds) ds) ≡ true
left_by e true d r x ds h i j k = and_from (is_well_formed_declaration x) (list_all is_well_formed_declaration ds) (i ∙ and_from (not e) d h j) k
left_by e false d r x ds h i j k = k

module _ (b : List (ℕ × List ℕ)) (vs : List (List ℕ)) where
  remaining_formed : (ds : List Declaration) → list_all is_well_formed_declaration ds ≡ true
      → list_all is_well_formed_declaration (remaining_declarations b vs ds) ≡ true
  remaining_formed [] h = refl
  remaining_formed (d ∷ ds) h =
      let w = declaration_without_bound b vs d in
      let here = and_second (not (length d.names == 0)) _ (and_first (is_well_formed_declaration d) (list_all is_well_formed_declaration ds) h) in
      left_by (length w.names == 0) (not (length w.names == 0)) _ true w (remaining_declarations b vs ds) refl refl here
      (remaining_formed ds (and_second (is_well_formed_declaration d) (list_all is_well_formed_declaration ds) h))

registers_by : (t : Bool) (d : Declaration) → (length d.names == 0) ≡ t → is_well_formed_declaration d ≡ not (length d.names == 0)
    → list_all is_well_formed_declaration (cond t [] (d ∷ [])) ≡ true
registers_by true d e h = refl
registers_by false d e h = and_from (is_well_formed_declaration d) true (h ∙ ap not e) refl

registers_formed : (line : ℕ) (rs : List (List ℕ)) → list_all is_well_formed_declaration (of_registers line rs) ≡ true
registers_formed line [] = refl
registers_formed line (r ∷ rs) = registers_by (length (r ∷ rs) == 0) (record { line = line; role = Local; sort = Scalar; names = r ∷ rs }) refl
    (and_true (not (length (r ∷ rs) == 0)))

pub bound_formed : (b : List (ℕ × List ℕ)) (rs : List (List ℕ)) (p : Source) → is_well_formed p ≡ true → is_well_formed (bound_parts b rs p) ≡ true
bound_formed b rs p h =
    let vs = names_of (variables_of p.declarations) in
    let ds = and_first (list_all is_well_formed_declaration p.declarations) (list_all is_well_formed_state p.states) h in
    let ss = and_second (list_all is_well_formed_declaration p.declarations) (list_all is_well_formed_state p.states) h in
    and_from (list_all is_well_formed_declaration (bound_parts b rs p).declarations) (list_all is_well_formed_state (bound_parts b rs p).states)
    (list_all-append is_well_formed_declaration (remaining_declarations b vs p.declarations) (of_registers p.reset_line rs)
    ∙ and_from (list_all is_well_formed_declaration (remaining_declarations b vs p.declarations))
    (list_all is_well_formed_declaration (of_registers p.reset_line rs))
    (remaining_formed b vs p.declarations ds) (registers_formed p.reset_line rs))
    (states_formed (bound_name b vs) p.states ∙ ss)

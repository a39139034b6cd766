-- A machine as a tree of numbers, which gives it back.
use Rattle.std.specs.Prelude.{◌≡◌, ◌==◌, Bool, ℕ, ℤ, pos, negsuc, cond, List, Option, refl}
use Rattle.std.proofs.Common.{sym, ap, ◌∙◌}
use Rattle.std.specs.Coded.{Coded, code_by, coded×, coded_ℕ, coded_bool, coded_list, coded_option}
use base.Stored.{Gv, gnil, gnum, gcons, num}
use Rattle.fs_model.specs.declared.parts.Rel.{Rel}
use Rattle.fs_model.specs.declared.parts.Rel.TheVariants.{Eq, Ne, Lt, Le, Gt, Ge}
use Rattle.fs_model.specs.declared.parts.Role.{Role}
use Rattle.fs_model.specs.declared.parts.Role.TheVariants.{Input, Output, Local}
use Rattle.fs_model.specs.declared.parts.Sort.{Sort}
use Rattle.fs_model.specs.declared.parts.Sort.TheVariants.{Scalar, Array, Port}
use Rattle.fs_model.specs.declared.parts.VarInfo.{VarInfo}
use Rattle.fs_model.specs.Expressions.{Expression, Number, Variable, Read, Sum, Difference, Product, Quotient, Remainder}
use Rattle.fs_model.specs.Expressions.{Negative, Literal}
use Rattle.fs_model.specs.Expressions.{Guard, Test, Not, And, Or, Assignment, Assign, ArrayWrite, Emit, Transition}
use Rattle.fs_model.specs.Machines.{State, Fsmd}
use Rattle.fs_model.specs.Runs.{is_input, is_output, is_scalar, is_array}

-- a relation as a number, and back
abbrev pub rel_number : Rel → ℕ
rel_number r = elim r as (λ _. ℕ) [ Eq ↦ 0 | Ne ↦ 1 | Lt ↦ 2 | Le ↦ 3 | Gt ↦ 4 | Ge ↦ 5 ]

abbrev pub rel_at : ℕ → Rel
rel_at n = cond (n == 0) Eq (cond (n == 1) Ne (cond (n == 2) Lt (cond (n == 3) Le (cond (n == 4) Gt Ge))))

pub rel_back : (r : Rel) → rel_at (rel_number r) ≡ r
rel_back r = elim r as (λ r. rel_at (rel_number r) ≡ r) [ Eq ↦ refl | Ne ↦ refl | Lt ↦ refl | Le ↦ refl | Gt ↦ refl | Ge ↦ refl ]

-- a role and a sort by what they are and are not
pub role_back : (r : Role) → cond (is_input r) Input (cond (is_output r) Output Local) ≡ r
role_back r = elim r as (λ r. cond (is_input r) Input (cond (is_output r) Output Local) ≡ r) [
  | Input ↦ refl
  | Output ↦ refl
  | Local ↦ refl
]

abbrev pub coded_role : Coded Role
coded_role = code_by (Bool × Bool) (coded× coded_bool coded_bool) (λ r. (is_input r, is_output r))
    (λ p. cond p.0 Input (cond p.1 Output Local)) role_back

pub sort_back : (s : Sort) → cond (is_scalar s) Scalar (cond (is_array s) Array Port) ≡ s
sort_back s = elim s as (λ s. cond (is_scalar s) Scalar (cond (is_array s) Array Port) ≡ s) [
  | Scalar ↦ refl
  | Array ↦ refl
  | Port ↦ refl
]

abbrev pub coded_sort : Coded Sort
coded_sort = code_by (Bool × Bool) (coded× coded_bool coded_bool) (λ s. (is_scalar s, is_array s))
    (λ p. cond p.0 Scalar (cond p.1 Array Port)) sort_back

-- a tree of a kind, of which the number is the kind's, and two parts
abbrev pub node : ℕ → Gv → Gv → Gv
node k a b = gcons (gnum k) (gcons a b)

abbrev pub code_int : ℤ → Gv
code_int (pos n) = gcons gnil (gnum n)
code_int (negsuc n) = gcons (gnum 0) (gnum n)

abbrev pub int_at : Gv → ℤ
int_at (gcons gnil n) = pos (num n)
int_at (gcons sign n) = negsuc (num n)
int_at none = pos 0

pub int_back : (x : ℤ) → int_at (code_int x) ≡ x
int_back (pos n) = refl
int_back (negsuc n) = refl

abbrev pub code_expression : Expression ℕ → Gv
code_expression (Number n) = node 0 (code_int n) gnil
code_expression (Variable x) = node 1 (gnum x) gnil
code_expression (Read x i) = node 2 (gnum x) (code_expression i)
code_expression (Sum a b) = node 3 (code_expression a) (code_expression b)
code_expression (Difference a b) = node 4 (code_expression a) (code_expression b)
code_expression (Product a b) = node 5 (code_expression a) (code_expression b)
code_expression (Quotient a b) = node 6 (code_expression a) (code_expression b)
code_expression (Remainder a b) = node 7 (code_expression a) (code_expression b)
code_expression (Negative a) = node 8 (code_expression a) gnil

-- the expression of a kind, by what its parts are as trees and as expressions
abbrev pub expression_of_kind : ℕ → Gv → Expression ℕ → Expression ℕ → Expression ℕ
expression_of_kind k a left right =
    cond (k == 0) (Number (int_at a))
    (cond (k == 1) (Variable (num a)) (cond (k == 2) (Read (num a) right) (cond (k == 3) (Sum left right)
    (cond (k == 4) (Difference left right)
    (cond (k == 5) (Product left right)
    (cond (k == 6) (Quotient left right) (cond (k == 7) (Remainder left right) (Negative left))))))))

abbrev pub expression_at : Gv → Expression ℕ
expression_at (gcons k (gcons a b)) = expression_of_kind (num k) a (expression_at a) (expression_at b)
expression_at none = Variable 0

pub expression_back : (t : Expression ℕ) → expression_at (code_expression t) ≡ t
expression_back (Number n) = ap Number (int_back n)
expression_back (Variable x) = refl
expression_back (Read x i) = ap (Read x) (expression_back i)
expression_back (Sum a b) = λ j. Sum (expression_back a j) (expression_back b j)
expression_back (Difference a b) = λ j. Difference (expression_back a j) (expression_back b j)
expression_back (Product a b) = λ j. Product (expression_back a j) (expression_back b j)
expression_back (Quotient a b) = λ j. Quotient (expression_back a j) (expression_back b j)
expression_back (Remainder a b) = λ j. Remainder (expression_back a j) (expression_back b j)
expression_back (Negative a) = ap Negative (expression_back a)

abbrev pub code_literal : Literal ℕ → Gv
code_literal l = node (rel_number l.relation) (code_expression l.left) (code_expression l.right)

abbrev pub literal_at : Gv → Literal ℕ
literal_at (gcons k (gcons a b)) = record { relation = rel_at (num k); left = expression_at a; right = expression_at b }
literal_at none = record { relation = Eq; left = Variable 0; right = Variable 0 }

pub literal_back : (l : Literal ℕ) → literal_at (code_literal l) ≡ l
literal_back l = λ j. record {
  relation = rel_back l.relation j;
  left = expression_back l.left j;
  right = expression_back l.right
      j;
}

abbrev pub coded_literal : Coded (Literal ℕ)
coded_literal = record { code = code_literal; inj = λ x y e. sym (literal_back x) ∙ ap literal_at e ∙ literal_back y }

abbrev pub code_guard : Guard ℕ → Gv
code_guard (Test l) = node 0 (code_literal l) gnil
code_guard (Not g) = node 1 (code_guard g) gnil
code_guard (And g h) = node 2 (code_guard g) (code_guard h)
code_guard (Or g h) = node 3 (code_guard g) (code_guard h)

abbrev pub guard_of_kind : ℕ → Gv → Guard ℕ → Guard ℕ → Guard ℕ
guard_of_kind k a left right = cond (k == 0) (Test (literal_at a))
    (cond (k == 1) (Not left) (cond (k == 2) (And left right) (Or left right)))

abbrev pub guard_at : Gv → Guard ℕ
guard_at (gcons k (gcons a b)) = guard_of_kind (num k) a (guard_at a) (guard_at b)
guard_at none = Test (literal_at gnil)

pub guard_back : (g : Guard ℕ) → guard_at (code_guard g) ≡ g
guard_back (Test l) = ap Test (literal_back l)
guard_back (Not g) = ap Not (guard_back g)
guard_back (And g h) = λ j. And (guard_back g j) (guard_back h j)
guard_back (Or g h) = λ j. Or (guard_back g j) (guard_back h j)

abbrev pub coded_guard : Coded (Guard ℕ)
coded_guard = record { code = code_guard; inj = λ x y e. sym (guard_back x) ∙ ap guard_at e ∙ guard_back y }

abbrev pub code_assignment : Assignment ℕ → Gv
code_assignment (Assign x e) = gcons (gnum 0) (node x (code_expression e) gnil)
code_assignment (ArrayWrite x i e) = gcons (gnum 1) (node x (code_expression i) (code_expression e))
code_assignment (Emit x e) = gcons (gnum 2) (node x (code_expression e) gnil)

abbrev pub assignment_at : Gv → Assignment ℕ
assignment_at (gcons k (gcons x (gcons a b))) = cond (num k == 0) (Assign (num x) (expression_at a))
    (cond (num k == 1) (ArrayWrite (num x) (expression_at a) (expression_at b)) (Emit (num x) (expression_at a)))
assignment_at none = Emit 0 (Variable 0)

pub assignment_back : (a : Assignment ℕ) → assignment_at (code_assignment a) ≡ a
assignment_back (Assign x e) = ap (Assign x) (expression_back e)
assignment_back (ArrayWrite x i e) = λ j. ArrayWrite x (expression_back i j) (expression_back e j)
assignment_back (Emit x e) = ap (Emit x) (expression_back e)

abbrev pub coded_assignment : Coded (Assignment ℕ)
coded_assignment = record {
  code = code_assignment;
  inj = λ x y e. sym (assignment_back x) ∙ ap assignment_at e ∙ assignment_back y;
}

abbrev pub coded_transition : Coded (Transition ℕ ℕ)
coded_transition =
    code_by (Option (Guard ℕ) × (ℕ × List (Assignment ℕ)))
    (coded× (coded_option coded_guard) (coded× coded_ℕ (coded_list coded_assignment))) (λ l. (l.guard, (l.target, l.assignments)))
    (λ p. record { guard = p.0; target = p.1.0; assignments = p.1.1 }) (λ _. refl)

abbrev pub coded_state : Coded State
coded_state = code_by (List ℕ × List (Transition ℕ ℕ)) (coded× (coded_list coded_ℕ) (coded_list coded_transition))
    (λ s. (s.name, s.transitions)) (λ p. record { name = p.0; transitions = p.1 }) (λ _. refl)

abbrev pub coded_variable : Coded VarInfo
coded_variable = code_by (List ℕ × (Role × Sort)) (coded× (coded_list coded_ℕ) (coded× coded_role coded_sort))
    (λ v. (v.name, (v.role, v.sort))) (λ p. record { name = p.0; role = p.1.0; sort = p.1.1 }) (λ _. refl)

abbrev pub coded_fsmd : Coded Fsmd
coded_fsmd =
    code_by (List VarInfo × (ℕ × List State)) (coded× (coded_list coded_variable) (coded× coded_ℕ (coded_list coded_state)))
    (λ m. (m.variables, (m.reset, m.states))) (λ p. record { variables = p.0; reset = p.1.0; states = p.1.1 }) (λ _. refl)

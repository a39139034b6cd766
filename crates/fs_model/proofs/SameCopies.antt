-- Copies whose variables keep their names.
use Rattle.std.proofs.Common.{◌≡◌, refl, ◌∙◌, ap, ap₂, List, ℕ}
use Rattle.fs_model.specs.declared.parts.Guard.{Guard as DeclaredGuard}
use Rattle.fs_model.specs.declared.parts.Assign.{Assign as DeclaredAssign}
use Rattle.fs_model.specs.Expressions.{Expression, Number, Variable, Read, Sum, Difference, Product, Quotient, Remainder, Negative, Guard, Test, Not, And, Or}
use Rattle.fs_model.specs.Expressions.{Assignment}
use Rattle.fs_model.specs.Expressions.{Assign, ArrayWrite, Emit}
use Rattle.fs_model.specs.View.{guard_by, assignment_by, named_guard, named_assignment}
use Rattle.fs_model.specs.Renamed.{expression_over, guard_over, assignment_over}

expression_kept : {X : Type 0} (t : Expression X) → expression_over (λ x. x) t ≡ t
expression_kept (Number n) = refl
expression_kept (Variable x) = refl
expression_kept (Read x i) = ap (Read x) (expression_kept i)
expression_kept (Sum a b) = ap₂ Sum (expression_kept a) (expression_kept b)
expression_kept (Difference a b) = ap₂ Difference (expression_kept a) (expression_kept b)
expression_kept (Product a b) = ap₂ Product (expression_kept a) (expression_kept b)
expression_kept (Quotient a b) = ap₂ Quotient (expression_kept a) (expression_kept b)
expression_kept (Remainder a b) = ap₂ Remainder (expression_kept a) (expression_kept b)
expression_kept (Negative a) = ap Negative (expression_kept a)

guard_kept : {X : Type 0} (g : Guard X) → guard_over (λ x. x) g ≡ g
guard_kept (Test l) = ap Test (ap₂ (λ (a b : Expression _). record { relation = l.relation; left = a; right = b }) (expression_kept l.left)
    (expression_kept l.right))
guard_kept (Not g) = ap Not (guard_kept g)
guard_kept (And a b) = ap₂ And (guard_kept a) (guard_kept b)
guard_kept (Or a b) = ap₂ Or (guard_kept a) (guard_kept b)

assignment_kept : {X : Type 0} (a : Assignment X) → assignment_over (λ x. x) a ≡ a
assignment_kept (Assign x e) = ap (Assign x) (expression_kept e)
assignment_kept (ArrayWrite x i e) = ap₂ (ArrayWrite x) (expression_kept i) (expression_kept e)
assignment_kept (Emit x e) = ap (Emit x) (expression_kept e)

pub guard_same : (g copy : DeclaredGuard (List ℕ)) → guard_by (λ x. x) copy ≡ guard_over (λ x. x) (guard_by (λ x. x) g) → named_guard copy ≡ named_guard g
guard_same g copy h = h ∙ guard_kept (guard_by (λ x. x) g)

pub assignment_same : (a copy : DeclaredAssign (List ℕ)) → assignment_by (λ x. x) copy ≡ assignment_over (λ x. x) (assignment_by (λ x. x) a)
    → named_assignment copy ≡ named_assignment a
assignment_same a copy h = h ∙ assignment_kept (assignment_by (λ x. x) a)

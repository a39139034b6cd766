-- A view by a function is the view that keeps variables, renamed; renamings compose.
use Rattle.std.proofs.Common.{◌≡◌, refl, sym, ◌∙◌, ap, ap₂}
use Rattle.fs_model.specs.declared.parts.VarId.{VarId}
use Rattle.fs_model.specs.declared.parts.Expr.{Expr}
use Rattle.fs_model.specs.declared.parts.Expr.TheVariants.{Num, Var, Read', Add', Sub', Mul', Div', Rem', Neg'}
use Rattle.fs_model.specs.declared.parts.Lit.{Lit}
use Rattle.fs_model.specs.declared.parts.Guard.{Guard as DeclaredGuard}
use Rattle.fs_model.specs.declared.parts.Guard.TheVariants as guards
use Rattle.fs_model.specs.declared.parts.Assign.{Assign as DeclaredAssign}
use Rattle.fs_model.specs.declared.parts.Assign.TheVariants as assigns
use Rattle.fs_model.specs.Expressions.{Expression, Number, Variable, Read, Sum, Difference, Product, Quotient, Remainder, Negative, Literal, Guard, Test, Not}
use Rattle.fs_model.specs.Expressions.{And, Or}
use Rattle.fs_model.specs.Expressions.{Assignment, Assign, ArrayWrite, Emit}
use Rattle.fs_model.specs.View.{expression_by, literal_by, guard_by, assignment_by, expression_of, literal_of, guard_of, assignment_of}
use Rattle.fs_model.specs.Renamed.{expression_over, literal_over, guard_over, assignment_over}

-- ---- views

pub expression_by_over : {V X : Type 0} (f : V → X) (e : Expr V) → expression_by f e ≡ expression_over f (expression_by (λ x. x) e)
expression_by_over f (Num n) = refl
expression_by_over f (Var x) = refl
expression_by_over f (Read' x p i) = ap (Read (f x)) (expression_by_over f i)
expression_by_over f (Add' p a q b) = ap₂ Sum (expression_by_over f a) (expression_by_over f b)
expression_by_over f (Sub' p a q b) = ap₂ Difference (expression_by_over f a) (expression_by_over f b)
expression_by_over f (Mul' p a q b) = ap₂ Product (expression_by_over f a) (expression_by_over f b)
expression_by_over f (Div' p a q b) = ap₂ Quotient (expression_by_over f a) (expression_by_over f b)
expression_by_over f (Rem' p a q b) = ap₂ Remainder (expression_by_over f a) (expression_by_over f b)
expression_by_over f (Neg' p a) = ap Negative (expression_by_over f a)

pub literal_by_over : {V X : Type 0} (f : V → X) (l : Lit V) → literal_by f l ≡ literal_over f (literal_by (λ x. x) l)
literal_by_over f l = ap₂ (λ (a b : Expression _). record { relation = l.rel; left = a; right = b }) (expression_by_over f l.left)
    (expression_by_over f l.right)

pub guard_by_over : {V X : Type 0} (f : V → X) (g : DeclaredGuard V) → guard_by f g ≡ guard_over f (guard_by (λ x. x) g)
guard_by_over f (guards.Lit l) = ap Test (literal_by_over f l)
guard_by_over f (guards.Not' p g) = ap Not (guard_by_over f g)
guard_by_over f (guards.And' p a q b) = ap₂ And (guard_by_over f a) (guard_by_over f b)
guard_by_over f (guards.Or' p a q b) = ap₂ Or (guard_by_over f a) (guard_by_over f b)

pub assignment_by_over : {V X : Type 0} (f : V → X) (a : DeclaredAssign V) → assignment_by f a ≡ assignment_over f (assignment_by (λ x. x) a)
assignment_by_over f (assigns.Set x e) = ap (Assign (f x)) (expression_by_over f e)
assignment_by_over f (assigns.Put x i e) = ap₂ (ArrayWrite (f x)) (expression_by_over f i) (expression_by_over f e)
assignment_by_over f (assigns.Emit x e) = ap (Emit (f x)) (expression_by_over f e)

-- ---- one renaming after another

pub expression_over_over : {X Y Z : Type 0} (g : Y → Z) (f : X → Y) (t : Expression X)
    → expression_over g (expression_over f t) ≡ expression_over (λ x. g (f x)) t
expression_over_over g f (Number n) = refl
expression_over_over g f (Variable x) = refl
expression_over_over g f (Read x i) = ap (Read (g (f x))) (expression_over_over g f i)
expression_over_over g f (Sum a b) = ap₂ Sum (expression_over_over g f a) (expression_over_over g f b)
expression_over_over g f (Difference a b) = ap₂ Difference (expression_over_over g f a) (expression_over_over g f b)
expression_over_over g f (Product a b) = ap₂ Product (expression_over_over g f a) (expression_over_over g f b)
expression_over_over g f (Quotient a b) = ap₂ Quotient (expression_over_over g f a) (expression_over_over g f b)
expression_over_over g f (Remainder a b) = ap₂ Remainder (expression_over_over g f a) (expression_over_over g f b)
expression_over_over g f (Negative a) = ap Negative (expression_over_over g f a)

pub literal_over_over : {X Y Z : Type 0} (g : Y → Z) (f : X → Y) (l : Literal X) → literal_over g (literal_over f l) ≡ literal_over (λ x. g (f x)) l
literal_over_over g f l = ap₂ (λ (a b : Expression _). record { relation = l.relation; left = a; right = b }) (expression_over_over g f l.left)
    (expression_over_over g f l.right)

pub guard_over_over : {X Y Z : Type 0} (g : Y → Z) (f : X → Y) (c : Guard X) → guard_over g (guard_over f c) ≡ guard_over (λ x. g (f x)) c
guard_over_over g f (Test l) = ap Test (literal_over_over g f l)
guard_over_over g f (Not c) = ap Not (guard_over_over g f c)
guard_over_over g f (And a b) = ap₂ And (guard_over_over g f a) (guard_over_over g f b)
guard_over_over g f (Or a b) = ap₂ Or (guard_over_over g f a) (guard_over_over g f b)

pub assignment_over_over : {X Y Z : Type 0} (g : Y → Z) (f : X → Y) (a : Assignment X)
    → assignment_over g (assignment_over f a) ≡ assignment_over (λ x. g (f x)) a
assignment_over_over g f (Assign x e) = ap (Assign (g (f x))) (expression_over_over g f e)
assignment_over_over g f (ArrayWrite x i e) = ap₂ (ArrayWrite (g (f x))) (expression_over_over g f i) (expression_over_over g f e)
assignment_over_over g f (Emit x e) = ap (Emit (g (f x))) (expression_over_over g f e)

-- ---- what a copy whose variables were renamed is, seen by a function

pub expression_renamed : {V W X : Type 0} (f : V → W) (g : W → X) (e : Expr V) (copy : Expr W)
    → expression_by (λ x. x) copy ≡ expression_over f (expression_by (λ x. x) e)
    → expression_by g copy ≡ expression_over (λ x. g (f x)) (expression_by (λ x. x) e)
expression_renamed f g e copy h = expression_by_over g copy ∙ ap (expression_over g) h ∙ expression_over_over g f (expression_by (λ x. x) e)

pub literal_renamed : {V W X : Type 0} (f : V → W) (g : W → X) (l : Lit V) (copy : Lit W) → literal_by (λ x. x) copy ≡ literal_over f (literal_by (λ x. x) l)
    → literal_by g copy ≡ literal_over (λ x. g (f x)) (literal_by (λ x. x) l)
literal_renamed f g l copy h = literal_by_over g copy ∙ ap (literal_over g) h ∙ literal_over_over g f (literal_by (λ x. x) l)

pub guard_renamed : {V W X : Type 0} (f : V → W) (g : W → X) (c : DeclaredGuard V) (copy : DeclaredGuard W)
    → guard_by (λ x. x) copy ≡ guard_over f (guard_by (λ x. x) c) → guard_by g copy ≡ guard_over (λ x. g (f x)) (guard_by (λ x. x) c)
guard_renamed f g c copy h = guard_by_over g copy ∙ ap (guard_over g) h ∙ guard_over_over g f (guard_by (λ x. x) c)

pub assignment_renamed : {V W X : Type 0} (f : V → W) (g : W → X) (a : DeclaredAssign V) (copy : DeclaredAssign W)
    → assignment_by (λ x. x) copy ≡ assignment_over f (assignment_by (λ x. x) a)
    → assignment_by g copy ≡ assignment_over (λ x. g (f x)) (assignment_by (λ x. x) a)
assignment_renamed f g a copy h = assignment_by_over g copy ∙ ap (assignment_over g) h ∙ assignment_over_over g f (assignment_by (λ x. x) a)

-- ---- copies over the numbers of variables

pub expression_copied : (e copy : Expr VarId) → expression_by (λ x. x) copy ≡ expression_over (λ x. x) (expression_by (λ x. x) e)
    → expression_of copy ≡ expression_of e
expression_copied e copy h = expression_renamed (λ x. x) (λ (x : VarId). x.0) e copy h ∙ sym (expression_by_over (λ (x : VarId). x.0) e)

pub literal_copied : (l copy : Lit VarId) → literal_by (λ x. x) copy ≡ literal_over (λ x. x) (literal_by (λ x. x) l) → literal_of copy ≡ literal_of l
literal_copied l copy h = literal_renamed (λ x. x) (λ (x : VarId). x.0) l copy h ∙ sym (literal_by_over (λ (x : VarId). x.0) l)

pub guard_copied : (c copy : DeclaredGuard VarId) → guard_by (λ x. x) copy ≡ guard_over (λ x. x) (guard_by (λ x. x) c) → guard_of copy ≡ guard_of c
guard_copied c copy h = guard_renamed (λ x. x) (λ (x : VarId). x.0) c copy h ∙ sym (guard_by_over (λ (x : VarId). x.0) c)

pub assignment_copied : (a copy : DeclaredAssign VarId) → assignment_by (λ x. x) copy ≡ assignment_over (λ x. x) (assignment_by (λ x. x) a)
    → assignment_of copy ≡ assignment_of a
assignment_copied a copy h = assignment_renamed (λ x. x) (λ (x : VarId). x.0) a copy h ∙ sym (assignment_by_over (λ (x : VarId). x.0) a)

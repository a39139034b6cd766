-- The plain data that the types of src/ stand for.
use Rattle.std.specs.Prelude.{ℕ, List, map, option_map}
use Rattle.std.specs.declared.rc.Rc.{Rc}
use Rattle.fs_model.specs.declared.parts.VarId.{VarId}
use Rattle.fs_model.specs.declared.parts.Expr.{Expr}
use Rattle.fs_model.specs.declared.parts.Expr.TheVariants.{Num, Var, Read', Add', Sub', Mul', Div', Rem', Neg'}
use Rattle.fs_model.specs.declared.parts.Lit.{Lit}
use Rattle.fs_model.specs.declared.parts.Guard.{Guard as DeclaredGuard}
use Rattle.fs_model.specs.declared.parts.Guard.TheVariants as guards
use Rattle.fs_model.specs.declared.parts.Assign.{Assign}
use Rattle.fs_model.specs.declared.parts.Assign.TheVariants.{Set, Put, Emit}
use Rattle.fs_model.specs.declared.parts.Decl.{Decl}
use Rattle.fs_model.specs.declared.parts.RawLine.{RawLine}
use Rattle.fs_model.specs.declared.parts.RawState.{RawState}
use Rattle.fs_model.specs.declared.parts.Parts.{Parts}
use Rattle.fs_model.specs.declared.parts.Branch.{Branch}
use Rattle.fs_model.specs.Expressions.{Expression, Number, Variable, Read, Sum, Difference, Product, Quotient, Remainder}
use Rattle.fs_model.specs.Expressions.{Negative, Literal}
use Rattle.fs_model.specs.Expressions.{Guard, Test, Not, And, Or, Assignment, Assign as assigned, ArrayWrite as written}
use Rattle.fs_model.specs.Expressions.{Emit as emitted}
use Rattle.fs_model.specs.Source.{Declaration, SourceTransition, SourceState, Source}
use Rattle.fs_model.specs.Trees.{Branch as Leaf}

-- what an expression says, where f tells its variables
abbrev pub expression_by : {V X : Type 0} → (V → X) → Expr V → Expression X
expression_by f (Num n) = Number n
expression_by f (Var x) = Variable (f x)
expression_by f (Read' x p i) = Read (f x) (expression_by f i)
expression_by f (Add' p a q b) = Sum (expression_by f a) (expression_by f b)
expression_by f (Sub' p a q b) = Difference (expression_by f a) (expression_by f b)
expression_by f (Mul' p a q b) = Product (expression_by f a) (expression_by f b)
expression_by f (Div' p a q b) = Quotient (expression_by f a) (expression_by f b)
expression_by f (Rem' p a q b) = Remainder (expression_by f a) (expression_by f b)
expression_by f (Neg' p a) = Negative (expression_by f a)

abbrev pub literal_by : {V X : Type 0} → (V → X) → Lit V → Literal X
literal_by f l = record { relation = l.rel; left = expression_by f l.left; right = expression_by f l.right }

abbrev pub guard_by : {V X : Type 0} → (V → X) → DeclaredGuard V → Guard X
guard_by f (guards.Lit l) = Test (literal_by f l)
guard_by f (guards.Not' p g) = Not (guard_by f g)
guard_by f (guards.And' p a q b) = And (guard_by f a) (guard_by f b)
guard_by f (guards.Or' p a q b) = Or (guard_by f a) (guard_by f b)

abbrev pub assignment_by : {V X : Type 0} → (V → X) → Assign V → Assignment X
assignment_by f (Set x e) = assigned (f x) (expression_by f e)
assignment_by f (Put x i e) = written (f x) (expression_by f i) (expression_by f e)
assignment_by f (Emit x e) = emitted (f x) (expression_by f e)

-- over names
abbrev pub named_expression : Expr (List ℕ) → Expression (List ℕ)
named_expression e = expression_by (λ x. x) e

abbrev pub named_guard : DeclaredGuard (List ℕ) → Guard (List ℕ)
named_guard g = guard_by (λ x. x) g

abbrev pub named_assignment : Assign (List ℕ) → Assignment (List ℕ)
named_assignment a = assignment_by (λ x. x) a

-- over the numbers of variables
abbrev pub expression_of : Expr VarId → Expression ℕ
expression_of e = expression_by (λ x. x.0) e

abbrev pub literal_of : Lit VarId → Literal ℕ
literal_of l = literal_by (λ x. x.0) l

abbrev pub guard_of : DeclaredGuard VarId → Guard ℕ
guard_of g = guard_by (λ x. x.0) g

abbrev pub assignment_of : Assign VarId → Assignment ℕ
assignment_of a = assignment_by (λ x. x.0) a

-- what a shared literal says
abbrev pub shared_literal_of : {A : Type 0} → Rc (Lit VarId) A → Literal ℕ
shared_literal_of l = literal_of l.value

abbrev pub branch_of : Branch → Leaf
branch_of b = record {
  literals = map shared_literal_of b.lits.items;
  assignments = map assignment_of b.assigns.value.items;
  target = b.target.0;
}

abbrev pub declaration_of : Decl → Declaration
declaration_of d = record { line = d.line; role = d.role; sort = d.sort; names = d.names.items }

abbrev pub source_transition_of : RawLine → SourceTransition
source_transition_of l = record {
  line = l.line;
  content = record {
    guard = option_map named_guard l.guard;
    target = l.target;
    assignments = map named_assignment l.assigns.items;
  };
}

abbrev pub source_state_of : RawState → SourceState
source_state_of s = record { line = s.line; name = s.name; transitions = map source_transition_of s.lines.items }

abbrev pub source_of : Parts → Source
source_of p = record {
  declarations = map declaration_of p.decls.items;
  reset_line = p.reset_line;
  reset = p.reset;
  states = map source_state_of p.states.items;
}

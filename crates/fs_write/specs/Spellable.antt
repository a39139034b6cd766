-- Parts over names and numbers that a text can spell.
use Rattle.std.specs.Prelude.{ℕ, ◌^◌, Bool, true, ◌&&◌, pos, int_lt, Option, Some, None, List}
use Rattle.std.specs.List.{list_all}
use Rattle.fs_model.specs.Words.{is_name}
use Rattle.fs_model.specs.Expressions.{Expression, Number, Variable, Read, Sum, Difference, Product, Quotient, Remainder}
use Rattle.fs_model.specs.Expressions.{Negative, Guard}
use Rattle.fs_model.specs.Expressions.{Test, Not, And, Or, Assignment, Assign, ArrayWrite, Emit}
use Rattle.fs_model.specs.Source.{Declaration, SourceTransition, SourceState, Source}

-- each name is a name, and no number is above 2^127 - 1
abbrev pub is_spellable_expression : Expression (List ℕ) → Bool
is_spellable_expression (Number n) = int_lt n (pos (2 ^ 127))
is_spellable_expression (Variable x) = is_name x
is_spellable_expression (Read x i) = is_name x && is_spellable_expression i
is_spellable_expression (Sum a b) = is_spellable_expression a && is_spellable_expression b
is_spellable_expression (Difference a b) = is_spellable_expression a && is_spellable_expression b
is_spellable_expression (Product a b) = is_spellable_expression a && is_spellable_expression b
is_spellable_expression (Quotient a b) = is_spellable_expression a && is_spellable_expression b
is_spellable_expression (Remainder a b) = is_spellable_expression a && is_spellable_expression b
is_spellable_expression (Negative a) = is_spellable_expression a

-- the same of a guard
abbrev pub is_spellable_guard : Guard (List ℕ) → Bool
is_spellable_guard (Test l) = is_spellable_expression l.left && is_spellable_expression l.right
is_spellable_guard (Not g) = is_spellable_guard g
is_spellable_guard (And a b) = is_spellable_guard a && is_spellable_guard b
is_spellable_guard (Or a b) = is_spellable_guard a && is_spellable_guard b

-- the same of an assignment
abbrev pub is_spellable_assignment : Assignment (List ℕ) → Bool
is_spellable_assignment (Assign x e) = is_name x && is_spellable_expression e
is_spellable_assignment (ArrayWrite x i e) = is_name x && (is_spellable_expression i && is_spellable_expression e)
is_spellable_assignment (Emit x e) = is_name x && is_spellable_expression e

-- the same of what may be a guard
abbrev pub is_spellable_condition : Option (Guard (List ℕ)) → Bool
is_spellable_condition None = true
is_spellable_condition (Some g) = is_spellable_guard g

-- the same of a transition
abbrev pub is_spellable_transition : SourceTransition → Bool
is_spellable_transition l = is_spellable_condition l.content.guard
    && (is_name l.content.target && list_all is_spellable_assignment l.content.assignments)

-- the same of a state
abbrev pub is_spellable_state : SourceState → Bool
is_spellable_state s = is_name s.name && list_all is_spellable_transition s.transitions

-- the same of a declaration
abbrev pub is_spellable_declaration : Declaration → Bool
is_spellable_declaration d = list_all is_name d.names

-- each name of the parts is a name, and no number is above 2^127 - 1
abbrev pub is_spellable : Source → Bool
is_spellable s = list_all is_spellable_declaration s.declarations && (is_name s.reset && list_all is_spellable_state s.states)

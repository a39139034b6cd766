-- Programs that keep the rules and limits of texts, lines aside.
use Rattle.std.specs.Prelude.{ℕ, suc, max, nat_le, Bool, true, false, not, ◌&&◌, List, [], ◌∷◌, codes, pos, int_lt}
use Rattle.std.specs.List.{list_all, list_any}
use Rattle.std.specs.Str.{bytes_eq}
use Rattle.fs_model.specs.Expressions.{Expression, Number, Variable, Read, Sum, Difference, Product, Quotient, Remainder}
use Rattle.fs_model.specs.Expressions.{Negative, Guard}
use Rattle.fs_model.specs.Expressions.{Test, Not, And, Or, Assignment, Assign, ArrayWrite, Emit}
use Rattle.fs_model.specs.Source.{Declaration}
use Rattle.fs_model.specs.Runs.{is_port}
use Rattle.fs_model.specs.Limits.{most_operators}
use Rattle.fs_model.specs.WellFormed.{operators_of_guard, operators_of_assignment, is_well_formed_declaration}
use Rattle.hls_program_parts.specs.Programs.{Block, End, Do, If, While, Program}

-- the deepest that a block may stand in others; the outermost block has the depth 0
abbrev pub most_depth : ℕ
most_depth = 64

-- the words of programs that are no names in them, beside those of machine texts
abbrev pub program_words : List (List ℕ)
program_words = codes "prog" ∷ codes "if" ∷ codes "else" ∷ codes "while" ∷ []

abbrev pub is_free : List ℕ → Bool
is_free name = not (list_any (bytes_eq name) program_words)

-- no number of an expression is negative, and its names are no words of programs
abbrev pub is_program_expression : Expression (List ℕ) → Bool
is_program_expression (Number n) = not (int_lt n (pos 0))
is_program_expression (Variable x) = is_free x
is_program_expression (Read x i) = is_free x && is_program_expression i
is_program_expression (Sum a b) = is_program_expression a && is_program_expression b
is_program_expression (Difference a b) = is_program_expression a && is_program_expression b
is_program_expression (Product a b) = is_program_expression a && is_program_expression b
is_program_expression (Quotient a b) = is_program_expression a && is_program_expression b
is_program_expression (Remainder a b) = is_program_expression a && is_program_expression b
is_program_expression (Negative a) = is_program_expression a

-- the same of the expressions of a guard
abbrev pub has_program_expressions : Guard (List ℕ) → Bool
has_program_expressions (Test l) = is_program_expression l.left && is_program_expression l.right
has_program_expressions (Not g) = has_program_expressions g
has_program_expressions (And a b) = has_program_expressions a && has_program_expressions b
has_program_expressions (Or a b) = has_program_expressions a && has_program_expressions b

-- the same of an assignment; nothing is emitted, since a program has no ports
abbrev pub assigns_program_expressions : Assignment (List ℕ) → Bool
assigns_program_expressions (Assign x e) = is_free x && is_program_expression e
assigns_program_expressions (ArrayWrite x i e) = is_free x && (is_program_expression i && is_program_expression e)
assigns_program_expressions (Emit x e) = false

-- with few enough operators and opening brackets
abbrev pub is_program_guard : Guard (List ℕ) → Bool
is_program_guard g = has_program_expressions g && nat_le (operators_of_guard g) most_operators

abbrev pub is_program_assignment : Assignment (List ℕ) → Bool
is_program_assignment a = assigns_program_expressions a && nat_le (operators_of_assignment a) most_operators

-- a declaration declares scalars or arrays
abbrev pub is_program_declaration : Declaration → Bool
is_program_declaration d = is_well_formed_declaration d && (not (is_port d.sort) && list_all is_free d.names)

-- each guard and each assignment is one of a program
abbrev pub is_program_block : Block (List ℕ) → Bool
is_program_block End = true
is_program_block (Do line a rest) = is_program_assignment a && is_program_block rest
is_program_block (If line g on_yes on_no rest) = is_program_guard g
    && (is_program_block on_yes && (is_program_block on_no && is_program_block rest))
is_program_block (While line g body rest) = is_program_guard g && (is_program_block body && is_program_block rest)

-- how deep the deepest block in a block stands in it; 0 where there is none
abbrev pub depth : {X : Type 0} → Block X → ℕ
depth End = 0
depth (Do line a rest) = depth rest
depth (If line g on_yes on_no rest) = max (suc (max (depth on_yes) (depth on_no))) (depth rest)
depth (While line g body rest) = max (suc (depth body)) (depth rest)

abbrev pub is_well_formed_program : Program → Bool
is_well_formed_program p = list_all is_program_declaration p.declarations
    && (is_program_block p.body && nat_le (depth p.body) most_depth)

-- The canonical text of the parts of a machine.
use Rattle.std.specs.Prelude.{ℕ, Bool, ◌||◌, cond, Option, Some, None, List, [], ◌∷◌, ◌++◌, map, codes}
use Rattle.std.specs.List.{flat_map}
use Rattle.std.specs.Fmt.{signed_decimal}
use Rattle.fs_model.specs.declared.parts.Rel.{Rel}
use Rattle.fs_model.specs.declared.parts.Rel.TheVariants.{Eq, Ne, Lt, Le, Gt, Ge}
use Rattle.fs_model.specs.declared.parts.Role.{Role}
use Rattle.fs_model.specs.declared.parts.Role.TheVariants.{Input, Output, Local}
use Rattle.fs_model.specs.declared.parts.Sort.{Sort}
use Rattle.fs_model.specs.declared.parts.Sort.TheVariants as sorts
use Rattle.fs_model.specs.Expressions.{Expression, Number, Variable, Read, Sum, Difference, Product, Quotient, Remainder}
use Rattle.fs_model.specs.Expressions.{Negative, Guard}
use Rattle.fs_model.specs.Expressions.{Test, Not, And, Or, Assignment, Assign, ArrayWrite, Emit}
use Rattle.fs_model.specs.Source.{Declaration, SourceTransition, SourceState, Source}
use Rattle.fs_model.specs.WellFormed.{is_sum, is_product, is_and, is_or}
use Rattle.fs_grammar.specs.declared.format.Format.{Format}
use Rattle.fs_grammar.specs.declared.format.Format.TheVariants.{One, Two}
use Rattle.fs_write.specs.NeededFormats.{format_for}

-- a bracket that stands only where it is needed
abbrev pub bracket_text : Bool → List ℕ → List ℕ
bracket_text needed bracket = cond needed bracket []

-- a text in parentheses, where they are needed
abbrev pub in_parens : Bool → List ℕ → List ℕ
in_parens needed text = bracket_text needed (codes "(") ++ (text ++ bracket_text needed (codes ")"))

-- a text in braces, where they are needed
abbrev pub in_braces : Bool → List ℕ → List ℕ
in_braces needed text = bracket_text needed (codes "{") ++ (text ++ bracket_text needed (codes "}"))

-- an operator between two operands
abbrev pub operator_text : Expression (List ℕ) → List ℕ
operator_text (Sum a b) = codes " + "
operator_text (Difference a b) = codes " - "
operator_text (Product a b) = codes " * "
operator_text (Quotient a b) = codes " / "
operator_text (Remainder a b) = codes " % "
operator_text _ = []

-- an expression, with a space on each side of an operator between two operands
abbrev pub infix_expression_text : Expression (List ℕ) → List ℕ
infix_expression_text (Number n) = signed_decimal n
infix_expression_text (Variable x) = x
infix_expression_text (Read x i) = x ++ (codes "[" ++ (infix_expression_text i ++ codes "]"))
infix_expression_text (Sum a b) = infix_expression_text a ++ (codes " + " ++ in_parens (is_sum b) (infix_expression_text b))
infix_expression_text (Difference a b) = infix_expression_text a ++ (codes " - " ++ in_parens (is_sum b) (infix_expression_text b))
infix_expression_text (Product a b) = in_parens (is_sum a) (infix_expression_text a)
    ++ (codes " * " ++ in_parens (is_sum b || is_product b) (infix_expression_text b))
infix_expression_text (Quotient a b) = in_parens (is_sum a) (infix_expression_text a)
    ++ (codes " / " ++ in_parens (is_sum b || is_product b) (infix_expression_text b))
infix_expression_text (Remainder a b) = in_parens (is_sum a) (infix_expression_text a)
    ++ (codes " % " ++ in_parens (is_sum b || is_product b) (infix_expression_text b))
infix_expression_text (Negative a) = codes "-" ++ in_parens (is_sum a || is_product a) (infix_expression_text a)

-- a relation, with a space on each side
abbrev pub relation_text : Rel → List ℕ
relation_text Eq = codes " == "
relation_text Ne = codes " != "
relation_text Lt = codes " < "
relation_text Le = codes " <= "
relation_text Gt = codes " > "
relation_text Ge = codes " >= "

-- a guard
abbrev pub guard_text : Guard (List ℕ) → List ℕ
guard_text (Test l) = infix_expression_text l.left ++ (relation_text l.relation ++ infix_expression_text l.right)
guard_text (Not g) = codes "!" ++ in_braces (is_and g || is_or g) (guard_text g)
guard_text (And a b) = in_braces (is_or a) (guard_text a) ++ (codes " && " ++ in_braces (is_and b || is_or b) (guard_text b))
guard_text (Or a b) = guard_text a ++ (codes " || " ++ in_braces (is_or b) (guard_text b))

-- an assignment to a scalar, or to an array at an index, or an emit to a port
abbrev pub assignment_text : Assignment (List ℕ) → List ℕ
assignment_text (Assign x e) = x ++ (codes " = " ++ infix_expression_text e)
assignment_text (ArrayWrite x i e) = x ++ (codes "[" ++ (infix_expression_text i ++ (codes "] = " ++ infix_expression_text e)))
assignment_text (Emit x e) = codes "emit " ++ (x ++ (codes " " ++ infix_expression_text e))

-- a text that is not the first of a list
abbrev pub after_comma : List ℕ → List ℕ
after_comma text = codes ", " ++ text

-- texts with commas between them
abbrev pub comma_list : List (List ℕ) → List ℕ
comma_list [] = []
comma_list (text ∷ texts) = text ++ flat_map after_comma texts

-- the end of a transition, up to its semicolon
abbrev pub assignments_text : List (Assignment (List ℕ)) → List ℕ
assignments_text [] = []
assignments_text (a ∷ assignments) = codes ": " ++ comma_list (map assignment_text (a ∷ assignments))

-- what stands before goto
abbrev pub when_text : Option (Guard (List ℕ)) → List ℕ
when_text None = []
when_text (Some g) = codes "when " ++ (guard_text g ++ codes " ")

-- a transition, on a line of its own that begins with two spaces
abbrev pub line_text : SourceTransition → List ℕ
line_text l = codes "  "
    ++ (when_text l.content.guard
    ++ (codes "goto " ++ (l.content.target ++ (assignments_text l.content.assignments ++ codes ";\n"))))

-- a state's name on a line of its own, and its transitions
abbrev pub state_text : SourceState → List ℕ
state_text s = codes "state " ++ (s.name ++ (codes ":\n" ++ flat_map line_text s.transitions))

-- the word of a role
abbrev pub role_text : Role → List ℕ
role_text Input = codes "input "
role_text Output = codes "output "
role_text Local = codes "local "

-- the words before the names of a declaration
abbrev pub declaration_words : Role → Sort → List ℕ
declaration_words role sorts.Scalar = role_text role
declaration_words role sorts.Array = role_text role ++ codes "array "
declaration_words role sorts.Port = codes "port "

-- a declaration, on a line of its own
abbrev pub declaration_text : Declaration → List ℕ
declaration_text d = declaration_words d.role d.sort ++ (comma_list d.names ++ codes ";\n")

-- the head of a text
abbrev pub head_text : Format → List ℕ
head_text One = codes "fsmd 1;\n"
head_text Two = codes "fsmd 2;\n"

-- the text of a machine's parts, in format 2 exactly where they have ports
abbrev pub canonical : Source → List ℕ
canonical s = head_text (format_for s)
    ++ (flat_map declaration_text s.declarations
    ++ (codes "reset " ++ (s.reset ++ (codes ";\n" ++ flat_map state_text s.states))))

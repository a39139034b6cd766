-- Each operator that a guard or an assignment needs was written, so the operators of what has been read are no more than were counted.
use Rattle.std.proofs.Common.{ℕ, ◌+◌, ◌≤◌, List, arith}
use Rattle.std.specs.Prelude.{[], Bool, true, false, ◌||◌, Option, Some, None, IfSome}
use Rattle.fs_model.specs.declared.parts.Rel.{Rel}
use Rattle.fs_model.specs.declared.parts.Role.TheVariants.{Output}
use Rattle.fs_model.specs.declared.parts.Sort.TheVariants as sorts
use Rattle.fs_grammar.specs.declared.format.Format.{Format}
use Rattle.fs_grammar.specs.declared.format.Format.TheVariants.{One, Two}
use Rattle.fs_grammar.specs.Formats.{format_of}
use Rattle.fs_model.specs.Expressions.{Expression, Variable, Read, Negative, Guard, Test, Not}
use Rattle.fs_model.specs.Expressions as expressions
use Rattle.fs_model.specs.WellFormed.{is_sum, is_product, is_and, is_or, bracket, operators_of_expression, operators_of_guard}
use Rattle.fs_grammar.specs.declared.token.TokenKind.{TokenKind}
use Rattle.fs_grammar.specs.declared.token.TokenKind.TheVariants.{Fsmd, Declare, Array, Reset, State, When, Goto, Emit, Port, Name, Number, Semicolon, Colon}
use Rattle.fs_grammar.specs.declared.token.TokenKind.TheVariants.{Comma, Equals, OpenParen, CloseParen, OpenBracket, CloseBracket, OpenBrace, CloseBrace, Plus}
use Rattle.fs_grammar.specs.declared.token.TokenKind.TheVariants.{Minus, Star, Slash, Percent, Bang, AndAnd, OrOr, Relation}
use Rattle.fs_grammar.specs.Grammar.{ParseState, OpenState, Destination, scalar, element, port, UnitContext, ConjunctionContext, GuardContext, FactorContext}
use Rattle.fs_grammar.specs.Grammar.{ProductContext, SumContext, negates, first_of_all, and_after, first_of_any, or_after, braces, transition_guard}
use Rattle.fs_grammar.specs.Grammar.{first_factor, times, divides, remainder_of, negative, first_product, plus, minus, parens, index, left, right, write_index}
use Rattle.fs_grammar.specs.Grammar.{value, at_start, at_format, at_semicolon, at_declaration, at_sort, at_declared, after_declared, at_reset, after_reset}
use Rattle.fs_grammar.specs.Grammar.{at_state, at_state_name, after_state_name, at_transition, at_target, after_target, at_assignment, at_port}
use Rattle.fs_grammar.specs.Grammar.{after_assignment_name, at_equals, at_unit, after_conjunction, after_guard, at_factor, after_name, after_product, after_sum}
use Rattle.fs_grammar.specs.Grammar.{factor_done, product_done, unit_done, conjunction_done, literal_done, step_factor, step_unit, step_guard, step_guarded}
use Rattle.fs_grammar.specs.Grammar.{step_conjunction, step_joined, step_sum, step_summed, step_product, step_multiplied, step_name, step_transition}
use Rattle.fs_grammar.specs.Grammar.{step_format, in_format_two, step}
use Rattle.fs_lex.specs.Scan.{operators_up_to_token}

-- ---- the operators of a value that has been read, with a bracket where one is needed

abbrev pub operators_of_unit : Guard (List ℕ) → ℕ
operators_of_unit u = bracket (is_and u || is_or u) + operators_of_guard u

abbrev pub operators_of_conjunction : Guard (List ℕ) → ℕ
operators_of_conjunction c = bracket (is_or c) + operators_of_guard c

abbrev pub operators_of_factor : Expression (List ℕ) → ℕ
operators_of_factor f = bracket (is_sum f || is_product f) + operators_of_expression f

abbrev pub operators_of_product : Expression (List ℕ) → ℕ
operators_of_product p = bracket (is_sum p) + operators_of_expression p

abbrev pub operators_of_destination : Destination → ℕ
operators_of_destination (scalar x) = 0
operators_of_destination (element x i) = 1 + operators_of_expression i
operators_of_destination (port x) = 0

-- ---- the operators of what a part is read for

abbrev mutual
  pub operators_for_unit : UnitContext → ℕ
  operators_for_unit (negates k) = 1 + operators_for_unit k
  operators_for_unit (first_of_all k) = operators_for_conjunction k
  operators_for_unit (and_after c k) = 1 + (operators_of_conjunction c + operators_for_conjunction k)

  pub operators_for_conjunction : ConjunctionContext → ℕ
  operators_for_conjunction (first_of_any k) = operators_for_guard k
  operators_for_conjunction (or_after g k) = 1 + (operators_of_guard g + operators_for_guard k)

  pub operators_for_guard : GuardContext → ℕ
  operators_for_guard (braces k) = 1 + operators_for_unit k
  operators_for_guard (transition_guard d n) = 0

abbrev mutual
  pub operators_for_factor : FactorContext → ℕ
  operators_for_factor (first_factor k) = operators_for_product k
  operators_for_factor (times p k) = 1 + (operators_of_product p + operators_for_product k)
  operators_for_factor (divides p k) = 1 + (operators_of_product p + operators_for_product k)
  operators_for_factor (remainder_of p k) = 1 + (operators_of_product p + operators_for_product k)
  operators_for_factor (negative k) = 1 + operators_for_factor k

  pub operators_for_product : ProductContext → ℕ
  operators_for_product (first_product k) = operators_for_sum k
  operators_for_product (plus s k) = 1 + (operators_of_expression s + operators_for_sum k)
  operators_for_product (minus s k) = 1 + (operators_of_expression s + operators_for_sum k)

  pub operators_for_sum : SumContext → ℕ
  operators_for_sum (parens k) = 1 + operators_for_factor k
  operators_for_sum (index x k) = 1 + operators_for_factor k
  operators_for_sum (left k) = operators_for_unit k
  operators_for_sum (right r l k) = 1 + (operators_of_expression l + operators_for_unit k)
  operators_for_sum (write_index o x) = 1
  operators_for_sum (value o d) = operators_of_destination d

-- the operators of the guard or assignment that is being read, as far as it has been read
abbrev pub operators_owed : ParseState → ℕ
operators_owed (at_equals o d) = operators_of_destination d
operators_owed (at_unit k) = operators_for_unit k
operators_owed (after_conjunction c k) = operators_of_conjunction c + operators_for_conjunction k
operators_owed (after_guard g k) = operators_of_guard g + operators_for_guard k
operators_owed (at_factor k) = operators_for_factor k
operators_owed (after_name x k) = operators_for_factor k
operators_owed (after_product p k) = operators_of_product p + operators_for_product k
operators_owed (after_sum s k) = operators_of_expression s + operators_for_sum k
operators_owed _ = 0

-- ---- a part that ends gives its operators on

pub at_most_one : (b : Bool) → bracket b ≤ 1
at_most_one true = omega arith
at_most_one false = omega arith

pub bracket_less : (a b : Bool) → bracket b ≤ bracket (a || b)
bracket_less true b = at_most_one b
bracket_less false b = omega arith

pub bracket_less-left : (a b : Bool) → bracket a ≤ bracket (a || b)
bracket_less-left true b = omega arith
bracket_less-left false b = grind arith

pub factor_ends : (k : FactorContext) (f : Expression (List ℕ)) → operators_owed (factor_done f k) ≤ operators_of_factor f + operators_for_factor k
factor_ends (first_factor k) f = omega (arith, bracket_less-left (is_sum f) (is_product f))
factor_ends (times p k) f = omega arith
factor_ends (divides p k) f = omega arith
factor_ends (remainder_of p k) f = omega arith
factor_ends (negative k) f = omega (arith, factor_ends k (Negative f))

pub product_ends : (k : ProductContext) (p : Expression (List ℕ)) → operators_owed (product_done p k) ≤ operators_of_product p + operators_for_product k
product_ends (first_product k) p = omega arith
product_ends (plus s k) p = omega arith
product_ends (minus s k) p = omega arith

unit_ends : (k : UnitContext) (u : Guard (List ℕ)) → operators_owed (unit_done u k) ≤ operators_of_unit u + operators_for_unit k
unit_ends (negates k) u = omega (arith, unit_ends k (Not u))
unit_ends (first_of_all k) u = omega (arith, bracket_less (is_and u) (is_or u))
unit_ends (and_after c k) u = omega arith

pub conjunction_ends : (k : ConjunctionContext) (c : Guard (List ℕ))
    → operators_owed (conjunction_done c k) ≤ operators_of_conjunction c + operators_for_conjunction k
conjunction_ends (first_of_any k) c = omega arith
conjunction_ends (or_after g k) c = omega arith

-- ---- a token that can follow adds no more operators than it counts

factor_costs : (t : TokenKind) (k : FactorContext) (c : ℕ) → operators_for_factor k ≤ c
    → IfSome (step_factor t k) (λ s. operators_owed s ≤ operators_up_to_token t c)
factor_costs (Number n) k c h = omega (arith, factor_ends k (expressions.Number n))
factor_costs (Name x) k c h = h
factor_costs Minus k c h = omega arith
factor_costs OpenParen k c h = omega arith
factor_costs _ k c h = tt

unit_costs : (t : TokenKind) (k : UnitContext) (c : ℕ) → operators_for_unit k ≤ c → IfSome (step_unit t k) (λ s. operators_owed s ≤ operators_up_to_token t c)
unit_costs Bang k c h = omega arith
unit_costs OpenBrace k c h = omega arith
unit_costs t k c h = factor_costs t (first_factor (first_product (left k))) c h

braced : (g : Guard (List ℕ)) → operators_of_unit g ≤ 1 + operators_of_guard g
braced g = omega (arith, at_most_one (is_and g || is_or g))

guard_costs : (t : TokenKind) (g : Guard (List ℕ)) (k : GuardContext) (c : ℕ) → operators_of_guard g + operators_for_guard k ≤ c
    → IfSome (step_guard t g k) (λ s. operators_owed s ≤ operators_up_to_token t c)
guard_costs OrOr g k c h = omega arith
guard_costs CloseBrace g (braces k) c h = omega (arith, unit_ends k g, braced g)
guard_costs Goto g (transition_guard d n) c h = omega arith
guard_costs _ g k c h = tt

guarded_costs : (t : TokenKind) (s : ParseState) (c : ℕ) → operators_owed s ≤ c → IfSome (step_guarded t s) (λ s. operators_owed s ≤ operators_up_to_token t c)
guarded_costs t (after_guard g k) c h = guard_costs t g k c h
guarded_costs t _ c h = tt

conjunction_costs : (t : TokenKind) (f : Guard (List ℕ)) (k : ConjunctionContext) (c : ℕ) → operators_of_conjunction f + operators_for_conjunction k ≤ c
    → IfSome (step_conjunction t f k) (λ s. operators_owed s ≤ operators_up_to_token t c)
conjunction_costs AndAnd f k c h = omega arith
conjunction_costs t f k c h = guarded_costs t (conjunction_done f k) c (omega (arith, conjunction_ends k f))

joined_costs : (t : TokenKind) (s : ParseState) (c : ℕ) → operators_owed s ≤ c → IfSome (step_joined t s) (λ s. operators_owed s ≤ operators_up_to_token t c)
joined_costs t (after_conjunction f k) c h = conjunction_costs t f k c h
joined_costs t _ c h = tt

pub literal_ends : (r : Rel) (a b : Expression (List ℕ)) (k : UnitContext)
    → operators_owed (literal_done r a b k) ≤ 1 + (operators_of_expression a + operators_of_expression b) + operators_for_unit k
literal_ends r a b k = omega (arith, unit_ends k (Test (record { relation = r; left = a; right = b })))

bracketed : (e : Expression (List ℕ)) → operators_of_factor e ≤ 1 + operators_of_expression e
bracketed e = omega (arith, at_most_one (is_sum e || is_product e))

sum_costs : (t : TokenKind) (e : Expression (List ℕ)) (k : SumContext) (c : ℕ) → operators_of_expression e + operators_for_sum k ≤ c
    → IfSome (step_sum t e k) (λ s. operators_owed s ≤ operators_up_to_token t c)
sum_costs Plus e k c h = omega arith
sum_costs Minus e k c h = omega arith
sum_costs CloseParen e (parens k) c h = omega (arith, factor_ends k e, bracketed e)
sum_costs CloseBracket e (index x k) c h = omega (arith, factor_ends k (Read x e))
sum_costs CloseBracket e (write_index o x) c h = omega arith
sum_costs (Relation r) e (left k) c h = omega arith
sum_costs Comma e (value o d) c h = omega arith
sum_costs Semicolon e (value o d) c h = omega arith
sum_costs t e (right r l k) c h = joined_costs t (literal_done r l e k) c (omega (arith, literal_ends r l e k))
sum_costs _ e k c h = tt

summed_costs : (t : TokenKind) (s : ParseState) (c : ℕ) → operators_owed s ≤ c → IfSome (step_summed t s) (λ s. operators_owed s ≤ operators_up_to_token t c)
summed_costs t (after_sum e k) c h = sum_costs t e k c h
summed_costs t _ c h = tt

product_costs : (t : TokenKind) (p : Expression (List ℕ)) (k : ProductContext) (c : ℕ) → operators_of_product p + operators_for_product k ≤ c
    → IfSome (step_product t p k) (λ s. operators_owed s ≤ operators_up_to_token t c)
product_costs Star p k c h = omega arith
product_costs Slash p k c h = omega arith
product_costs Percent p k c h = omega arith
product_costs t p k c h = summed_costs t (product_done p k) c (omega (arith, product_ends k p))

multiplied_costs : (t : TokenKind) (s : ParseState) (c : ℕ) → operators_owed s ≤ c
    → IfSome (step_multiplied t s) (λ s. operators_owed s ≤ operators_up_to_token t c)
multiplied_costs t (after_product p k) c h = product_costs t p k c h
multiplied_costs t _ c h = tt

name_costs : (t : TokenKind) (x : List ℕ) (k : FactorContext) (c : ℕ) → operators_for_factor k ≤ c
    → IfSome (step_name t x k) (λ s. operators_owed s ≤ operators_up_to_token t c)
name_costs OpenBracket x k c h = omega arith
name_costs t x k c h = multiplied_costs t (factor_done (Variable x) k) c (omega (arith, factor_ends k (Variable x)))

line_costs : (t : TokenKind) (n : ℕ) (d : OpenState) (c : ℕ) → IfSome (step_transition n t d) (λ s. operators_owed s ≤ operators_up_to_token t c)
line_costs When n d c = omega arith
line_costs Goto n d c = omega arith
line_costs State n d c = omega arith
line_costs _ n d c = tt

format_costs : (o : Option Format) (c : ℕ) → IfSome (step_format o) (λ s. operators_owed s ≤ c)
format_costs None c = tt
format_costs (Some f) c = omega arith

two_costs : (f : Format) (s : ParseState) (c : ℕ) → operators_owed s ≤ c → IfSome (in_format_two f s) (λ s. operators_owed s ≤ c)
two_costs One s c h = tt
two_costs Two s c h = h

pub step_costs : (s : ParseState) (n : ℕ) (t : TokenKind) (c : ℕ) → operators_owed s ≤ c
    → IfSome (step s n t) (λ s. operators_owed s ≤ operators_up_to_token t c)
step_costs at_start n Fsmd c h = omega arith
step_costs at_start n _ c h = tt
step_costs at_format n (Number i) c h = format_costs (format_of i) c
step_costs at_format n _ c h = tt
step_costs (at_semicolon f) n Semicolon c h = omega arith
step_costs (at_semicolon f) n _ c h = tt
step_costs (at_declaration f ds) n (Declare r) c h = omega arith
step_costs (at_declaration f ds) n Port c h = two_costs f (at_declared f ds (record { line = n; role = Output; sort = sorts.Port; names = [] })) c (omega arith)
step_costs (at_declaration f ds) n Reset c h = omega arith
step_costs (at_declaration f ds) n _ c h = tt
step_costs (at_sort f ds m r) n Array c h = omega arith
step_costs (at_sort f ds m r) n (Name x) c h = omega arith
step_costs (at_sort f ds m r) n _ c h = tt
step_costs (at_declared f ds d) n (Name x) c h = omega arith
step_costs (at_declared f ds d) n _ c h = tt
step_costs (after_declared f ds d) n Comma c h = omega arith
step_costs (after_declared f ds d) n Semicolon c h = omega arith
step_costs (after_declared f ds d) n _ c h = tt
step_costs (at_reset f ds m) n (Name x) c h = omega arith
step_costs (at_reset f ds m) n _ c h = tt
step_costs (after_reset f s) n Semicolon c h = omega arith
step_costs (after_reset f s) n _ c h = tt
step_costs (at_state f s) n State c h = omega arith
step_costs (at_state f s) n _ c h = tt
step_costs (at_state_name f s m) n (Name x) c h = omega arith
step_costs (at_state_name f s m) n _ c h = tt
step_costs (after_state_name d) n Colon c h = omega arith
step_costs (after_state_name d) n _ c h = tt
step_costs (at_transition d) n t c h = line_costs t n d c
step_costs (at_target d m g) n (Name x) c h = omega arith
step_costs (at_target d m g) n _ c h = tt
step_costs (after_target o) n Colon c h = omega arith
step_costs (after_target o) n Semicolon c h = omega arith
step_costs (after_target o) n _ c h = tt
step_costs (at_assignment o) n (Name x) c h = omega arith
step_costs (at_assignment o) n Emit c h = two_costs o.state.format (at_port o) c (omega arith)
step_costs (at_assignment o) n _ c h = tt
step_costs (at_port o) n (Name x) c h = omega arith
step_costs (at_port o) n _ c h = tt
step_costs (after_assignment_name o x) n Equals c h = omega arith
step_costs (after_assignment_name o x) n OpenBracket c h = omega arith
step_costs (after_assignment_name o x) n _ c h = tt
step_costs (at_equals o d) n Equals c h = h
step_costs (at_equals o d) n _ c h = tt
step_costs (at_unit k) n t c h = unit_costs t k c h
step_costs (after_conjunction f k) n t c h = conjunction_costs t f k c h
step_costs (after_guard g k) n t c h = guard_costs t g k c h
step_costs (at_factor k) n t c h = factor_costs t k c h
step_costs (after_name x k) n t c h = name_costs t x k c h
step_costs (after_product p k) n t c h = product_costs t p k c h
step_costs (after_sum e k) n t c h = sum_costs t e k c h

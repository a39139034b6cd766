-- What has been read is well formed in each state.
use Rattle.std.proofs.Common.{ℕ, ◌+◌, ◌≤◌, List, [], ◌∷◌, ◌++◌, refl, ◌∙◌, length-append, arith}
use Rattle.std.specs.Prelude.{not, Bool, true, ◌&&◌, ◌||◌, ◌==◌, nat_le, length, Option, Some, None, IfSome, IsTrue}
use Rattle.std.specs.List.{list_all}
use Rattle.std.proofs.lemmas.Bool.{le-leb, and_from}
use Rattle.std.proofs.lemmas.List.Folds.{list_all-append}
use Rattle.fs_model.proofs.Booleans.{and_first, and_second}
use Rattle.fs_model.specs.declared.parts.Role.TheVariants.{Output}
use Rattle.fs_model.specs.declared.parts.Sort.TheVariants as sorts
use Rattle.fs_model.specs.Runs.{is_output, is_port}
use Rattle.fs_model.specs.Source.{Declaration}
use Rattle.fs_grammar.specs.declared.format.Format.{Format}
use Rattle.fs_grammar.specs.declared.format.Format.TheVariants.{One, Two}
use Rattle.fs_grammar.specs.Formats.{format_of}
use Rattle.fs_model.specs.Expressions.{Expression, Variable, Read, Negative, Guard, Test, Not}
use Rattle.fs_model.specs.Expressions as expressions
use Rattle.fs_model.specs.WellFormed.{is_natural_expression, is_natural_guard, operators_of_expression, operators_of_guard, is_well_formed_condition}
use Rattle.fs_model.specs.WellFormed.{is_well_formed_assignment, is_well_formed_transition, is_well_formed_state, is_well_formed_declaration, is_well_formed}
use Rattle.fs_grammar.specs.declared.token.TokenKind.{TokenKind}
use Rattle.fs_grammar.specs.declared.token.TokenKind.TheVariants.{Fsmd, Declare, Array, Reset, State, When, Goto, Emit, Port, Name, Number, Semicolon, Colon}
use Rattle.fs_grammar.specs.declared.token.TokenKind.TheVariants.{Comma, Equals, OpenParen, CloseParen, OpenBracket, CloseBracket, OpenBrace, CloseBrace, Plus}
use Rattle.fs_grammar.specs.declared.token.TokenKind.TheVariants.{Minus, Star, Slash, Percent, Bang, AndAnd, OrOr, Relation}
use Rattle.fs_grammar.specs.Grammar.{ParseState, OpenState, OpenTransition, Destination, scalar, element, port, destination_assignment, with_assignments}
use Rattle.fs_grammar.specs.Grammar.{with_open_state, transition_read, close_transition, UnitContext, ConjunctionContext, GuardContext, FactorContext}
use Rattle.fs_grammar.specs.Grammar.{ProductContext, SumContext, negates, first_of_all, and_after, first_of_any, or_after, braces, transition_guard}
use Rattle.fs_grammar.specs.Grammar.{first_factor, times, divides, remainder_of, negative, first_product, plus, minus, parens, index, left, right, write_index}
use Rattle.fs_grammar.specs.Grammar.{value, at_start, at_format, at_semicolon, at_declaration, at_sort, at_declared, after_declared, at_reset, after_reset}
use Rattle.fs_grammar.specs.Grammar.{at_state, at_state_name, after_state_name, at_transition, at_target, after_target, at_assignment, at_port}
use Rattle.fs_grammar.specs.Grammar.{after_assignment_name, at_equals, at_unit, after_conjunction, after_guard, at_factor, after_name, after_product, after_sum}
use Rattle.fs_grammar.specs.Grammar.{factor_done, product_done, unit_done, conjunction_done, literal_done, step_factor, step_unit, step_guard, step_guarded}
use Rattle.fs_grammar.specs.Grammar.{step_conjunction, step_joined, step_sum, step_summed, step_product, step_multiplied, step_name, step_transition}
use Rattle.fs_grammar.specs.Grammar.{step_format, in_format_two, step, finish_source}
use Rattle.fs_lex.specs.Kinds.{IsProper}
use Rattle.fs_lex.proofs.Operators.{operators_of_conjunction, operators_of_product, operators_of_destination, operators_for_conjunction}
use Rattle.fs_lex.proofs.Operators.{operators_for_guard, operators_for_factor, operators_for_product, operators_for_sum, operators_owed, factor_ends}
use Rattle.fs_lex.proofs.Operators.{product_ends, conjunction_ends, literal_ends}

-- ---- what is so of a part that has been read

abbrev pub IsNatural : Expression (List ℕ) → Type 0
IsNatural e = IsTrue (is_natural_expression e)

abbrev pub IsNaturalGuard : Guard (List ℕ) → Type 0
IsNaturalGuard g = IsTrue (is_natural_guard g)

abbrev pub IsFitDestination : Destination → Type 0
IsFitDestination (scalar x) = Unit {0}
IsFitDestination (element x i) = IsNatural i
IsFitDestination (port x) = Unit {0}

pub record IsFitState (d : OpenState) : Type 0 where
  pub source : IsTrue (is_well_formed d.source)
  pub transitions : IsTrue (list_all is_well_formed_transition d.state.transitions)

pub record IsFitTransition (o : OpenTransition) : Type 0 where
  pub state : IsFitState o.state
  pub guard : IsTrue (is_well_formed_condition o.guard)
  pub assignments : IsTrue (list_all is_well_formed_assignment o.assignments)

abbrev mutual
  pub IsFitForUnit : UnitContext → Type 0
  IsFitForUnit (negates k) = IsFitForUnit k
  IsFitForUnit (first_of_all k) = IsFitForConjunction k
  IsFitForUnit (and_after c k) = IsNaturalGuard c × IsFitForConjunction k

  pub IsFitForConjunction : ConjunctionContext → Type 0
  IsFitForConjunction (first_of_any k) = IsFitForGuard k
  IsFitForConjunction (or_after g k) = IsNaturalGuard g × IsFitForGuard k

  pub IsFitForGuard : GuardContext → Type 0
  IsFitForGuard (braces k) = IsFitForUnit k
  IsFitForGuard (transition_guard d n) = IsFitState d

abbrev mutual
  pub IsFitForFactor : FactorContext → Type 0
  IsFitForFactor (first_factor k) = IsFitForProduct k
  IsFitForFactor (times p k) = IsNatural p × IsFitForProduct k
  IsFitForFactor (divides p k) = IsNatural p × IsFitForProduct k
  IsFitForFactor (remainder_of p k) = IsNatural p × IsFitForProduct k
  IsFitForFactor (negative k) = IsFitForFactor k

  pub IsFitForProduct : ProductContext → Type 0
  IsFitForProduct (first_product k) = IsFitForSum k
  IsFitForProduct (plus s k) = IsNatural s × IsFitForSum k
  IsFitForProduct (minus s k) = IsNatural s × IsFitForSum k

  pub IsFitForSum : SumContext → Type 0
  IsFitForSum (parens k) = IsFitForFactor k
  IsFitForSum (index x k) = IsFitForFactor k
  IsFitForSum (left k) = IsFitForUnit k
  IsFitForSum (right r l k) = IsNatural l × IsFitForUnit k
  IsFitForSum (write_index o x) = IsFitTransition o
  IsFitForSum (value o d) = IsFitTransition o × IsFitDestination d

-- a port is an output
abbrev pub is_no_port_or_output : Declaration → Bool
is_no_port_or_output d = not (is_port d.sort) || is_output d.role

abbrev pub IsFit : ParseState → Type 0
IsFit at_start = Unit {0}
IsFit at_format = Unit {0}
IsFit (at_semicolon f) = Unit {0}
IsFit (at_declaration f ds) = IsTrue (list_all is_well_formed_declaration ds)
IsFit (at_sort f ds m r) = IsTrue (list_all is_well_formed_declaration ds)
IsFit (at_declared f ds d) = IsTrue (list_all is_well_formed_declaration ds) × IsTrue (is_no_port_or_output d)
IsFit (after_declared f ds d) = IsTrue (list_all is_well_formed_declaration ds) × IsTrue (is_well_formed_declaration d)
IsFit (at_reset f ds m) = IsTrue (list_all is_well_formed_declaration ds)
IsFit (after_reset f s) = IsTrue (is_well_formed s)
IsFit (at_state f s) = IsTrue (is_well_formed s)
IsFit (at_state_name f s m) = IsTrue (is_well_formed s)
IsFit (after_state_name d) = IsFitState d
IsFit (at_transition d) = IsFitState d
IsFit (at_target d m g) = IsFitState d × IsTrue (is_well_formed_condition g)
IsFit (after_target o) = IsFitTransition o
IsFit (at_assignment o) = IsFitTransition o
IsFit (at_port o) = IsFitTransition o
IsFit (after_assignment_name o x) = IsFitTransition o
IsFit (at_equals o d) = IsFitTransition o × IsFitDestination d
IsFit (at_unit k) = IsFitForUnit k
IsFit (after_conjunction c k) = IsNaturalGuard c × IsFitForConjunction k
IsFit (after_guard g k) = IsNaturalGuard g × IsFitForGuard k
IsFit (at_factor k) = IsFitForFactor k
IsFit (after_name x k) = IsFitForFactor k
IsFit (after_product p k) = IsNatural p × IsFitForProduct k
IsFit (after_sum e k) = IsNatural e × IsFitForSum k

-- ---- lists and parts that grow

list_all_with_last : {X : Type 0} (p : X → Bool) (xs : List X) (x : X) → IsTrue (list_all p xs) → IsTrue (p x) → IsTrue (list_all p (xs ++ x ∷ []))
list_all_with_last p xs x h j = list_all-append p xs (x ∷ []) ∙ and_from (list_all p xs) (p x && true) h (and_from (p x) true j refl)

snoc_some : (xs : List (List ℕ)) (x : List ℕ) → IsTrue (not (length (xs ++ x ∷ []) == 0))
snoc_some xs x = grind (arith, length-append xs (x ∷ []))

state_ends : (d : OpenState) → IsFitState d → IsTrue (is_well_formed (with_open_state d))
state_ends d h =
    and_from (list_all is_well_formed_declaration d.source.declarations) (list_all is_well_formed_state (d.source.states ++ d.state ∷ []))
    (and_first (list_all is_well_formed_declaration d.source.declarations) (list_all is_well_formed_state d.source.states) h.source)
    (list_all_with_last is_well_formed_state d.source.states d.state
    (and_second (list_all is_well_formed_declaration d.source.declarations) (list_all is_well_formed_state d.source.states) h.source) h.transitions)

transition_ends : (o : OpenTransition) → IsFitTransition o → IsFitState (close_transition o)
transition_ends o h =
    record {
      source = h.state.source;
      transitions = list_all_with_last is_well_formed_transition o.state.state.transitions (transition_read o) h.state.transitions
          (and_from (is_well_formed_condition o.guard) (list_all is_well_formed_assignment o.assignments) h.guard h.assignments);
    }

assignment_fits : (d : Destination) (e : Expression (List ℕ)) → IsFitDestination d → IsNatural e → operators_of_expression e + operators_of_destination d ≤ 128
    → IsTrue (is_well_formed_assignment (destination_assignment d e))
assignment_fits (scalar x) e h j b =
    and_from (is_natural_expression e) (nat_le (operators_of_expression e) 128) j (le-leb (operators_of_expression e) 128 (omega arith))
assignment_fits (port x) e h j b =
    and_from (is_natural_expression e) (nat_le (operators_of_expression e) 128) j (le-leb (operators_of_expression e) 128 (omega arith))
assignment_fits (element x i) e h j b =
    and_from (is_natural_expression i && is_natural_expression e) (nat_le (1 + (operators_of_expression i + operators_of_expression e)) 128)
    (and_from (is_natural_expression i) (is_natural_expression e) h j)
    (le-leb (1 + (operators_of_expression i + operators_of_expression e)) 128 (omega arith))

assignment_read : (o : OpenTransition) (d : Destination) (e : Expression (List ℕ)) → IsFitTransition o → IsFitDestination d → IsNatural e
    → operators_of_expression e + operators_of_destination d ≤ 128
    → IsFitTransition (with_assignments o (destination_assignment d e ∷ []))
assignment_read o d e h j n b = record {
  state = h.state;
  guard = h.guard;
  assignments = list_all_with_last is_well_formed_assignment o.assignments (destination_assignment d e) h.assignments (assignment_fits d e j n b);
}

guard_fits : (g : Guard (List ℕ)) → IsNaturalGuard g → operators_of_guard g ≤ 128 → IsTrue (is_well_formed_condition (Some g))
guard_fits g h b = and_from (is_natural_guard g) (nat_le (operators_of_guard g) 128) h (le-leb (operators_of_guard g) 128 b)

-- ---- a part that ends

factor_fits : (k : FactorContext) (f : Expression (List ℕ)) → IsFitForFactor k → IsNatural f → IsFit (factor_done f k)
factor_fits (first_factor k) f h j = (j, h)
factor_fits (times p k) f h j = (and_from (is_natural_expression p) (is_natural_expression f) h.0 j, h.1)
factor_fits (divides p k) f h j = (and_from (is_natural_expression p) (is_natural_expression f) h.0 j, h.1)
factor_fits (remainder_of p k) f h j = (and_from (is_natural_expression p) (is_natural_expression f) h.0 j, h.1)
factor_fits (negative k) f h j = factor_fits k (Negative f) h j

product_fits : (k : ProductContext) (p : Expression (List ℕ)) → IsFitForProduct k → IsNatural p → IsFit (product_done p k)
product_fits (first_product k) p h j = (j, h)
product_fits (plus s k) p h j = (and_from (is_natural_expression s) (is_natural_expression p) h.0 j, h.1)
product_fits (minus s k) p h j = (and_from (is_natural_expression s) (is_natural_expression p) h.0 j, h.1)

unit_fits : (k : UnitContext) (u : Guard (List ℕ)) → IsFitForUnit k → IsNaturalGuard u → IsFit (unit_done u k)
unit_fits (negates k) u h j = unit_fits k (Not u) h j
unit_fits (first_of_all k) u h j = (j, h)
unit_fits (and_after c k) u h j = (and_from (is_natural_guard c) (is_natural_guard u) h.0 j, h.1)

conjunction_fits : (k : ConjunctionContext) (c : Guard (List ℕ)) → IsFitForConjunction k → IsNaturalGuard c → IsFit (conjunction_done c k)
conjunction_fits (first_of_any k) c h j = (j, h)
conjunction_fits (or_after g k) c h j = (and_from (is_natural_guard g) (is_natural_guard c) h.0 j, h.1)

-- ---- a token that can follow

factor_keeps : (t : TokenKind) (k : FactorContext) → IsProper t → IsFitForFactor k → IfSome (step_factor t k) IsFit
factor_keeps (Number n) k p h = factor_fits k (expressions.Number n) h (grind (arith, p.0))
factor_keeps (Name x) k p h = h
factor_keeps Minus k p h = h
factor_keeps OpenParen k p h = h
factor_keeps _ k p h = tt

unit_keeps : (t : TokenKind) (k : UnitContext) → IsProper t → IsFitForUnit k → IfSome (step_unit t k) IsFit
unit_keeps Bang k p h = h
unit_keeps OpenBrace k p h = h
unit_keeps t k p h = factor_keeps t (first_factor (first_product (left k))) p h

guard_keeps : (t : TokenKind) (g : Guard (List ℕ)) (k : GuardContext) → IsNaturalGuard g → IsFitForGuard k → operators_of_guard g + operators_for_guard k ≤ 128
    → IfSome (step_guard t g k) IsFit
guard_keeps OrOr g k j h b = (j, h)
guard_keeps CloseBrace g (braces k) j h b = unit_fits k g h j
guard_keeps Goto g (transition_guard d n) j h b = (h, guard_fits g j (omega arith))
guard_keeps _ g k j h b = tt

guarded_keeps : (t : TokenKind) (s : ParseState) → IsFit s → operators_owed s ≤ 128 → IfSome (step_guarded t s) IsFit
guarded_keeps t (after_guard g k) h b = guard_keeps t g k h.0 h.1 b
guarded_keeps t _ h b = tt

conjunction_keeps : (t : TokenKind) (c : Guard (List ℕ)) (k : ConjunctionContext) → IsNaturalGuard c → IsFitForConjunction k
    → operators_of_conjunction c + operators_for_conjunction k ≤ 128
    → IfSome (step_conjunction t c k) IsFit
conjunction_keeps AndAnd c k j h b = (j, h)
conjunction_keeps t c k j h b = guarded_keeps t (conjunction_done c k) (conjunction_fits k c h j) (omega (arith, conjunction_ends k c))

joined_keeps : (t : TokenKind) (s : ParseState) → IsFit s → operators_owed s ≤ 128 → IfSome (step_joined t s) IsFit
joined_keeps t (after_conjunction c k) h b = conjunction_keeps t c k h.0 h.1 b
joined_keeps t _ h b = tt

sum_keeps : (t : TokenKind) (e : Expression (List ℕ)) (k : SumContext) → IsNatural e → IsFitForSum k → operators_of_expression e + operators_for_sum k ≤ 128
    → IfSome (step_sum t e k) IsFit
sum_keeps Plus e k j h b = (j, h)
sum_keeps Minus e k j h b = (j, h)
sum_keeps CloseParen e (parens k) j h b = factor_fits k e h j
sum_keeps CloseBracket e (index x k) j h b = factor_fits k (Read x e) h j
sum_keeps CloseBracket e (write_index o x) j h b = (h, j)
sum_keeps (Relation r) e (left k) j h b = (j, h)
sum_keeps Comma e (value o d) j h b = assignment_read o d e h.0 h.1 j b
sum_keeps Semicolon e (value o d) j h b = transition_ends (with_assignments o (destination_assignment d e ∷ [])) (assignment_read o d e h.0 h.1 j b)
sum_keeps t e (right r l k) j h b =
    joined_keeps t (literal_done r l e k)
    (unit_fits k (Test (record { relation = r; left = l; right = e })) h.1 (and_from (is_natural_expression l) (is_natural_expression e) h.0 j))
    (omega (arith, literal_ends r l e k))
sum_keeps _ e k j h b = tt

summed_keeps : (t : TokenKind) (s : ParseState) → IsFit s → operators_owed s ≤ 128 → IfSome (step_summed t s) IsFit
summed_keeps t (after_sum e k) h b = sum_keeps t e k h.0 h.1 b
summed_keeps t _ h b = tt

product_keeps : (t : TokenKind) (p : Expression (List ℕ)) (k : ProductContext) → IsNatural p → IsFitForProduct k
    → operators_of_product p + operators_for_product k ≤ 128 → IfSome (step_product t p k) IsFit
product_keeps Star p k j h b = (j, h)
product_keeps Slash p k j h b = (j, h)
product_keeps Percent p k j h b = (j, h)
product_keeps t p k j h b = summed_keeps t (product_done p k) (product_fits k p h j) (omega (arith, product_ends k p))

multiplied_keeps : (t : TokenKind) (s : ParseState) → IsFit s → operators_owed s ≤ 128 → IfSome (step_multiplied t s) IsFit
multiplied_keeps t (after_product p k) h b = product_keeps t p k h.0 h.1 b
multiplied_keeps t _ h b = tt

name_keeps : (t : TokenKind) (x : List ℕ) (k : FactorContext) → IsFitForFactor k → operators_for_factor k ≤ 128 → IfSome (step_name t x k) IsFit
name_keeps OpenBracket x k h b = h
name_keeps t x k h b = multiplied_keeps t (factor_done (Variable x) k) (factor_fits k (Variable x) h refl) (omega (arith, factor_ends k (Variable x)))

line_keeps : (t : TokenKind) (n : ℕ) (d : OpenState) → IsFitState d → IfSome (step_transition n t d) IsFit
line_keeps When n d h = h
line_keeps Goto n d h = (h, refl)
line_keeps State n d h = state_ends d h
line_keeps _ n d h = tt

format_keeps : (o : Option Format) → IfSome (step_format o) IsFit
format_keeps None = tt
format_keeps (Some f) = tt

two_keeps : (f : Format) (s : ParseState) → IsFit s → IfSome (in_format_two f s) IsFit
two_keeps One s h = tt
two_keeps Two s h = h

pub step_keeps : (s : ParseState) (n : ℕ) (t : TokenKind) → IsProper t → IsFit s → operators_owed s ≤ 128 → IfSome (step s n t) IsFit
step_keeps at_start n Fsmd p h b = tt
step_keeps at_start n _ p h b = tt
step_keeps at_format n (Number i) p h b = format_keeps (format_of i)
step_keeps at_format n _ p h b = tt
step_keeps (at_semicolon f) n Semicolon p h b = refl
step_keeps (at_semicolon f) n _ p h b = tt
step_keeps (at_declaration f ds) n (Declare r) p h b = h
step_keeps (at_declaration f ds) n Port p h b = two_keeps f (at_declared f ds (record { line = n; role = Output; sort = sorts.Port; names = [] })) (h, refl)
step_keeps (at_declaration f ds) n Reset p h b = h
step_keeps (at_declaration f ds) n _ p h b = tt
step_keeps (at_sort f ds m r) n Array p h b = (h, refl)
step_keeps (at_sort f ds m r) n (Name x) p h b = (h, refl)
step_keeps (at_sort f ds m r) n _ p h b = tt
step_keeps (at_declared f ds d) n (Name x) p h b = (h.0, and_from (not (length (d.names ++ x ∷ []) == 0)) (is_no_port_or_output d) (snoc_some d.names x) h.1)
step_keeps (at_declared f ds d) n _ p h b = tt
step_keeps (after_declared f ds d) n Comma p h b = (h.0, and_second (not (length d.names == 0)) (is_no_port_or_output d) h.1)
step_keeps (after_declared f ds d) n Semicolon p h b = list_all_with_last is_well_formed_declaration ds d h.0 h.1
step_keeps (after_declared f ds d) n _ p h b = tt
step_keeps (at_reset f ds m) n (Name x) p h b = and_from (list_all is_well_formed_declaration ds) true h refl
step_keeps (at_reset f ds m) n _ p h b = tt
step_keeps (after_reset f s) n Semicolon p h b = h
step_keeps (after_reset f s) n _ p h b = tt
step_keeps (at_state f s) n State p h b = h
step_keeps (at_state f s) n _ p h b = tt
step_keeps (at_state_name f s m) n (Name x) p h b = record { source = h; transitions = refl }
step_keeps (at_state_name f s m) n _ p h b = tt
step_keeps (after_state_name d) n Colon p h b = h
step_keeps (after_state_name d) n _ p h b = tt
step_keeps (at_transition d) n t p h b = line_keeps t n d h
step_keeps (at_target d m g) n (Name x) p h b = record { state = h.0; guard = h.1; assignments = refl }
step_keeps (at_target d m g) n _ p h b = tt
step_keeps (after_target o) n Colon p h b = h
step_keeps (after_target o) n Semicolon p h b = transition_ends o h
step_keeps (after_target o) n _ p h b = tt
step_keeps (at_assignment o) n (Name x) p h b = h
step_keeps (at_assignment o) n Emit p h b = two_keeps o.state.format (at_port o) h
step_keeps (at_assignment o) n _ p h b = tt
step_keeps (at_port o) n (Name x) p h b = (h, tt)
step_keeps (at_port o) n _ p h b = tt
step_keeps (after_assignment_name o x) n Equals p h b = (h, tt)
step_keeps (after_assignment_name o x) n OpenBracket p h b = h
step_keeps (after_assignment_name o x) n _ p h b = tt
step_keeps (at_equals o d) n Equals p h b = h
step_keeps (at_equals o d) n _ p h b = tt
step_keeps (at_unit k) n t p h b = unit_keeps t k p h
step_keeps (after_conjunction c k) n t p h b = conjunction_keeps t c k h.0 h.1 b
step_keeps (after_guard g k) n t p h b = guard_keeps t g k h.0 h.1 b
step_keeps (at_factor k) n t p h b = factor_keeps t k p h
step_keeps (after_name x k) n t p h b = name_keeps t x k h b
step_keeps (after_product e k) n t p h b = product_keeps t e k h.0 h.1 b
step_keeps (after_sum e k) n t p h b = sum_keeps t e k h.0 h.1 b

-- a text that may end here has well-formed parts
pub finish_fits : (s : ParseState) → IsFit s → IfSome (finish_source s) (λ f. IsTrue (is_well_formed f))
finish_fits (at_state f s) h = h
finish_fits (at_transition d) h = state_ends d h
finish_fits _ h = tt

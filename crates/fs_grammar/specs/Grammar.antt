-- Reading a machine text token by token. A parse state is what has been read and what is still expected.
use Rattle.std.specs.Prelude.{ℕ, List, [], ◌∷◌, ◌++◌, cond, Option, Some, None, Result, Ok, Err}
use Rattle.fs_model.specs.declared.parts.Rel.{Rel}
use Rattle.fs_model.specs.declared.parts.Role.{Role}
use Rattle.fs_model.specs.declared.parts.Role.TheVariants.{Output}
use Rattle.fs_model.specs.declared.parts.Sort.TheVariants as sorts
use Rattle.fs_model.specs.Expressions.{Expression, Variable, Read, Sum, Difference, Product, Quotient, Remainder, Negative, Guard}
use Rattle.fs_model.specs.Expressions.{Test, Not}
use Rattle.fs_model.specs.Expressions.{And, Or, Assignment, Assign, ArrayWrite}
use Rattle.fs_model.specs.Expressions as expressions
use Rattle.fs_model.specs.Source.{Declaration, SourceTransition, SourceState, Source}
use Rattle.fs_grammar.specs.declared.fault.TextKind.TheVariants.{Operators}
use Rattle.fs_grammar.specs.declared.fault.TextFault.{TextFault}
use Rattle.fs_grammar.specs.declared.format.Format.{Format}
use Rattle.fs_grammar.specs.declared.format.Format.TheVariants.{One, Two}
use Rattle.fs_grammar.specs.declared.token.TokenKind.{TokenKind}
use Rattle.fs_grammar.specs.declared.token.TokenKind.TheVariants.{Fsmd, Declare, Array, Reset, State, When, Goto, Emit, Port}
use Rattle.fs_grammar.specs.declared.token.TokenKind.TheVariants.{Name, Number, Semicolon, Colon, Comma, Equals, OpenParen}
use Rattle.fs_grammar.specs.declared.token.TokenKind.TheVariants.{CloseParen, OpenBracket, CloseBracket, OpenBrace, CloseBrace}
use Rattle.fs_grammar.specs.declared.token.TokenKind.TheVariants.{Plus, Minus, Star, Slash, Percent, Bang, AndAnd, OrOr, Relation}
use Rattle.fs_grammar.specs.declared.token.TokenKind.TheVariants.{End}
use Rattle.fs_grammar.specs.declared.token.Token.{Token}
use Rattle.fs_grammar.specs.Formats.{format_of}
use Rattle.fs_grammar.specs.Tokens.{refusal, fault_at}

-- ---- what has been read

-- a declaration of more names
abbrev pub with_names : Declaration → List (List ℕ) → Declaration
with_names d xs = record d { names = d.names ++ xs }

-- a source with more states
abbrev pub with_states : Source → List SourceState → Source
with_states s xs = record s { states = s.states ++ xs }

-- the format, the states that were read, and the one that is being read
pub record OpenState : Type 0 where
  pub format : Format
  pub source : Source
  pub state : SourceState

-- more transitions of the state that is being read
abbrev pub with_transitions : OpenState → List SourceTransition → OpenState
with_transitions d ls = record d { state = record d.state { transitions = d.state.transitions ++ ls } }

-- the source with the state that is being read
abbrev pub with_open_state : OpenState → Source
with_open_state d = with_states d.source (d.state ∷ [])

-- a transition up to its target or its last assignment
pub record OpenTransition : Type 0 where
  pub state : OpenState
  pub line : ℕ
  pub guard : Option (Guard (List ℕ))
  pub target : List ℕ
  pub assignments : List (Assignment (List ℕ))

-- more assignments of the transition that is being read
abbrev pub with_assignments : OpenTransition → List (Assignment (List ℕ)) → OpenTransition
with_assignments o xs = record o { assignments = o.assignments ++ xs }

-- the transition that is being read, where it ends
abbrev pub transition_read : OpenTransition → SourceTransition
transition_read o = record { line = o.line; content = record { guard = o.guard; target = o.target; assignments = o.assignments } }

-- its state with the transition that ends
abbrev pub close_transition : OpenTransition → OpenState
close_transition o = with_transitions o.state (transition_read o ∷ [])

-- where a value goes: to a scalar, to an array at an index, or to a port
pub data Destination : Type 0 where
  scalar : List ℕ → Destination
  element : List ℕ → (at : Expression (List ℕ)) → Destination
  port : List ℕ → Destination

-- a value is assigned or emitted
abbrev pub destination_assignment : Destination → Expression (List ℕ) → Assignment (List ℕ)
destination_assignment (scalar x) e = Assign x e
destination_assignment (element x i) e = ArrayWrite x i e
destination_assignment (port x) e = expressions.Emit x e

-- ---- what is still expected

-- what a unit, a conjunction and a guard are read for
mutual
  pub data UnitContext : Type 0 where
    negates : UnitContext → UnitContext
    first_of_all : ConjunctionContext → UnitContext
    and_after : Guard (List ℕ) → ConjunctionContext → UnitContext

  pub data ConjunctionContext : Type 0 where
    first_of_any : GuardContext → ConjunctionContext
    or_after : Guard (List ℕ) → GuardContext → ConjunctionContext

  pub data GuardContext : Type 0 where
    braces : UnitContext → GuardContext
    transition_guard : OpenState → ℕ → GuardContext

-- what a factor, a product and a sum are read for
mutual
  pub data FactorContext : Type 0 where
    first_factor : ProductContext → FactorContext
    times : Expression (List ℕ) → ProductContext → FactorContext
    divides : Expression (List ℕ) → ProductContext → FactorContext
    remainder_of : Expression (List ℕ) → ProductContext → FactorContext
    negative : FactorContext → FactorContext

  pub data ProductContext : Type 0 where
    first_product : SumContext → ProductContext
    plus : Expression (List ℕ) → SumContext → ProductContext
    minus : Expression (List ℕ) → SumContext → ProductContext

  pub data SumContext : Type 0 where
    parens : FactorContext → SumContext
    index : List ℕ → FactorContext → SumContext
    left : UnitContext → SumContext
    right : Rel → Expression (List ℕ) → UnitContext → SumContext
    write_index : OpenTransition → List ℕ → SumContext
    value : OpenTransition → Destination → SumContext

-- a place between two tokens
pub data ParseState : Type 0 where
  at_start : ParseState
  at_format : ParseState
  at_semicolon : Format → ParseState
  at_declaration : Format → List Declaration → ParseState
  at_sort : Format → List Declaration → ℕ → Role → ParseState
  at_declared : Format → List Declaration → Declaration → ParseState
  after_declared : Format → List Declaration → Declaration → ParseState
  at_reset : Format → List Declaration → ℕ → ParseState
  after_reset : Format → Source → ParseState
  at_state : Format → Source → ParseState
  at_state_name : Format → Source → ℕ → ParseState
  after_state_name : OpenState → ParseState
  at_transition : OpenState → ParseState
  at_target : OpenState → ℕ → Option (Guard (List ℕ)) → ParseState
  after_target : OpenTransition → ParseState
  at_assignment : OpenTransition → ParseState
  at_port : OpenTransition → ParseState
  after_assignment_name : OpenTransition → List ℕ → ParseState
  at_equals : OpenTransition → Destination → ParseState
  at_unit : UnitContext → ParseState
  after_conjunction : Guard (List ℕ) → ConjunctionContext → ParseState
  after_guard : Guard (List ℕ) → GuardContext → ParseState
  at_factor : FactorContext → ParseState
  after_name : List ℕ → FactorContext → ParseState
  after_product : Expression (List ℕ) → ProductContext → ParseState
  after_sum : Expression (List ℕ) → SumContext → ParseState

-- where a sum begins
abbrev pub at_sum : SumContext → ParseState
at_sum k = at_factor (first_factor (first_product k))

-- where a guard begins
abbrev pub at_guard : GuardContext → ParseState
at_guard k = at_unit (first_of_all (first_of_any k))

-- a factor has been read
abbrev pub factor_done : Expression (List ℕ) → FactorContext → ParseState
factor_done f (first_factor k) = after_product f k
factor_done f (times p k) = after_product (Product p f) k
factor_done f (divides p k) = after_product (Quotient p f) k
factor_done f (remainder_of p k) = after_product (Remainder p f) k
factor_done f (negative k) = factor_done (Negative f) k

-- a product has been read, and does not go on
abbrev pub product_done : Expression (List ℕ) → ProductContext → ParseState
product_done p (first_product k) = after_sum p k
product_done p (plus s k) = after_sum (Sum s p) k
product_done p (minus s k) = after_sum (Difference s p) k

-- a unit has been read
abbrev pub unit_done : Guard (List ℕ) → UnitContext → ParseState
unit_done u (negates k) = unit_done (Not u) k
unit_done u (first_of_all k) = after_conjunction u k
unit_done u (and_after c k) = after_conjunction (And c u) k

-- a conjunction has been read, and does not go on
abbrev pub conjunction_done : Guard (List ℕ) → ConjunctionContext → ParseState
conjunction_done c (first_of_any k) = after_guard c k
conjunction_done c (or_after g k) = after_guard (Or g c) k

-- a literal has been read
abbrev pub literal_done : Rel → Expression (List ℕ) → Expression (List ℕ) → UnitContext → ParseState
literal_done r a b k = unit_done (Test (record { relation = r; left = a; right = b })) k

-- ---- which token can follow, and what it leads to

abbrev pub step_factor : TokenKind → FactorContext → Option ParseState
step_factor (Number n) k = Some (factor_done (expressions.Number n) k)
step_factor (Name x) k = Some (after_name x k)
step_factor Minus k = Some (at_factor (negative k))
step_factor OpenParen k = Some (at_sum (parens k))
step_factor _ k = None

abbrev pub step_unit : TokenKind → UnitContext → Option ParseState
step_unit Bang k = Some (at_unit (negates k))
step_unit OpenBrace k = Some (at_guard (braces k))
step_unit t k = step_factor t (first_factor (first_product (left k)))

abbrev pub step_guard : TokenKind → Guard (List ℕ) → GuardContext → Option ParseState
step_guard OrOr g k = Some (at_unit (first_of_all (or_after g k)))
step_guard CloseBrace g (braces k) = Some (unit_done g k)
step_guard Goto g (transition_guard d n) = Some (at_target d n (Some g))
step_guard _ g k = None

-- after a guard that may go on
abbrev pub step_guarded : TokenKind → ParseState → Option ParseState
step_guarded t (after_guard g k) = step_guard t g k
step_guarded t _ = None

abbrev pub step_conjunction : TokenKind → Guard (List ℕ) → ConjunctionContext → Option ParseState
step_conjunction AndAnd c k = Some (at_unit (and_after c k))
step_conjunction t c k = step_guarded t (conjunction_done c k)

-- after a conjunction that may go on
abbrev pub step_joined : TokenKind → ParseState → Option ParseState
step_joined t (after_conjunction c k) = step_conjunction t c k
step_joined t _ = None

abbrev pub step_sum : TokenKind → Expression (List ℕ) → SumContext → Option ParseState
step_sum Plus s k = Some (at_factor (first_factor (plus s k)))
step_sum Minus s k = Some (at_factor (first_factor (minus s k)))
step_sum CloseParen s (parens k) = Some (factor_done s k)
step_sum CloseBracket s (index x k) = Some (factor_done (Read x s) k)
step_sum CloseBracket s (write_index o x) = Some (at_equals o (element x s))
step_sum (Relation r) s (left k) = Some (at_sum (right r s k))
step_sum Comma s (value o d) = Some (at_assignment (with_assignments o (destination_assignment d s ∷ [])))
step_sum Semicolon s (value o d) = Some (at_transition (close_transition (with_assignments o (destination_assignment d s ∷ []))))
step_sum t s (right r l k) = step_joined t (literal_done r l s k)
step_sum _ s k = None

-- after a sum that may go on
abbrev pub step_summed : TokenKind → ParseState → Option ParseState
step_summed t (after_sum s k) = step_sum t s k
step_summed t _ = None

abbrev pub step_product : TokenKind → Expression (List ℕ) → ProductContext → Option ParseState
step_product Star p k = Some (at_factor (times p k))
step_product Slash p k = Some (at_factor (divides p k))
step_product Percent p k = Some (at_factor (remainder_of p k))
step_product t p k = step_summed t (product_done p k)

-- after a product that may go on
abbrev pub step_multiplied : TokenKind → ParseState → Option ParseState
step_multiplied t (after_product p k) = step_product t p k
step_multiplied t _ = None

abbrev pub step_name : TokenKind → List ℕ → FactorContext → Option ParseState
step_name OpenBracket x k = Some (at_sum (index x k))
step_name t x k = step_multiplied t (factor_done (Variable x) k)

-- n is the line of the token
abbrev pub step_transition : ℕ → TokenKind → OpenState → Option ParseState
step_transition n When d = Some (at_guard (transition_guard d n))
step_transition n Goto d = Some (at_target d n None)
step_transition n State d = Some (at_state_name d.format (with_open_state d) n)
step_transition n _ d = None

-- the number after the first word is one of a format
abbrev pub step_format : Option Format → Option ParseState
step_format None = None
step_format (Some f) = Some (at_semicolon f)

-- a token that can follow only in texts of format 2
abbrev pub in_format_two : Format → ParseState → Option ParseState
in_format_two One s = None
in_format_two Two s = Some s

-- what a token on line n leads to, or none where it cannot follow
abbrev pub step : ParseState → ℕ → TokenKind → Option ParseState
step at_start n Fsmd = Some at_format
step at_start n _ = None
step at_format n (Number k) = step_format (format_of k)
step at_format n _ = None
step (at_semicolon f) n Semicolon = Some (at_declaration f [])
step (at_semicolon f) n _ = None
step (at_declaration f ds) n (Declare r) = Some (at_sort f ds n r)
step (at_declaration f ds) n Port =
    in_format_two f (at_declared f ds (record { line = n; role = Output; sort = sorts.Port; names = [] }))
step (at_declaration f ds) n Reset = Some (at_reset f ds n)
step (at_declaration f ds) n _ = None
step (at_sort f ds m r) n Array = Some (at_declared f ds (record { line = m; role = r; sort = sorts.Array; names = [] }))
step (at_sort f ds m r) n (Name x) =
    Some (after_declared f ds (record { line = m; role = r; sort = sorts.Scalar; names = x ∷ [] }))
step (at_sort f ds m r) n _ = None
step (at_declared f ds d) n (Name x) = Some (after_declared f ds (with_names d (x ∷ [])))
step (at_declared f ds d) n _ = None
step (after_declared f ds d) n Comma = Some (at_declared f ds d)
step (after_declared f ds d) n Semicolon = Some (at_declaration f (ds ++ d ∷ []))
step (after_declared f ds d) n _ = None
step (at_reset f ds m) n (Name x) = Some (after_reset f (record { declarations = ds; reset_line = m; reset = x; states = [] }))
step (at_reset f ds m) n _ = None
step (after_reset f s) n Semicolon = Some (at_state f s)
step (after_reset f s) n _ = None
step (at_state f s) n State = Some (at_state_name f s n)
step (at_state f s) n _ = None
step (at_state_name f s m) n (Name x) =
    Some (after_state_name (record { format = f; source = s; state = record { line = m; name = x; transitions = [] } }))
step (at_state_name f s m) n _ = None
step (after_state_name d) n Colon = Some (at_transition d)
step (after_state_name d) n _ = None
step (at_transition d) n t = step_transition n t d
step (at_target d m g) n (Name x) = Some (after_target (record { state = d; line = m; guard = g; target = x; assignments = [] }))
step (at_target d m g) n _ = None
step (after_target o) n Colon = Some (at_assignment o)
step (after_target o) n Semicolon = Some (at_transition (close_transition o))
step (after_target o) n _ = None
step (at_assignment o) n (Name x) = Some (after_assignment_name o x)
step (at_assignment o) n Emit = in_format_two o.state.format (at_port o)
step (at_assignment o) n _ = None
step (at_port o) n (Name x) = Some (at_sum (value o (port x)))
step (at_port o) n _ = None
step (after_assignment_name o x) n Equals = Some (at_sum (value o (scalar x)))
step (after_assignment_name o x) n OpenBracket = Some (at_sum (write_index o x))
step (after_assignment_name o x) n _ = None
step (at_equals o d) n Equals = Some (at_sum (value o d))
step (at_equals o d) n _ = None
step (at_unit k) n t = step_unit t k
step (after_conjunction c k) n t = step_conjunction t c k
step (after_guard g k) n t = step_guard t g k
step (at_factor k) n t = step_factor t k
step (after_name x k) n t = step_name t x k
step (after_product p k) n t = step_product t p k
step (after_sum s k) n t = step_sum t s k

-- the source, where a text may end here
abbrev pub finish_source : ParseState → Option Source
finish_source (at_state f s) = Some s
finish_source (at_transition d) = Some (with_open_state d)
finish_source _ = None

-- the source at the end, or the fault at a token that cannot follow
abbrev pub stop_source : TokenKind → TextFault → Option Source → Result Source TextFault
stop_source End f (Some s) = Ok s
stop_source _ f _ = Err f

-- a token that can follow is taken where it is not past the limit
abbrev pub take_token : Token → Option ParseState → (ParseState → Result Source TextFault) → Option Source
    → Result Source TextFault
take_token t (Some s) go end = cond t.past_limit (Err (fault_at t Operators)) (go s)
take_token t None go end = stop_source t.kind (refusal (t ∷ [])) end

-- what the tokens read as from a state on, or the first fault
abbrev pub reading : List Token → ParseState → Result Source TextFault
reading [] s = Err (refusal [])
reading (t ∷ ts) s = take_token t (step s t.place.line t.kind) (reading ts) (finish_source s)

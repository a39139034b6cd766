-- Reading a program token by token. A parse state is what has been read and what is still expected.
use Rattle.std.specs.Prelude.{ℕ, suc, nat_lt, Bool, false, List, [], ◌∷◌, ◌++◌, cond, Option, Some, None, Result, Ok, Err}
use Rattle.fs_model.specs.Expressions.{Guard}
use Rattle.fs_model.specs.Source.{Declaration}
use Rattle.fs_grammar.specs.declared.fault.TextKind.TheVariants.{Operators, Nested}
use Rattle.fs_grammar.specs.declared.fault.TextFault.{TextFault}
use Rattle.fs_grammar.specs.declared.token.TokenKind.{TokenKind}
use Rattle.fs_grammar.specs.declared.token.TokenKind.TheVariants.{Prog, Else, Declare, Name, Semicolon, Equals, OpenBracket}
use Rattle.fs_grammar.specs.declared.token.TokenKind.TheVariants.{CloseBracket, OpenBrace, CloseBrace}
use Rattle.fs_grammar.specs.declared.token.TokenKind.TheVariants as kinds
use Rattle.fs_grammar.specs.declared.token.Token.{Token}
use Rattle.fs_grammar.specs.Tokens.{refusal, fault_at}
use Rattle.fs_grammar.specs.Grammar.{Destination, scalar, element, destination_assignment}
use Rattle.hls_program_parts.specs.Programs.{Block, End, Do, If, While, Program, join_blocks}
use Rattle.hls_program_parts.specs.WellFormedPrograms.{most_depth}
use Rattle.fs_expression_text.specs.Inside.{Inside, Whole, whole_sum, whole_guard, whole_at, at_sum, at_guard, sum_alone}
use Rattle.fs_expression_text.specs.Inside.{guard_alone}
use Rattle.fs_expression_text.specs.Inside as inner
use Rattle.fs_phrase_text.specs.Declaring.{Declaring, Lead}
use Rattle.fs_phrase_text.specs.Declaring as declaring

abbrev pub Named : Type 0
Named = Block (List ℕ)

-- the blocks that are open, each with what was read of the block around it before its statement
pub data Open : Type 0 where
  outermost : List Declaration → Open
  in_yes : Open → Named → ℕ → Guard (List ℕ) → Open
  in_no : Open → Named → ℕ → Guard (List ℕ) → Named → Open
  in_body : Open → Named → ℕ → Guard (List ℕ) → Open

-- in how many others the innermost of them stands
abbrev pub depth_of : Open → ℕ
depth_of (outermost ds) = 0
depth_of (in_yes o b n g) = suc (depth_of o)
depth_of (in_no o b n g y) = suc (depth_of o)
depth_of (in_body o b n g) = suc (depth_of o)

-- what a sum or a guard is read for, with the line of its statement
pub data Hole : Type 0 where
  for_if : Open → Named → ℕ → Hole
  for_while : Open → Named → ℕ → Hole
  for_index : Open → Named → ℕ → List ℕ → Hole
  for_value : Open → Named → ℕ → Destination → Hole

pub data ProgramParseState : Type 0 where
  at_prog : ProgramParseState
  after_prog : ProgramParseState
  at_declaration : List Declaration → ProgramParseState
  in_declaration : List Declaration → Declaring → ProgramParseState
  at_block : Open → ProgramParseState
  at_statement : Open → Named → ProgramParseState
  after_name : Open → Named → ℕ → List ℕ → ProgramParseState
  at_equals : Open → Named → ℕ → Destination → ProgramParseState
  inside : Hole → Inside → ProgramParseState
  after : Hole → Whole → ProgramParseState
  after_yes : Open → Named → ℕ → Guard (List ℕ) → Named → ProgramParseState
  at_no : Open → Named → ℕ → Guard (List ℕ) → Named → ProgramParseState
  at_end : Program → ProgramParseState

-- more declarations
abbrev pub with_declaration : List Declaration → Declaration → List Declaration
with_declaration ds d = ds ++ d ∷ []

-- a statement has been read
abbrev pub more_statements : Open → Named → Named → ProgramParseState
more_statements o b s = at_statement o (join_blocks b s)

-- the innermost block ends
abbrev pub close_block : Open → Named → ProgramParseState
close_block (outermost ds) b = at_end (record { declarations = ds; body = b })
close_block (in_yes o b n g) y = after_yes o b n g y
close_block (in_no o b n g y) z = more_statements o b (If n g y z End)
close_block (in_body o b n g) y = more_statements o b (While n g y End)

-- ---- which token can follow, and what it leads to; n is its line

abbrev pub step_declaration : ℕ → TokenKind → List Declaration → Option ProgramParseState
step_declaration n (Declare r) ds = Some (in_declaration ds (declaring.at_sort n r))
step_declaration n OpenBrace ds = Some (at_block (outermost ds))
step_declaration n _ ds = None

abbrev pub step_declaring : Option Lead → List Declaration → Option ProgramParseState
step_declaring (Some (declaring.inside s)) ds = Some (in_declaration ds s)
step_declaring (Some (declaring.whole d)) ds = Some (at_declaration (with_declaration ds d))
step_declaring None ds = None

abbrev pub step_statement : ℕ → TokenKind → Open → Named → Option ProgramParseState
step_statement n (Name x) o b = Some (after_name o b n x)
step_statement n kinds.If o b = Some (inside (for_if o b n) (at_guard guard_alone))
step_statement n kinds.While o b = Some (inside (for_while o b n) (at_guard guard_alone))
step_statement n CloseBrace o b = Some (close_block o b)
step_statement n _ o b = None

abbrev pub step_after : TokenKind → Hole → Whole → Option ProgramParseState
step_after OpenBrace (for_if o b n) (whole_guard g) = Some (at_block (in_yes o b n g))
step_after OpenBrace (for_while o b n) (whole_guard g) = Some (at_block (in_body o b n g))
step_after CloseBracket (for_index o b n x) (whole_sum i) = Some (at_equals o b n (element x i))
step_after Semicolon (for_value o b n d) (whole_sum e) = Some (more_statements o b (Do n (destination_assignment d e) End))
step_after _ h w = None

-- inside a sum or a guard, or behind one that the token ends
abbrev pub step_inside : Option Inside → Option Whole → Hole → TokenKind → Option ProgramParseState
step_inside (Some i) w h t = Some (inside h i)
step_inside None (Some w) h t = step_after t h w
step_inside None None h t = None

-- what a token on line n leads to, or none where it cannot follow
abbrev pub program_step : ProgramParseState → ℕ → TokenKind → Option ProgramParseState
program_step at_prog n Prog = Some after_prog
program_step at_prog n _ = None
program_step after_prog n Semicolon = Some (at_declaration [])
program_step after_prog n _ = None
program_step (at_declaration ds) n t = step_declaration n t ds
program_step (in_declaration ds s) n t = step_declaring (declaring.declaration_step s t) ds
program_step (at_block o) n t = step_statement n t o End
program_step (at_statement o b) n t = step_statement n t o b
program_step (after_name o b m x) n Equals = Some (inside (for_value o b m (scalar x)) (at_sum sum_alone))
program_step (after_name o b m x) n OpenBracket = Some (inside (for_index o b m x) (at_sum sum_alone))
program_step (after_name o b m x) n _ = None
program_step (at_equals o b m d) n Equals = Some (inside (for_value o b m d) (at_sum sum_alone))
program_step (at_equals o b m d) n _ = None
program_step (inside h i) n t = step_inside (inner.expression_step i t) (whole_at i) h t
program_step (after h w) n t = step_after t h w
program_step (after_yes o b m g y) n Else = Some (at_no o b m g y)
program_step (after_yes o b m g y) n t = step_statement n t o (join_blocks b (If m g y End End))
program_step (at_no o b m g y) n OpenBrace = Some (at_block (in_no o b m g y))
program_step (at_no o b m g y) n _ = None
program_step (at_end p) n t = None

-- ---- what is read

-- a block has been opened that stands in too many others
abbrev pub is_deep : ProgramParseState → Bool
is_deep (at_block o) = nat_lt most_depth (depth_of o)
is_deep _ = false

-- the program, where a text may end here
abbrev pub finish_program : ProgramParseState → Option Program
finish_program (at_end p) = Some p
finish_program _ = None

-- the program at the end, or the fault at a token that cannot follow
abbrev pub stop_program : TokenKind → TextFault → Option Program → Result Program TextFault
stop_program kinds.End f (Some p) = Ok p
stop_program _ f _ = Err f

-- a token that can follow is taken where it is not past the limit and opens no block too deep
abbrev pub take_program_token : Token → Option ProgramParseState → (ProgramParseState → Result Program TextFault) → Option Program
    → Result Program TextFault
take_program_token t (Some s) go end = cond t.past_limit (Err (fault_at t Operators))
    (cond (is_deep s) (Err (fault_at t Nested)) (go s))
take_program_token t None go end = stop_program t.kind (refusal (t ∷ [])) end

-- what the tokens read as from a parse state on, or the first fault
abbrev pub program_reading : List Token → ProgramParseState → Result Program TextFault
program_reading [] s = Err (refusal [])
program_reading (t ∷ ts) s = take_program_token t (program_step s t.place.line t.kind) (program_reading ts) (finish_program s)

-- What stands at the front of the tokens of a program.
use Rattle.std.specs.Prelude.{ℕ, nat_lt, Bool, true, false, cond, Option, Some, None, List, [], ◌∷◌, Result, Ok, Err}
use Rattle.fs_model.specs.declared.parts.Role.{Role}
use Rattle.fs_model.specs.Expressions.{Expression}
use Rattle.fs_grammar.specs.declared.fault.TextKind.TheVariants.{Nested}
use Rattle.fs_grammar.specs.declared.fault.TextFault.{TextFault}
use Rattle.fs_grammar.specs.declared.token.TokenKind.{TokenKind}
use Rattle.fs_grammar.specs.declared.token.TokenKind.TheVariants.{If, While, Declare, OpenBrace, CloseBrace}
use Rattle.fs_grammar.specs.declared.token.Token.{Token}
use Rattle.fs_grammar.specs.Tokens.{kind_at, tokens_after, refusal, fault_at, ◌>>=◌}
use Rattle.fs_grammar.specs.Grammar.{Destination, scalar, element}
use Rattle.hls_program_parts.specs.Programs.{Program}
use Rattle.hls_program_parts.specs.WellFormedPrograms.{most_depth}
use Rattle.hls_program_parts.specs.ProgramGrammar.{Open, depth_of, at_block, program_reading}

abbrev pub role_in : Option TokenKind → Option Role
role_in (Some (Declare r)) = Some r
role_in _ = None

-- the role with which a declaration begins before these tokens, if one begins
abbrev pub role_at : List Token → Option Role
role_at ts = role_in (kind_at ts)

-- a token with which a block ends
abbrev pub ends_block : Option TokenKind → Bool
ends_block (Some CloseBrace) = true
ends_block _ = false

-- a token with which no choice, no loop and no end of a block begins
abbrev pub IsNoKeyword : Option TokenKind → Type 0
IsNoKeyword (Some If) = ⊥
IsNoKeyword (Some While) = ⊥
IsNoKeyword (Some CloseBrace) = ⊥
IsNoKeyword _ = Unit {0}

-- a name with an index, or without one
abbrev pub destination : List ℕ → Option (Expression (List ℕ)) → Destination
destination x None = scalar x
destination x (Some i) = element x i

-- the fault of a brace that opens a block too deep in others
abbrev pub nested_fault : List Token → TextFault
nested_fault [] = record { line = 0; column = 0; kind = Nested }
nested_fault (t ∷ ts) = fault_at t Nested

abbrev pub tokens_behind_brace_by : ℕ → List Token → Option TokenKind → Result (List Token) TextFault
tokens_behind_brace_by depth ts (Some OpenBrace) =
    tokens_after ts >>= λ r. cond (nat_lt most_depth depth) (Err (nested_fault ts)) (Ok r)
tokens_behind_brace_by depth ts _ = Err (refusal ts)

-- the tokens behind the brace that opens a block within so many others
abbrev pub tokens_behind_brace : ℕ → List Token → Result (List Token) TextFault
tokens_behind_brace depth ts = tokens_behind_brace_by depth ts (kind_at ts)

-- what a block reads as from its brace on
abbrev pub block_reading : Open → List Token → Result Program TextFault
block_reading o ts = tokens_behind_brace (depth_of o) ts >>= λ r. program_reading r (at_block o)

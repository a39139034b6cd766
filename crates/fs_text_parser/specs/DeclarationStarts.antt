-- Tokens with which a declaration begins, and the format that a token says.
use Rattle.std.specs.Prelude.{Bool, true, false, Option, Some, None, List}
use Rattle.fs_grammar.specs.declared.format.Format.{Format}
use Rattle.fs_grammar.specs.declared.token.TokenKind.{TokenKind}
use Rattle.fs_grammar.specs.declared.token.TokenKind.TheVariants.{Declare, Port, Emit, Number}
use Rattle.fs_grammar.specs.declared.token.Token.{Token}
use Rattle.fs_grammar.specs.Formats.{format_of}
use Rattle.fs_grammar.specs.Tokens.{kind_at}

-- a token with which a declaration begins
abbrev pub begins_declaration : Option TokenKind → Bool
begins_declaration (Some (Declare role)) = true
begins_declaration (Some Port) = true
begins_declaration _ = false

-- a token with which no emit begins
abbrev pub IsNoEmit : Option TokenKind → Type 0
IsNoEmit (Some Emit) = ⊥
IsNoEmit _ = Unit {0}

abbrev pub format_in : Option TokenKind → Option Format
format_in (Some (Number n)) = format_of n
format_in _ = None

-- the format that the first token says, if it says one
abbrev pub format_at : List Token → Option Format
format_at ts = format_in (kind_at ts)

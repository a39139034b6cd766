-- Tokens before which a part ends, and names.
use Rattle.std.specs.Prelude.{ℕ, Bool, true, false, Option, Some, List, Result, Ok, Err}
use Rattle.fs_grammar.specs.declared.fault.TextFault.{TextFault}
use Rattle.fs_grammar.specs.declared.token.TokenKind.{TokenKind}
use Rattle.fs_grammar.specs.declared.token.TokenKind.TheVariants.{Plus, Minus, Star, Slash, Percent, OpenBracket, Bang, OpenBrace}
use Rattle.fs_grammar.specs.declared.token.TokenKind.TheVariants.{AndAnd, OrOr, When, Goto, Name}
use Rattle.fs_grammar.specs.declared.token.Token.{Token}
use Rattle.fs_grammar.specs.Tokens.{kind_at, tokens_after, refusal, ◌>>=◌}

-- a token with which a sum does not go on
abbrev pub IsNoSum : Option TokenKind → Type 0
IsNoSum (Some Plus) = ⊥
IsNoSum (Some Minus) = ⊥
IsNoSum _ = Unit {0}

-- a sum before these tokens ends
abbrev pub EndsSum : List Token → Type 0
EndsSum ts = IsNoSum (kind_at ts)

-- a token with which a product does not go on
abbrev pub IsNoProduct : Option TokenKind → Type 0
IsNoProduct (Some Star) = ⊥
IsNoProduct (Some Slash) = ⊥
IsNoProduct (Some Percent) = ⊥
IsNoProduct _ = Unit {0}

-- a product before these tokens ends
abbrev pub EndsProduct : List Token → Type 0
EndsProduct ts = IsNoProduct (kind_at ts)

-- a token with which a conjunction does not go on
abbrev pub IsNoAnd : Option TokenKind → Type 0
IsNoAnd (Some AndAnd) = ⊥
IsNoAnd _ = Unit {0}

-- a conjunction before these tokens ends
abbrev pub EndsConjunction : List Token → Type 0
EndsConjunction ts = IsNoAnd (kind_at ts)

-- a token with which a guard does not go on
abbrev pub IsNoOr : Option TokenKind → Type 0
IsNoOr (Some OrOr) = ⊥
IsNoOr _ = Unit {0}

-- a guard before these tokens ends
abbrev pub EndsGuard : List Token → Type 0
EndsGuard ts = IsNoOr (kind_at ts)

-- a token before which a name stands alone
abbrev pub IsNoIndex : Option TokenKind → Type 0
IsNoIndex (Some OpenBracket) = ⊥
IsNoIndex _ = Unit {0}

-- a name before these tokens stands alone
abbrev pub EndsName : List Token → Type 0
EndsName ts = IsNoIndex (kind_at ts)

-- a token with which a unit begins only where it is a literal
abbrev pub IsNoBrace : Option TokenKind → Type 0
IsNoBrace (Some Bang) = ⊥
IsNoBrace (Some OpenBrace) = ⊥
IsNoBrace _ = Unit {0}

-- a unit of these tokens is a literal
abbrev pub IsLiteral : List Token → Type 0
IsLiteral ts = IsNoBrace (kind_at ts)

-- a token with which a transition begins
abbrev pub begins_transition : Option TokenKind → Bool
begins_transition (Some When) = true
begins_transition (Some Goto) = true
begins_transition _ = false

-- a name, and the tokens after it
abbrev pub named_front : List Token → Option TokenKind → Result (List ℕ × List Token) TextFault
named_front ts (Some (Name x)) = tokens_after ts >>= λ r. Ok (x, r)
named_front ts _ = Err (refusal ts)

-- the name at the front, and the tokens after it
abbrev pub name_in : List Token → Result (List ℕ × List Token) TextFault
name_in ts = named_front ts (kind_at ts)

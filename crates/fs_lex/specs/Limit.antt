-- The limit on the operators of one guard or one assignment, and what a text spells within it, by the grammar alone.
use Rattle.std.specs.Prelude.{◌≡◌, ℕ, IsTrue, List, ◌∷◌, ◌++◌}
use Rattle.std.specs.List.{count_by}
use Rattle.fs_model.specs.Source.{Source}
use Rattle.fs_model.specs.Limits.{most_operators}
use Rattle.fs_grammar.specs.declared.fault.TextFault.{TextFault}
use Rattle.fs_grammar.specs.declared.fault.TextKind.{TextKind}
use Rattle.fs_grammar.specs.declared.fault.TextKind.TheVariants.{Operators}
use Rattle.fs_grammar.specs.declared.format.Format.{Format}
use Rattle.fs_grammar.specs.declared.token.TokenKind.TheVariants.{End}
use Rattle.fs_grammar.specs.declared.token.Token.{Token}
use Rattle.fs_grammar.specs.Operators.{is_operator}
use Rattle.fs_grammar.specs.Spelling.{IsFile}
use Rattle.fs_grammar.specs.Beginnings.{BeginsFile}
use Rattle.fs_grammar.specs.ExpressionEnds.{AreSince}
use Rattle.fs_grammar.specs.Faults.{CanFollow, IsWrong}
use Rattle.fs_grammar.specs.WordWalks.{words}

-- how many of the tokens are operators or opening brackets
abbrev pub operator_count : List Token → ℕ
operator_count ts = count_by (λ t. is_operator t.kind) ts

-- An operator or opening bracket behind these tokens, of which as many stand behind the last one after which a guard or an
-- assignment begins as it may have.
pub record IsOneTooMany (before : List Token) (token : Token) : Type 0 where
  pub operator : IsTrue (is_operator token.kind)
  pub part : List Token
  pub since : AreSince before part
  pub full : operator_count part ≡ most_operators

-- none of the tokens is an operator too many
abbrev pub KeepLimit : List Token → Type 0
KeepLimit ts = (a b : List Token) (t : Token) → ts ≡ a ++ t ∷ b → IsOneTooMany a t → ⊥

-- The tokens up to the end spell the source in a format, and none of them is an operator too many.
pub record SpellWithin (ts : List Token) (s : Source) : Type 0 where
  pub before : List Token
  pub token : Token
  pub behind : List Token
  pub parts : ts ≡ before ++ token ∷ behind
  pub ends : token.kind ≡ End
  pub format : Format
  pub file : IsFile format s (words before)
  pub limit : KeepLimit before

-- what is wrong with a token behind others: it can follow and is an operator too many, or what the grammar says
abbrev pub IsWrongWithin : TextKind → List Token → Token → Type 0
IsWrongWithin Operators before token = CanFollow (words before) token × IsOneTooMany before token
IsWrongWithin kind before token = IsWrong kind (words before) token

-- The tokens before begin a file and none of them is an operator too many, and the next one is wrong.
pub record StopWithin (ts : List Token) (f : TextFault) : Type 0 where
  pub before : List Token
  pub token : Token
  pub behind : List Token
  pub parts : ts ≡ before ++ token ∷ behind
  pub begins : BeginsFile (words before)
  pub limit : KeepLimit before
  pub wrong : IsWrongWithin f.kind before token
  pub line : f.line ≡ token.place.line
  pub column : f.column ≡ token.place.column

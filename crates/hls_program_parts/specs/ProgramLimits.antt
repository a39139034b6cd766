-- The limits of programs by the grammar alone: what tokens spell within them, and their first fault.
use Rattle.std.specs.Prelude.{◌≡◌, ℕ, ◌+◌, ◌<◌, cond, IsTrue, List, [], ◌∷◌, ◌++◌}
use Rattle.fs_model.specs.Limits.{most_operators}
use Rattle.fs_grammar.specs.declared.fault.TextFault.{TextFault}
use Rattle.fs_grammar.specs.declared.fault.TextKind.{TextKind}
use Rattle.fs_grammar.specs.declared.fault.TextKind.TheVariants.{BadByte, BadWord, NumberTooBig, Unexpected, Operators, Nested}
use Rattle.fs_grammar.specs.declared.fault.TextKind.TheVariants.{Ended}
use Rattle.fs_grammar.specs.declared.token.Flaw.TheVariants as flaws
use Rattle.fs_grammar.specs.declared.token.TokenKind.{TokenKind}
use Rattle.fs_grammar.specs.declared.token.TokenKind.TheVariants.{OpenBrace, Bad, End}
use Rattle.fs_grammar.specs.declared.token.Token.{Token}
use Rattle.fs_grammar.specs.Operators.{is_operator}
use Rattle.fs_grammar.specs.Spelling.{Word, at}
use Rattle.fs_grammar.specs.WordWalks.{words}
use Rattle.fs_grammar.specs.Faults.{word_of, IsPlain}
use Rattle.hls_program_parts.specs.Programs.{Program}
use Rattle.hls_program_parts.specs.WellFormedPrograms.{most_depth}
use Rattle.hls_program_parts.specs.ProgramSpelling.{IsProgram}
use Rattle.hls_program_parts.specs.ProgramBeginnings.{BeginsProgram, OpensBlock, IsInProgramExpression}

-- how many of the words are operators or opening brackets
abbrev pub word_operator_count : List Word → ℕ
word_operator_count [] = 0
word_operator_count (at n t ∷ ws) = cond (is_operator t) 1 0 + word_operator_count ws

-- what a word is
abbrev pub token_kind_of : Word → TokenKind
token_kind_of (at n t) = t

-- An operator or opening bracket behind words that end in one guard or one assignment, which goes on with it, and has as many of
-- them as it may have.
pub record IsOneTooManyInProgram (ws : List Word) (w : Word) : Type 0 where
  pub operator : IsTrue (is_operator (token_kind_of w))
  pub part : List Word
  pub behind : List Word
  pub expression : IsInProgramExpression ws part (w ∷ behind)
  pub full : word_operator_count part ≡ most_operators

-- A brace that opens a block in more others than one may stand in.
pub record IsTooDeep (ws : List Word) (w : Word) : Type 0 where
  pub brace : token_kind_of w ≡ OpenBrace
  pub depth : ℕ
  pub opens : OpensBlock depth ws
  pub deep : most_depth < depth

-- none of the words is an operator too many, and none opens a block too deep
abbrev pub KeepLimits : List Word → Type 0
KeepLimits ws = (a b : List Word) (w : Word) → ws ≡ a ++ w ∷ b → (IsOneTooManyInProgram a w → ⊥) × (IsTooDeep a w → ⊥)

-- The tokens up to the end spell the program, within the limits.
pub record TokensSpellProgram (ts : List Token) (p : Program) : Type 0 where
  pub before : List Token
  pub token : Token
  pub behind : List Token
  pub parts : ts ≡ before ++ token ∷ behind
  pub ends : token.kind ≡ End
  pub spelled : IsProgram p (words before)
  pub limits : KeepLimits (words before)

-- a token that can follow these words
abbrev pub CanFollowInProgram : List Word → Token → Type 0
CanFollowInProgram ws t = BeginsProgram (ws ++ word_of t ∷ [])

-- what is wrong with a token behind these words
abbrev pub IsWrongInProgram : TextKind → List Word → Token → Type 0
IsWrongInProgram BadByte ws t = t.kind ≡ Bad flaws.Byte
IsWrongInProgram BadWord ws t = t.kind ≡ Bad flaws.Word
IsWrongInProgram NumberTooBig ws t = t.kind ≡ Bad flaws.Number
IsWrongInProgram Unexpected ws t = IsPlain t.kind × (CanFollowInProgram ws t → ⊥)
IsWrongInProgram Operators ws t = CanFollowInProgram ws t × IsOneTooManyInProgram ws (word_of t)
IsWrongInProgram Nested ws t = CanFollowInProgram ws t × IsTooDeep ws (word_of t)
IsWrongInProgram Ended ws t = (t.kind ≡ End) × ((p : Program) → IsProgram p ws → ⊥)

-- The tokens before begin a program within the limits, and the next one is wrong.
pub record TokensStopProgram (ts : List Token) (f : TextFault) : Type 0 where
  pub before : List Token
  pub token : Token
  pub behind : List Token
  pub parts : ts ≡ before ++ token ∷ behind
  pub begins : BeginsProgram (words before)
  pub limits : KeepLimits (words before)
  pub wrong : IsWrongInProgram f.kind (words before) token
  pub line : f.line ≡ token.place.line
  pub column : f.column ≡ token.place.column

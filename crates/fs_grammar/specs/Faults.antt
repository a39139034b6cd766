-- What a list of tokens spells, and its first fault.
use Rattle.std.specs.Prelude.{◌≡◌, true, false, List, [], ◌∷◌, ◌++◌}
use Rattle.std.specs.List.{AllByRecursion}
use Rattle.fs_model.specs.Source.{Source}
use Rattle.fs_grammar.specs.declared.fault.TextKind.{TextKind}
use Rattle.fs_grammar.specs.declared.fault.TextKind.TheVariants.{BadByte, BadWord, NumberTooBig, Unexpected, Operators, Nested}
use Rattle.fs_grammar.specs.declared.fault.TextKind.TheVariants.{Ended}
use Rattle.fs_grammar.specs.declared.fault.TextFault.{TextFault}
use Rattle.fs_grammar.specs.declared.format.Format.{Format}
use Rattle.fs_grammar.specs.declared.token.Flaw.TheVariants as flaws
use Rattle.fs_grammar.specs.declared.token.TokenKind.{TokenKind}
use Rattle.fs_grammar.specs.declared.token.TokenKind.TheVariants.{Bad, End}
use Rattle.fs_grammar.specs.declared.token.Token.{Token}
use Rattle.fs_grammar.specs.Spelling.{Word, at, IsFile}
use Rattle.fs_grammar.specs.WordWalks.{words}
use Rattle.fs_grammar.specs.Beginnings.{BeginsFile}

-- a token without its column
abbrev pub word_of : Token → Word
word_of t = at t.place.line t.kind

-- no token is past the limit of its guard or assignment
abbrev pub AreClear : List Token → Type 0
AreClear ts = AllByRecursion (λ t. t.past_limit ≡ false) ts

-- The tokens up to the end spell the source in a format, and none of them is past the limit.
pub record Spells (s : Source) (ts : List Token) : Type 0 where
  pub before : List Token
  pub token : Token
  pub behind : List Token
  pub parts : ts ≡ before ++ token ∷ behind
  pub ends : token.kind ≡ End
  pub format : Format
  pub file : IsFile format s (words before)
  pub clear : AreClear before

-- neither faulty by itself nor the end
abbrev pub IsPlain : TokenKind → Type 0
IsPlain (Bad flaw) = ⊥
IsPlain End = ⊥
IsPlain _ = Unit {0}

-- a token that can follow these words
abbrev pub CanFollow : List Word → Token → Type 0
CanFollow ws t = BeginsFile (ws ++ word_of t ∷ [])

-- what is wrong with a token behind these words; machine texts have no blocks
abbrev pub IsWrong : TextKind → List Word → Token → Type 0
IsWrong BadByte ws t = t.kind ≡ Bad flaws.Byte
IsWrong BadWord ws t = t.kind ≡ Bad flaws.Word
IsWrong NumberTooBig ws t = t.kind ≡ Bad flaws.Number
IsWrong Unexpected ws t = IsPlain t.kind × (CanFollow ws t → ⊥)
IsWrong Operators ws t = CanFollow ws t × (t.past_limit ≡ true)
IsWrong Nested ws t = ⊥
IsWrong Ended ws t = (t.kind ≡ End) × ((f : Format) (s : Source) → IsFile f s ws → ⊥)

-- The tokens before begin a file and none of them is past the limit, and the next one is wrong.
pub record StopsAt (ts : List Token) (f : TextFault) : Type 0 where
  pub before : List Token
  pub token : Token
  pub behind : List Token
  pub parts : ts ≡ before ++ token ∷ behind
  pub begins : BeginsFile (words before)
  pub clear : AreClear before
  pub wrong : IsWrong f.kind (words before) token
  pub line : f.line ≡ token.place.line
  pub column : f.column ≡ token.place.column

-- the end, or faulty by itself
abbrev pub IsLast : TokenKind → Type 0
IsLast (Bad flaw) = Unit {0}
IsLast End = Unit {0}
IsLast _ = ⊥

-- The last token is the end, or faulty by itself.
pub record AreEndedTokens (ts : List Token) : Type 0 where
  pub before : List Token
  pub token : Token
  pub parts : ts ≡ before ++ token ∷ []
  pub last : IsLast token.kind

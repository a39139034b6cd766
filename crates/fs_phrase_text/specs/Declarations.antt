-- The declaration that stands first in a list of tokens behind its first word, and the first fault where none does.
use Rattle.std.specs.Prelude.{◌≡◌, ℕ, true, List, [], ◌∷◌, ◌++◌}
use Rattle.fs_model.specs.declared.parts.Role.{Role}
use Rattle.fs_model.specs.declared.parts.Role.TheVariants.{Output}
use Rattle.fs_model.specs.declared.parts.Sort.TheVariants as sorts
use Rattle.fs_model.specs.Source.{Declaration}
use Rattle.fs_grammar.specs.declared.fault.TextKind.{TextKind}
use Rattle.fs_grammar.specs.declared.fault.TextKind.TheVariants.{Operators}
use Rattle.fs_grammar.specs.declared.fault.TextFault.{TextFault}
use Rattle.fs_grammar.specs.declared.format.Format.{Format}
use Rattle.fs_grammar.specs.declared.format.Format.TheVariants.{Two}
use Rattle.fs_grammar.specs.declared.token.TokenKind.TheVariants.{Declare, Port}
use Rattle.fs_grammar.specs.declared.token.Token.{Token}
use Rattle.fs_grammar.specs.Tokens.{fault_of}
use Rattle.fs_grammar.specs.Spelling.{Word, at, IsDeclaration}
use Rattle.fs_grammar.specs.WordWalks.{words}
use Rattle.fs_grammar.specs.Beginnings as rules
use Rattle.fs_grammar.specs.Beginnings.{SpellsWhole, Begins}
use Rattle.fs_grammar.specs.Faults.{word_of, AreClear}
use Rattle.fs_phrase_text.specs.Declaring.{Declaring, at_sort, at_name}

-- the first word of a declaration and its line: a role, or `port`
pub data Opening : Type 0 where
  of_role : ℕ → Role → Opening
  of_port : ℕ → Opening

-- the word itself
abbrev pub opening_word : Opening → Word
opening_word (of_role n r) = at n (Declare r)
opening_word (of_port n) = at n Port

-- where the reading behind it begins
abbrev pub declaration_start : Opening → Declaring
declaration_start (of_role n r) = at_sort n r
declaration_start (of_port n) = at_name (record { line = n; role = Output; sort = sorts.Port; names = [] })

-- texts of the format have declarations that open so
abbrev pub IsOf : Format → Opening → Type 0
IsOf f (of_role n r) = Unit {0}
IsOf f (of_port n) = f ≡ Two

-- words behind the first one that begin a declaration with it
abbrev pub BeginsOne : Format → Opening → List Word → Type 0
BeginsOne f o ws = Begins (rules.declaration f) (opening_word o ∷ ws)

-- words that go on as one with this token
abbrev pub DeclarationGoesOn : Format → Opening → List Word → Token → Type 0
DeclarationGoesOn f o ws t = BeginsOne f o (ws ++ word_of t ∷ [])

-- The tokens up to the rest, behind the first word, spell the declaration with it, and none of them is past the limit.
pub record DeclarationStandsFirst (f : Format) (o : Opening) (d : Declaration) (ts rest : List Token) : Type 0 where
  pub before : List Token
  pub parts : ts ≡ before ++ rest
  pub spelled : IsDeclaration f d (opening_word o ∷ words before)
  pub clear : AreClear before

-- What is wrong with a token behind words that begin a declaration. They go on with it, and it is past the limit; or they
-- do not go on with it, though they spell no whole declaration.
pub data IsWrongInDeclaration (f : Format) (o : Opening) (ws : List Word) (t : Token) : TextKind → Type 0 where
  over_limit : DeclarationGoesOn f o ws t → t.past_limit ≡ true → IsWrongInDeclaration f o ws t Operators
  cannot_follow : (DeclarationGoesOn f o ws t → ⊥) → (SpellsWhole (rules.declaration f) (opening_word o ∷ ws) → ⊥)
      → IsWrongInDeclaration f o ws t (fault_of t.kind)

-- The tokens before begin a declaration and none of them is past the limit, and the next one is wrong.
pub record DeclarationStopsAt (f : Format) (o : Opening) (ts : List Token) (fault : TextFault) : Type 0 where
  pub before : List Token
  pub token : Token
  pub behind : List Token
  pub parts : ts ≡ before ++ token ∷ behind
  pub begins : BeginsOne f o (words before)
  pub clear : AreClear before
  pub wrong : IsWrongInDeclaration f o (words before) token fault.kind
  pub line : fault.line ≡ token.place.line
  pub column : fault.column ≡ token.place.column

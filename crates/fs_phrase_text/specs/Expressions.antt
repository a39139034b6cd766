-- The sum or the guard that stands first in a list of tokens, and the first fault where none does.
use Rattle.std.specs.Prelude.{◌≡◌, true, List, [], ◌∷◌, ◌++◌}
use Rattle.fs_grammar.specs.declared.fault.TextKind.{TextKind}
use Rattle.fs_grammar.specs.declared.fault.TextKind.TheVariants.{Operators}
use Rattle.fs_grammar.specs.declared.fault.TextFault.{TextFault}
use Rattle.fs_grammar.specs.declared.token.Token.{Token}
use Rattle.fs_grammar.specs.Tokens.{fault_of}
use Rattle.fs_grammar.specs.Spelling.{Word, IsSum, IsGuard}
use Rattle.fs_grammar.specs.WordWalks.{words}
use Rattle.fs_grammar.specs.Beginnings.{Rule, sum, guard, SpellsWhole, Begins}
use Rattle.fs_grammar.specs.Faults.{word_of, AreClear}
use Rattle.fs_expression_text.specs.Inside.{Inside, at_sum, sum_alone, at_guard, guard_alone, Whole, whole_sum, whole_guard}

-- the two kinds of expressions
pub data ExpressionKind : Type 0 where
  a_sum : ExpressionKind
  a_guard : ExpressionKind

-- where the reading of one by itself begins
abbrev pub expression_start : ExpressionKind → Inside
expression_start a_sum = at_sum sum_alone
expression_start a_guard = at_guard guard_alone

-- the rule of the grammar for one
abbrev pub rule_of : ExpressionKind → Rule
rule_of a_sum = sum
rule_of a_guard = guard

-- words that spell this one, of this kind
abbrev pub SpellsExpression : ExpressionKind → Whole → List Word → Type 0
SpellsExpression a_sum (whole_sum s) ws = IsSum s ws
SpellsExpression a_guard (whole_guard g) ws = IsGuard g ws
SpellsExpression _ _ ws = ⊥

-- words that go on as one with this token
abbrev pub ExpressionGoesOn : ExpressionKind → List Word → Token → Type 0
ExpressionGoesOn e ws t = Begins (rule_of e) (ws ++ word_of t ∷ [])

-- The tokens up to the rest spell it, and none of them is past the limit. It does not go on with the first token of the rest.
pub record ExpressionStandsFirst (e : ExpressionKind) (w : Whole) (ts rest : List Token) : Type 0 where
  pub before : List Token
  pub token : Token
  pub behind : List Token
  pub parts : ts ≡ before ++ token ∷ behind
  pub left : rest ≡ token ∷ behind
  pub spelled : SpellsExpression e w (words before)
  pub clear : AreClear before
  pub ends : ExpressionGoesOn e (words before) token → ⊥

-- What is wrong with a token behind words that begin an expression. They go on with it, and it is past the limit; or they
-- do not go on with it, though they spell no whole expression.
pub data IsWrongInExpression (e : ExpressionKind) (ws : List Word) (t : Token) : TextKind → Type 0 where
  over_limit : ExpressionGoesOn e ws t → t.past_limit ≡ true → IsWrongInExpression e ws t Operators
  cannot_follow : (ExpressionGoesOn e ws t → ⊥) → (SpellsWhole (rule_of e) ws → ⊥) → IsWrongInExpression e ws t (fault_of t.kind)

-- The tokens before begin an expression and none of them is past the limit, and the next one is wrong.
pub record ExpressionStopsAt (e : ExpressionKind) (ts : List Token) (f : TextFault) : Type 0 where
  pub before : List Token
  pub token : Token
  pub behind : List Token
  pub parts : ts ≡ before ++ token ∷ behind
  pub begins : Begins (rule_of e) (words before)
  pub clear : AreClear before
  pub wrong : IsWrongInExpression e (words before) token f.kind
  pub line : f.line ≡ token.place.line
  pub column : f.column ≡ token.place.column

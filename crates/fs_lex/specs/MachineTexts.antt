-- What bytes spell, and where they are faulty: the relations that the reader is measured by. They name no scan and no parse
-- state.
use Rattle.std.specs.Prelude.{ℕ, List, []}
use Rattle.fs_model.specs.Source.{Source}
use Rattle.fs_grammar.specs.declared.fault.TextFault.{TextFault}
use Rattle.fs_grammar.specs.declared.token.Token.{Token}
use Rattle.fs_lex.specs.Tokenization.{AreTokens}
use Rattle.fs_lex.specs.Limit.{SpellWithin, StopWithin}

-- The bytes spell the source: their tokens do, each guard and each assignment within the limit.
pub record TextSpells (bytes : List ℕ) (s : Source) : Type 0 where
  pub tokens : List Token
  pub are : AreTokens [] bytes tokens
  pub spell : SpellWithin tokens s

-- The bytes are faulty here: this is the first of their tokens that is wrong.
pub record TextStops (bytes : List ℕ) (f : TextFault) : Type 0 where
  pub tokens : List Token
  pub are : AreTokens [] bytes tokens
  pub stop : StopWithin tokens f

-- What the bytes of a program spell, and where they are faulty: the relations that the reader is measured by. They name no scan
-- and no parse state.
use Rattle.std.specs.Prelude.{ℕ, false, List, [], map}
use Rattle.fs_grammar.specs.declared.fault.TextFault.{TextFault}
use Rattle.fs_grammar.specs.declared.token.Token.{Token}
use Rattle.fs_lex.specs.Tokenization.{AreTokens}
use Rattle.hls_program_parts.specs.Programs.{Program}
use Rattle.hls_program_parts.specs.ProgramKeywords.{program_kind}
use Rattle.hls_program_parts.specs.ProgramLimits.{TokensSpellProgram, TokensStopProgram}

-- a token of a text as one of a program, without a mark
abbrev pub program_token : Token → Token
program_token t = record { kind = program_kind t.kind; past_limit = false; place = t.place }

-- The bytes spell the program: their tokens do, within the limits.
pub record TextSpellsProgram (bytes : List ℕ) (p : Program) : Type 0 where
  pub tokens : List Token
  pub are : AreTokens [] bytes tokens
  pub spell : TokensSpellProgram (map program_token tokens) p

-- The bytes are faulty here: this is the first of their tokens that is wrong.
pub record ProgramTextStops (bytes : List ℕ) (f : TextFault) : Type 0 where
  pub tokens : List Token
  pub are : AreTokens [] bytes tokens
  pub stop : TokensStopProgram (map program_token tokens) f

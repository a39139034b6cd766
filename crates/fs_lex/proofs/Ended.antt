-- The last token of a text is the end, or faulty by itself.
use Rattle.std.proofs.Common.{ℕ}
use Rattle.std.specs.Prelude.{List, IsTrue}
use Rattle.fs_grammar.specs.declared.token.TokenKind.{TokenKind}
use Rattle.fs_grammar.specs.declared.token.TokenKind.TheVariants.{Bad, End}
use Rattle.fs_grammar.specs.Faults.{IsLast, AreEndedTokens}
use Rattle.fs_lex.specs.Scan.{tokens_of}
use Rattle.fs_lex.specs.Tokenization.{ends_text}
use Rattle.fs_lex.proofs.Counted.{IsCut, cut, tokens_end}

last_ends : (t : TokenKind) → IsTrue (ends_text t) → IsLast t
last_ends (Bad flaw) h = tt
last_ends End h = tt
last_ends _ h = absurd cc

-- the tokens of a text are ended
pub tokens_ended : (bytes : List ℕ) → AreEndedTokens (tokens_of bytes)
tokens_ended bytes =
    let c : IsCut (tokens_of bytes) = cut (tokens_of bytes) (tokens_end bytes) in
    record { before = c.before; token = c.token; parts = c.is; last = last_ends c.token.kind c.last }

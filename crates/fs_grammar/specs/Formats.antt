-- The formats of machine texts, and the numbers that say them.
use Rattle.std.specs.Prelude.{Bool, true, false, zero, suc, ℤ, pos, Option, Some, None}
use Rattle.fs_grammar.specs.declared.format.Format.{Format}
use Rattle.fs_grammar.specs.declared.format.Format.TheVariants.{One, Two}
use Rattle.fs_grammar.specs.declared.token.TokenKind.{TokenKind}
use Rattle.fs_grammar.specs.declared.token.TokenKind.TheVariants.{Emit, Port}

-- the format of a number, or none
abbrev pub format_of : ℤ → Option Format
format_of (pos (suc zero)) = Some One
format_of (pos (suc (suc zero))) = Some Two
format_of _ = None

-- the number of a format
abbrev pub format_number : Format → ℤ
format_number One = pos 1
format_number Two = pos 2

-- the words that can follow only in texts of format 2
abbrev pub is_of_format_two : TokenKind → Bool
is_of_format_two Emit = true
is_of_format_two Port = true
is_of_format_two _ = false

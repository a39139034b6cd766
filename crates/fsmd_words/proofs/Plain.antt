-- Words that begin with no hyphen are no flags.
use Rattle.std.proofs.Common.{◌≡◌, Bool, true, false, [], ◌∷◌, Some, None, refl}
use Rattle.std.specs.Prelude.{◌==◌}
use Rattle.std.specs.Str.{bytes_eq}
use Rattle.clap.specs.Lexer.{strip_byte, long_of, short_of}
use Rattle.clap.specs.Words.{Text}

pub no_hyphens : (word : Text) → strip_byte 45 word ≡ None → bytes_eq word (45 ∷ 45 ∷ []) ≡ false
no_hyphens [] e = refl
no_hyphens (x ∷ xs) e = go (x == 45) refl
  where
    go : (b : Bool) → (x == 45) ≡ b → bytes_eq (x ∷ xs) (45 ∷ 45 ∷ []) ≡ false
    go true t =
        let bad : Some xs ≡ None = rw t at e in
        cc
    go false t = rw t refl

pub no_long : (word : Text) → strip_byte 45 word ≡ None → long_of word ≡ None
no_long word e = rw e refl

pub no_short : (word : Text) → strip_byte 45 word ≡ None → short_of word ≡ None
no_short word e = rw e refl

-- Tokens that are further down spell the same parts further down.
use Rattle.std.proofs.Common.{◌≡◌, ℕ, zero, suc, ◌+◌, ◌-◌, List, [], ◌∷◌, ◌++◌, refl, sym, ap, ap₂, subst, ◌∙◌, cond, arith}
use Rattle.std.specs.Prelude.{Bool, true, false, ◌==◌}
use Rattle.fs_model.specs.Source.{Source}
use Rattle.fs_grammar.specs.declared.fault.TextPlace.{TextPlace}
use Rattle.fs_grammar.specs.declared.token.Token.{Token}
use Rattle.fs_grammar.specs.Spelling.{Word, at, IsFile}
use Rattle.fs_grammar.specs.Faults.{AreClear, Spells}
use Rattle.fs_grammar.specs.WordWalks.{words}
use Rattle.fs_lex.specs.declared.lexemes.Lexeme.{Lexeme}
use Rattle.fs_lex.specs.declared.lexemes.Lexeme.TheVariants as lexemes
use Rattle.fs_lex.specs.Lexemes.{lexeme_of}
use Rattle.fs_lex.specs.Scan.{place_after_byte, scan, emit_token, is_bad, operators_up_to_token}
use Rattle.fs_write.specs.CommentLines.{lines_moved}
use Rattle.fs_write.proofs.MovedWords.{words_moved, file_moves}

-- a token like another, n lines further down in whatever column
pub record IsMoved (n : ℕ) (t u : Token) : Type 0 where
  pub kind : u.kind ≡ t.kind
  pub past_limit : u.past_limit ≡ t.past_limit
  pub line : u.place.line ≡ n + t.place.line

-- tokens like others, n lines further down
abbrev pub AreMoved : ℕ → List Token → List Token → Type 0
AreMoved n [] [] = Unit {0}
AreMoved n [] (u ∷ us) = ⊥
AreMoved n (t ∷ ts) [] = ⊥
AreMoved n (t ∷ ts) (u ∷ us) = IsMoved n t u × AreMoved n ts us

-- ---- the scan from a place that is further down

-- the place behind a byte, which is an LF or not
abbrev place_after : Bool → TextPlace → TextPlace
place_after ends p = cond ends (record { line = p.line + 1; column = 1 }) (record { line = p.line; column = p.column + 1 })

after_moves : (n : ℕ) (ends : Bool) (p q : TextPlace) → q.line ≡ n + p.line → (place_after ends q).line ≡ n + (place_after ends p).line
after_moves n true p q e = omega (arith, e)
after_moves n false p q e = e

unless_bad : (n : ℕ) (b : Bool) (ts us : List Token) → AreMoved n ts us → AreMoved n (cond b [] ts) (cond b [] us)
unless_bad n true ts us h = tt
unless_bad n false ts us h = h

emitted_moves : (n : ℕ) (x : Lexeme) (p q : TextPlace) (operators : ℕ) (before behind : ℕ → ℕ → List Token) → q.line ≡ n + p.line
    → ((k m : ℕ) → AreMoved n (before k m) (behind k m))
    → AreMoved n (emit_token x p operators before) (emit_token x q operators behind)
emitted_moves n (lexemes.Blank k) p q operators before behind e h = h (k - 1) operators
emitted_moves n (lexemes.Token t k) p q operators before behind e h = (
  record { kind = refl; past_limit = refl; line = e },
  unless_bad n (is_bad t) (before (k - 1) (operators_up_to_token t operators)) (behind (k - 1) (operators_up_to_token t operators))
      (h (k - 1) (operators_up_to_token t operators)),
)

pub scan_moves : (n : ℕ) (bs : List ℕ) (skip : ℕ) (p q : TextPlace) (operators : ℕ) → q.line ≡ n + p.line
    → AreMoved n (scan bs skip p operators) (scan bs skip q operators)
scan_moves n [] skip p q operators e = (record { kind = refl; past_limit = refl; line = e }, tt)
scan_moves n (b ∷ bs) (suc skip) p q operators e = scan_moves n bs skip (place_after_byte p b) (place_after_byte q b) operators (after_moves n (b == 10) p q e)
scan_moves n (b ∷ bs) zero p q operators e =
    emitted_moves n (lexeme_of (b ∷ bs)) p q operators (λ k m. scan bs k (place_after_byte p b) m) (λ k m. scan bs k (place_after_byte q b) m) e
    (λ k m. scan_moves n bs k (place_after_byte p b) (place_after_byte q b) m (after_moves n (b == 10) p q e))

-- ---- what is spelled

words_move : (n : ℕ) (ts us : List Token) → AreMoved n ts us → words us ≡ words_moved n (words ts)
words_move n [] [] h = refl
words_move n [] (u ∷ us) h = absurd h
words_move n (t ∷ ts) [] h = absurd h
words_move n (t ∷ ts) (u ∷ us) h = ap₂ (λ (w : Word) (ws : List Word). w ∷ ws) (ap₂ at h.0.line h.0.kind) (words_move n ts us h.1)

clear_moves : (n : ℕ) (ts us : List Token) → AreMoved n ts us → AreClear ts → AreClear us
clear_moves n [] [] h c = tt
clear_moves n [] (u ∷ us) h c = absurd h
clear_moves n (t ∷ ts) [] h c = absurd h
clear_moves n (t ∷ ts) (u ∷ us) h c = (h.0.past_limit ∙ c.0, clear_moves n ts us h.1 c.1)

-- tokens that are moved are cut where the others are
record IsCutMoved (n : ℕ) (a : List Token) (t : Token) (us : List Token) : Type 0 where
  before : List Token
  token : Token
  behind : List Token
  is : us ≡ before ++ token ∷ behind
  first : AreMoved n a before
  one : IsMoved n t token

cut_moved : (n : ℕ) (a : List Token) (t : Token) (b us : List Token) → AreMoved n (a ++ t ∷ b) us → IsCutMoved n a t us
cut_moved n [] t b [] h = absurd h
cut_moved n [] t b (u ∷ us) h = record { before = []; token = u; behind = us; is = refl; first = tt; one = h.0 }
cut_moved n (v ∷ a) t b [] h = absurd h
cut_moved n (v ∷ a) t b (u ∷ us) h =
    let c = cut_moved n a t b us h.1 in
    record { before = u ∷ c.before; token = c.token; behind = c.behind; is = ap (λ (l : List Token). u ∷ l) c.is; first = (h.0, c.first); one = c.one }

pub spelled_moves : (n : ℕ) (ts us : List Token) (s : Source) → AreMoved n ts us → Spells s ts → Spells (lines_moved n s) us
spelled_moves n ts us s h p =
    let c = cut_moved n p.before p.token p.behind us (subst (λ (l : List Token). AreMoved n l us) p.parts h) in
    record {
      before = c.before;
      token = c.token;
      behind = c.behind;
      parts = c.is;
      ends = c.one.kind ∙ p.ends;
      format = p.format;
      file = subst (λ (ws : List Word). IsFile p.format (lines_moved n s) ws) (sym (words_move n p.before c.before c.first))
          (file_moves n p.format s (words p.before) p.file);
      clear = clear_moves n p.before c.before c.first p.clear;
    }

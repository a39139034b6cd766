-- The scan, a lexeme at a time.
use Rattle.std.proofs.Common.{◌≡◌, ℕ, zero, suc, false, ◌-◌, ◌<◌, ◌≤◌, cond, List, [], ◌∷◌, ◌++◌, length, take, drop, refl, sym, ap, ◌∙◌, append_assoc, arith}
use Rattle.fs_grammar.specs.declared.fault.TextPlace.{TextPlace}
use Rattle.fs_grammar.specs.declared.token.TokenKind.{TokenKind}
use Rattle.fs_grammar.specs.declared.token.Token.{Token}
use Rattle.fs_lex.specs.declared.lexemes.Lexeme.{Lexeme}
use Rattle.fs_lex.specs.declared.lexemes.Lexeme.TheVariants as lexemes
use Rattle.fs_lex.specs.Lexemes.{lexeme_of}
use Rattle.fs_lex.specs.Scan.{place_after_byte, place_after_bytes, scan, emit_token, is_past_limit, is_bad, operators_up_to_token}

skips : (bs : List ℕ) (k : ℕ) (p : TextPlace) (operators : ℕ) → k ≤ length bs
    → scan bs k p operators ≡ scan (drop k bs) 0 (place_after_bytes p (take k bs)) operators
skips bs zero p operators h = refl
skips [] (suc k) p operators h = absurd (omega arith)
skips (b ∷ bs) (suc k) p operators h = skips bs k (place_after_byte p b) operators (omega arith)

pub blank_scans : (bs : List ℕ) (n : ℕ) (p : TextPlace) (operators : ℕ) → lexeme_of bs ≡ lexemes.Blank n → 0 < n → n ≤ length bs
    → scan bs 0 p operators ≡ scan (drop n bs) 0 (place_after_bytes p (take n bs)) operators
blank_scans [] n p operators e h l = absurd (omega arith)
blank_scans bs zero p operators e h l = absurd (omega arith)
blank_scans (b ∷ bs) (suc n) p operators e h l =
    let go : ℕ → ℕ → List Token = λ k m. scan bs k (place_after_byte p b) m in
    let m : suc n - 1 ≡ n = omega arith in
    ap (λ (x : Lexeme). emit_token x p operators go) e ∙ ap (λ (k : ℕ). scan bs k (place_after_byte p b) operators) m
    ∙ skips bs n (place_after_byte p b) operators (omega arith)

pub token_scans : (bs : List ℕ) (w : TokenKind) (n : ℕ) (p : TextPlace) (operators : ℕ) → lexeme_of bs ≡ lexemes.Token w n → 0 < n → n ≤ length bs
    → scan bs 0 p operators ≡ record { kind = w; past_limit = is_past_limit w operators; place = p }
    ∷ cond (is_bad w) [] (scan (drop n bs) 0 (place_after_bytes p (take n bs)) (operators_up_to_token w operators))
token_scans [] w n p operators e h l = absurd (omega arith)
token_scans bs w zero p operators e h l = absurd (omega arith)
token_scans (b ∷ bs) w (suc n) p operators e h l =
    let go : ℕ → ℕ → List Token = λ k m. scan bs k (place_after_byte p b) m in
    let t : Token = record { kind = w; past_limit = is_past_limit w operators; place = p } in
    let m : suc n - 1 ≡ n = omega arith in
    ap (λ (x : Lexeme). emit_token x p operators go) e
    ∙ ap (λ (k : ℕ). t ∷ cond (is_bad w) [] (scan bs k (place_after_byte p b) (operators_up_to_token w operators))) m
    ∙ ap (λ (r : List Token). t ∷ cond (is_bad w) [] r) (skips bs n (place_after_byte p b) (operators_up_to_token w operators) (omega arith))

-- a token that is not faulty goes to the end of what was found, and the scan goes on
pub goes_on : (out : List Token) (bs : List ℕ) (w : TokenKind) (n : ℕ) (p : TextPlace) (operators : ℕ) (total : List Token) → lexeme_of bs ≡ lexemes.Token w n
    → 0 < n → n ≤ length bs → is_bad w ≡ false
    → out ++ scan bs 0 p operators ≡ total → (out ++ record { kind = w; past_limit = is_past_limit w operators; place = p } ∷ [])
    ++ scan (drop n bs) 0 (place_after_bytes p (take n bs)) (operators_up_to_token w operators) ≡ total
goes_on out bs w n p operators total e h l b so_far =
    let t : Token = record { kind = w; past_limit = is_past_limit w operators; place = p } in
    let r : List Token = scan (drop n bs) 0 (place_after_bytes p (take n bs)) (operators_up_to_token w operators) in
    let s : scan bs 0 p operators ≡ t ∷ r = token_scans bs w n p operators e h l ∙ rw b refl in
    append_assoc out (t ∷ []) r ∙ ap (λ (x : List Token). out ++ x) (sym s) ∙ so_far

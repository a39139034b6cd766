-- Blanks and comments before a text.
use Rattle.std.proofs.Common.{◌≡◌, ℕ, suc, ◌+◌, ◌≤◌, List, [], ◌∷◌, ◌++◌, length, refl, sym, ap, ap₂, subst, ◌∙◌, cond, append_assoc, take_at, drop_at, arith}
use Rattle.std.proofs.Common.{length-append}
use Rattle.std.specs.Prelude.{Bool, true, false, ◌==◌}
use Rattle.std.specs.List.{All, AllByRecursion, list_all, prefix_len, concat}
use Rattle.std.proofs.lemmas.List.Elements.{recursion_from_All}
use Rattle.std.proofs.lemmas.List.Sums.{sum_by-cons, sum_by-append}
use Rattle.std.proofs.lemmas.Bool.{and_parts, not-true}
use Rattle.fs_model.specs.Source.{Source}
use Rattle.fs_grammar.specs.declared.fault.TextPlace.{TextPlace}
use Rattle.fs_grammar.proofs.Exact.{read_is_spelled, spelled_is_read}
use Rattle.fs_lex.specs.declared.lexemes.Lexeme.TheVariants as lexemes
use Rattle.fs_lex.specs.Lexemes.{is_space, is_in_comment, lexeme_of}
use Rattle.fs_lex.specs.Scan.{place_after_byte, place_after_bytes, scan, tokens_of}
use Rattle.fs_lex.proofs.Scans.{blank_scans}
use Rattle.fs_lex.specs.Tokenization.{IsGap, nothing, blank, comment}
use Rattle.fs_lex.proofs.Places.{moved_behind}
use Rattle.fs_lex.specs.MachineTexts.{TextSpells}
use Rattle.fs_lex.proofs.Texts.{spells, reads}
use Rattle.fs_write.specs.CommentLines.{lines_moved, line_feeds, IsCommentLine}
use Rattle.fs_write.proofs.MovedTokens.{AreMoved, scan_moves, spelled_moves}

-- ---- the scan passes a gap

when_true : {A : Type 0} (t : Bool) (x y : A) → t ≡ true → cond t x y ≡ x
when_true true x y e = refl
when_true false x y e = absurd cc

space_scans : (b : ℕ) (bs : List ℕ) (p : TextPlace) (operators : ℕ) → is_space b ≡ true
    → scan (b ∷ bs) 0 p operators ≡ scan bs 0 (place_after_byte p b) operators
space_scans b bs p operators e =
    let found : lexeme_of (b ∷ bs) ≡ lexemes.Blank 1 = when_true (is_space b) (lexemes.Blank 1) _ e in
    blank_scans (b ∷ bs) 1 p operators found (omega arith) (omega arith)

run_length : (text rest : List ℕ) → list_all is_in_comment text ≡ true → prefix_len is_in_comment (text ++ 10 ∷ rest) ≡ length text
run_length [] rest h = refl
run_length (c ∷ text) rest h =
    let two = and_parts (is_in_comment c) (list_all is_in_comment text) h in
    ap (λ (t : Bool). cond t (1 + prefix_len is_in_comment (text ++ 10 ∷ rest)) 0) two.0 ∙ omega (arith, run_length text rest two.1)

-- a comment and the LF that ends it
comment_scans : (text rest : List ℕ) (p : TextPlace) (operators : ℕ) → list_all is_in_comment text ≡ true
    → scan (35 ∷ (text ++ 10 ∷ rest)) 0 p operators ≡ scan rest 0 (place_after_byte (place_after_bytes p (35 ∷ text)) 10) operators
comment_scans text rest p operators h =
    let n = length text in
    let bytes = text ++ 10 ∷ rest in
    let size : 1 + prefix_len is_in_comment bytes ≡ suc n = omega (arith, run_length text rest h) in
    let found : lexeme_of (35 ∷ bytes) ≡ lexemes.Blank (suc n) = ap lexemes.Blank size in
    let fits : suc n ≤ length (35 ∷ bytes) = omega (arith, length-append text (10 ∷ rest)) in
    blank_scans (35 ∷ bytes) (suc n) p operators found (omega arith) fits
    ∙ ap₂ (λ (left own : List ℕ). scan left 0 (place_after_bytes p (35 ∷ own)) operators) (drop_at text (10 ∷ rest) n refl) (take_at text (10 ∷ rest) n refl)
    ∙ space_scans 10 rest (place_after_bytes p (35 ∷ text)) operators refl

moved_on : (p : TextPlace) (a b : List ℕ) → place_after_bytes p (a ++ b) ≡ place_after_bytes (place_after_bytes p a) b
moved_on p [] b = refl
moved_on p (x ∷ a) b = moved_on (place_after_byte p x) a b

gap_scans : (gap : List ℕ) → IsGap gap → (bytes : List ℕ) (p : TextPlace) (operators : ℕ)
    → scan (gap ++ bytes) 0 p operators ≡ scan bytes 0 (place_after_bytes p gap) operators
gap_scans _ nothing bytes p operators = refl
gap_scans _ (blank b {bs} e g) bytes p operators = space_scans b (bs ++ bytes) p operators e ∙ gap_scans bs g bytes (place_after_byte p b) operators
gap_scans _ (comment text {bs} e g) bytes p operators =
    let q : TextPlace = place_after_byte (place_after_bytes p (35 ∷ text)) 10 in
    ap (λ (l : List ℕ). scan (35 ∷ l) 0 p operators) (append_assoc text (10 ∷ bs) bytes) ∙ comment_scans text (bs ++ bytes) p operators e
    ∙ gap_scans bs g bytes q operators
    ∙ ap (λ (r : TextPlace). scan bytes 0 r operators) (sym (moved_on p (35 ∷ text) (10 ∷ bs)))

-- the tokens behind a gap are those of the text, further down
tokens_move : (gap bytes : List ℕ) → IsGap gap → AreMoved (line_feeds gap) (tokens_of bytes) (tokens_of (gap ++ bytes))
tokens_move gap bytes g =
    let start : TextPlace = record { line = 1; column = 1 } in
    let line : (place_after_bytes start gap).line ≡ 1 + line_feeds gap = ap (λ (p : TextPlace). p.line) (moved_behind [] gap) in
    let further : (place_after_bytes start gap).line ≡ line_feeds gap + 1 = omega (arith, line) in
    subst (AreMoved (line_feeds gap) (tokens_of bytes)) (sym (gap_scans gap g bytes start 0))
    (scan_moves (line_feeds gap) bytes 0 start (place_after_bytes start gap) 0 further)

pub gap_spells : (gap bytes : List ℕ) (s : Source) → IsGap gap → TextSpells bytes s → TextSpells (gap ++ bytes) (lines_moved (line_feeds gap) s)
gap_spells gap bytes s g t =
    let n = line_feeds gap in
    spells (gap ++ bytes) (lines_moved n s)
    (spelled_is_read (lines_moved n s) (tokens_of (gap ++ bytes))
    (spelled_moves n (tokens_of bytes) (tokens_of (gap ++ bytes)) s (tokens_move gap bytes g) (read_is_spelled s (tokens_of bytes) (reads bytes s t))))

-- ---- comment lines

line_with : (line rest : List ℕ) (c : IsCommentLine line) → line ++ rest ≡ 35 ∷ (c.text ++ 10 ∷ rest)
line_with line rest c = ap (λ (l : List ℕ). l ++ rest) c.is ∙ ap (λ (l : List ℕ). 35 ∷ l) (append_assoc c.text (10 ∷ []) rest)

lines_are_gap : (lines : List (List ℕ)) → AllByRecursion IsCommentLine lines → IsGap (concat lines)
lines_are_gap [] h = nothing
lines_are_gap (line ∷ lines) h = subst IsGap (sym (line_with line (concat lines) h.0)) (comment h.0.text h.0.inside (lines_are_gap lines h.1))

abbrev feed : ℕ → ℕ
feed b = cond (b == 10) 1 0

no_feeds : (text : List ℕ) → list_all is_in_comment text ≡ true → line_feeds text ≡ 0
no_feeds [] h = refl
no_feeds (c ∷ text) h =
    let two = and_parts (is_in_comment c) (list_all is_in_comment text) h in
    let none : feed c ≡ 0 = ap (λ (t : Bool). cond t 1 0) (not-true (c == 10) two.0) in
    sum_by-cons feed c text ∙ omega (arith, none, no_feeds text two.1)

one_feed : (line : List ℕ) → IsCommentLine line → line_feeds line ≡ 1
one_feed line c =
    let last : line_feeds (10 ∷ []) ≡ 1 = refl in
    ap line_feeds c.is ∙ sum_by-cons feed 35 (c.text ++ 10 ∷ []) ∙ omega (arith, sum_by-append feed c.text (10 ∷ []), no_feeds c.text c.inside, last)

lines_end : (lines : List (List ℕ)) → AllByRecursion IsCommentLine lines → line_feeds (concat lines) ≡ length lines
lines_end [] h = refl
lines_end (line ∷ lines) h = sum_by-append feed line (concat lines) ∙ omega (arith, one_feed line h.0, lines_end lines h.1)

pub lines_spell : (lines : List (List ℕ)) (bytes : List ℕ) (s : Source) → All IsCommentLine lines → TextSpells bytes s
    → TextSpells (concat lines ++ bytes) (lines_moved (length lines) s)
lines_spell lines bytes s h t =
    let each = recursion_from_All IsCommentLine lines h in
    subst (λ (n : ℕ). TextSpells (concat lines ++ bytes) (lines_moved n s)) (lines_end lines each)
    (gap_spells (concat lines) bytes s (lines_are_gap lines each) t)

-- What is told of the lines of a machine stands in comments.
use Rattle.std.proofs.Common.{◌≡◌, ◌∙◌, ℕ, zero, suc, ◌+◌, ◌/◌, ◌%◌, List, [], ◌∷◌, ◌++◌, length, map, codes, decimal, refl, sym, ap, subst, append_assoc, cond}
use Rattle.std.proofs.Common.{arith}
use Rattle.std.specs.Prelude.{Bool, true, false, not, ◌&&◌, nat_lt, nat_le, ◌==◌}
use Rattle.std.specs.Fmt.{digits, digits_onto, digit_glyph}
use Rattle.std.specs.List.{All, concat, flat_map, list_all, slice_index_or}
use Rattle.std.proofs.lemmas.Bool.Decides.{nat_tests}
use Rattle.std.proofs.lemmas.List.Elements.{All-map}
use Rattle.std.proofs.lemmas.List.Folds.{list_all-append}
use Rattle.std.proofs.lemmas.Bool.{and_from}
use Rattle.fs_model.proofs.Booleans.{and_first, and_second}
use Rattle.fs_model.proofs.Lists.{length_map}
use Rattle.fs_model.specs.Machines.{State, Fsmd}
use Rattle.fs_model.specs.Source.{Source}
use Rattle.fs_model.specs.Words.{is_letter, is_word_byte, is_word, is_reserved, is_name}
use Rattle.fs_model.specs.SoundMachines.{IsSound}
use Rattle.fs_ast.specs.StoredBranches.{state_name_of}
use Rattle.fs_lex.specs.Lexemes.{is_in_comment}
use Rattle.fs_lex.specs.MachineTexts.{TextSpells}
use Rattle.fs_write.specs.CommentLines.{IsCommentLine, lines_moved}
use Rattle.fs_write.proofs.Gaps.{lines_spell}
use Rattle.hls_sched.specs.declared.scheduling.LineReport.{LineReport}
use Rattle.hls_sched.specs.Reports.{Report, report_of}
use Rattle.fsmd_synthesis_answers.specs.ScheduleAnswers.{report_text}

-- a comment does not end in these bytes
abbrev GoesOn : List ℕ → Type 0
GoesOn bytes = list_all is_in_comment bytes ≡ true

both_go_on : (a b : List ℕ) → GoesOn a → GoesOn b → GoesOn (a ++ b)
both_go_on a b h k = list_all-append is_in_comment a b ∙ and_from (list_all is_in_comment a) (list_all is_in_comment b) h k

-- ---- names

byte_goes_on : (b : ℕ) → is_word_byte b ≡ true → is_in_comment b ≡ true
byte_goes_on b h = grind (arith, nat_tests)

letter_goes_on : (b : ℕ) → is_letter b ≡ true → is_in_comment b ≡ true
letter_goes_on b h = grind (arith, nat_tests)

bytes_go_on : (w : List ℕ) → list_all is_word_byte w ≡ true → GoesOn w
bytes_go_on [] h = refl
bytes_go_on (b ∷ w) h =
    and_from (is_in_comment b) (list_all is_in_comment w) (byte_goes_on b (and_first (is_word_byte b) (list_all is_word_byte w) h))
    (bytes_go_on w (and_second (is_word_byte b) (list_all is_word_byte w) h))

word_goes_on : (x : List ℕ) → is_word x ≡ true → GoesOn x
word_goes_on [] h = refl
word_goes_on (b ∷ w) h =
    and_from (is_in_comment b) (list_all is_in_comment w) (letter_goes_on b (and_first (is_letter b) (list_all is_word_byte w) h))
    (bytes_go_on w (and_second (is_letter b) (list_all is_word_byte w) h))

name_goes_on : (x : List ℕ) → is_name x ≡ true → GoesOn x
name_goes_on x h = word_goes_on x (and_first (is_word x) (nat_le (length x) 32) (and_first (is_word x && nat_le (length x) 32) (not (is_reserved x)) h))

states_go_on : (ss : List State) (q : ℕ) → list_all (λ (s : State). is_name s.name) ss ≡ true
    → GoesOn (slice_index_or ss q (record { name = []; transitions = [] })).name
states_go_on [] q h = refl
states_go_on (s ∷ ss) zero h = name_goes_on s.name (and_first (is_name s.name) (list_all (λ (t : State). is_name t.name) ss) h)
states_go_on (s ∷ ss) (suc q) h = states_go_on ss q (and_second (is_name s.name) (list_all (λ (t : State). is_name t.name) ss) h)

-- ---- numbers

glyph_goes_on : (t : Bool) (d : ℕ) → is_in_comment (cond t (48 + d) (87 + d)) ≡ true
glyph_goes_on true d = grind (arith, nat_tests)
glyph_goes_on false d = grind (arith, nat_tests)

either_goes_on : (t : Bool) (a b : List ℕ) → GoesOn a → GoesOn b → GoesOn (cond t a b)
either_goes_on true a b h k = h
either_goes_on false a b h k = k

digits_go_on : (k n : ℕ) (acc : List ℕ) → GoesOn acc → GoesOn (digits_onto k 10 false n acc)
digits_go_on zero n acc h = h
digits_go_on (suc k) n acc h =
    let more : List ℕ = digit_glyph false (n % 10) ∷ acc in
    let goes_on : GoesOn more = and_from (is_in_comment (digit_glyph false (n % 10))) (list_all is_in_comment acc)
    (glyph_goes_on (nat_lt (n % 10) 10) (n % 10)) h in
    either_goes_on (n / 10 == 0) more (digits_onto k 10 false (n / 10) more) goes_on (digits_go_on k (n / 10) more goes_on)

decimal_goes_on : (n : ℕ) → GoesOn (decimal n)
unfolding digits
decimal_goes_on n = digits_go_on 64 n [] refl

-- ---- lines

-- the end of a comment, with its LF
record IsCommentEnd (bytes : List ℕ) : Type 0 where
  text : List ℕ
  is : bytes ≡ text ++ 10 ∷ []
  goes_on : GoesOn text

line_ends : IsCommentEnd (codes "\n")
line_ends = record { text = []; is = refl; goes_on = refl }

before_end : (a : List ℕ) {b : List ℕ} → GoesOn a → IsCommentEnd b → IsCommentEnd (a ++ b)
before_end a {b} h e = record {
  text = a ++ e.text;
  is = ap (λ (l : List ℕ). a ++ l) e.is ∙ sym (append_assoc a e.text (10 ∷ []));
  goes_on = both_go_on a e.text h e.goes_on;
}

is_comment : (m : Fsmd) → IsSound m → (r : Report) → IsCommentLine (report_text m r)
is_comment m sound r =
    let end =
    before_end (codes " ") refl
    (before_end (state_name_of m r.first) (states_go_on m.states r.first sound.states_named)
    (before_end (codes ": ") refl (before_end (decimal r.before) (decimal_goes_on r.before)
    (before_end (codes " to ") refl
    (before_end (decimal r.after) (decimal_goes_on r.after)
    (before_end (codes ", chain ") refl (before_end (decimal r.chain) (decimal_goes_on r.chain) line_ends)))))))
    in
    record { text = end.text; is = ap (λ (l : List ℕ). 35 ∷ l) end.is; inside = end.goes_on }

are_comments : (m : Fsmd) → IsSound m → (rs : List Report) → All IsCommentLine (map (report_text m) rs)
are_comments m sound rs = All-map IsCommentLine (report_text m) rs (λ k d below. is_comment m sound (slice_index_or rs k d))

joined : (f : Report → List ℕ) (rs : List Report) → concat (map f rs) ≡ flat_map f rs
joined f [] = refl
joined f (r ∷ rs) = ap (λ (l : List ℕ). f r ++ l) (joined f rs)

-- behind what is told of lines a text spells what it spelled, further down
told_spells : (m : Fsmd) (lines : List LineReport) (text : List ℕ) (s : Source) → IsSound m → TextSpells text s
    → TextSpells (flat_map (report_text m) (map report_of lines) ++ text) (lines_moved (length lines) s)
told_spells m lines text s sound spells =
    let rs = map report_of lines in
    let told = map (report_text m) rs in
    let count : length told ≡ length lines = length_map (report_text m) rs ∙ length_map report_of lines in
    subst (λ (n : ℕ). TextSpells (flat_map (report_text m) rs ++ text) (lines_moved n s)) count
    (subst (λ (l : List ℕ). TextSpells (l ++ text) (lines_moved (length told) s)) (joined (report_text m) rs)
    (lines_spell told text s (are_comments m sound rs) spells))

pub behind_told : (m : Fsmd) (lines : List LineReport) (told text bytes : List ℕ) (s : Source) → IsSound m
    → told ≡ flat_map (report_text m) (map report_of lines) → bytes ≡ told ++ text → TextSpells text s
    → TextSpells bytes (lines_moved (length lines) s)
behind_told m lines told text bytes s sound is both spells =
    subst (λ (l : List ℕ). TextSpells l (lines_moved (length lines) s)) (sym (both ∙ ap (λ (l : List ℕ). l ++ text) is))
    (told_spells m lines text s sound spells)

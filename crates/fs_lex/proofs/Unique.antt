-- Bytes have one list of tokens.
use Rattle.std.proofs.Common.{◌≡◌, ℕ, suc, ◌+◌, ◌<◌, List, [], ◌∷◌, ◌++◌, length, take, refl, sym, ap, ap₂, subst, ◌∙◌, cond, inl, inr, append_assoc}
use Rattle.std.proofs.Common.{append-nil, arith, length-append}
use Rattle.std.specs.Prelude.{Bool, true, false, ◌||◌, ◌⊎◌, ◌==◌, IsTrue, map}
use Rattle.std.specs.List.{list_all}
use Rattle.std.proofs.lemmas.Bool.{eqb-true, and_parts}
use Rattle.std.proofs.Math.Seq.{take-append_seam}
use Rattle.std.proofs.lemmas.List.{append_cancel_left}
use Rattle.fs_grammar.specs.declared.fault.TextPlace.{TextPlace}
use Rattle.fs_grammar.specs.declared.token.TokenKind.{TokenKind}
use Rattle.fs_grammar.specs.declared.token.TokenKind.TheVariants.{Name, Number, Bad, End}
use Rattle.fs_grammar.specs.declared.token.Flaw.TheVariants as flaws
use Rattle.fs_grammar.specs.declared.token.Token.{Token}
use Rattle.fs_lex.specs.Lexemes.{is_space, is_in_comment}
use Rattle.fs_lex.specs.Vocabulary.{is_lexeme}
use Rattle.fs_lex.specs.Tokenization.{place_behind, IsLongest, BeginsNothing, StandsBefore, IsGap, nothing, blank, comment, IsLastGap, gap, open_comment}
use Rattle.fs_lex.specs.Tokenization.{IsGapBefore, IsNextToken, ends_text, AreTokens, kind_and_place}
use Rattle.fs_lex.proofs.KindOf.{kind_spelled}

-- ---- a token's own bytes

-- a longest lexeme, a byte that begins nothing, or the end
abbrev Stood : List ℕ → List ℕ → Type 0
Stood own rest = IsLongest own rest ⊎ (((b : ℕ) × (own ≡ b ∷ []) × BeginsNothing b rest) ⊎ ((own ≡ []) × (rest ≡ [])))

stood : (t : TokenKind) (own rest : List ℕ) → StandsBefore t own rest → Stood own rest
stood (Name x) own rest h = inl h.2
stood (Number n) own rest h = inl h.3
stood (Bad flaws.Word) own rest h = inl h.2
stood (Bad flaws.Number) own rest h = inl h.2
stood (Bad flaws.Byte) own rest h = inr (inl h)
stood End own rest h = inr (inr h)
stood _ own rest h = inl h.1

-- one list of bytes goes on where another ends
record IsLonger (own rest other later : List ℕ) : Type 0 where
  byte : ℕ
  more : List ℕ
  is : other ≡ own ++ byte ∷ more
  left : rest ≡ byte ∷ (more ++ later)

longer_more : (x : ℕ) (own rest other later : List ℕ) → IsLonger own rest other later → IsLonger (x ∷ own) rest (x ∷ other) later
longer_more x own rest other later l = record { byte = l.byte; more = l.more; is = ap (λ (xs : List ℕ). x ∷ xs) l.is; left = l.left }

compared_more : (x y : ℕ) (own rest other later : List ℕ) → x ≡ y → (own ≡ other) ⊎ (IsLonger own rest other later ⊎ IsLonger other later own rest)
    → (x ∷ own ≡ y ∷ other) ⊎ (IsLonger (x ∷ own) rest (y ∷ other) later ⊎ IsLonger (y ∷ other) later (x ∷ own) rest)
compared_more x y own rest other later e (inl h) = inl cc
compared_more x y own rest other later e (inr (inl h)) =
    inr (inl (subst (λ (z : ℕ). IsLonger (x ∷ own) rest (z ∷ other) later) e (longer_more x own rest other later h)))
compared_more x y own rest other later e (inr (inr h)) =
    inr (inr (subst (λ (z : ℕ). IsLonger (z ∷ other) later (x ∷ own) rest) e (longer_more x other later own rest h)))

compared : (own rest other later : List ℕ) → own ++ rest ≡ other ++ later → (own ≡ other) ⊎ (IsLonger own rest other later ⊎ IsLonger other later own rest)
compared [] rest [] later e = inl refl
compared [] rest (y ∷ other) later e = inr (inl (record { byte = y; more = other; is = refl; left = e }))
compared (x ∷ own) rest [] later e = inr (inr (record { byte = x; more = own; is = refl; left = sym e }))
compared (x ∷ own) rest (y ∷ other) later e =
    let heads : x ≡ y = cc in
    let tails : own ++ rest ≡ other ++ later = cc in
    compared_more x y own rest other later heads (compared own rest other later tails)

lexeme_has_bytes : (own : List ℕ) → IsTrue (is_lexeme own) → 0 < length own
lexeme_has_bytes [] h = absurd cc
lexeme_has_bytes (b ∷ bs) h = omega arith

two_bytes : (own more : List ℕ) (b c : ℕ) → own ++ c ∷ more ≡ b ∷ [] → 0 < length own → ⊥
two_bytes own more b c e h = omega (arith, ap length e, length-append own (c ∷ more))

-- what stands is no longer than what stands
no_longer : (own rest other later : List ℕ) → Stood own rest → Stood other later → IsLonger own rest other later → ⊥
no_longer own rest other later (inl a) (inl b) l =
    let no : is_lexeme other ≡ false = ap is_lexeme l.is ∙ a.no_longer l.byte l.more later l.left in
    let two : true ≡ false = sym b.is ∙ no in
    cc
no_longer own rest other later (inl a) (inr (inl (b, e, n))) l = two_bytes own l.more b l.byte (sym l.is ∙ e) (lexeme_has_bytes own a.is)
no_longer own rest other later (inl a) (inr (inr (e, n))) l = omega (arith, ap length (sym l.is ∙ e), length-append own (l.byte ∷ l.more))
no_longer own rest other later (inr (inl (b, e, n))) (inl a) l =
    let is : other ≡ b ∷ l.byte ∷ l.more = l.is ∙ ap (λ (xs : List ℕ). xs ++ l.byte ∷ l.more) e in
    let no : is_lexeme other ≡ false = ap is_lexeme is ∙ n.lexeme (l.byte ∷ l.more) later l.left in
    let two : true ≡ false = sym a.is ∙ no in
    cc
no_longer own rest other later (inr (inl (b, e, n))) (inr (inl (c, f, m))) l = two_bytes own l.more c l.byte (sym l.is ∙ f) (omega (arith, ap length e))
no_longer own rest other later (inr (inl (b, e, n))) (inr (inr (f, m))) l = omega (arith, ap length (sym l.is ∙ f), length-append own (l.byte ∷ l.more))
no_longer own rest other later (inr (inr (e, n))) s l = omega (arith, ap length (sym n ∙ l.left))

same_compared : (own rest other later : List ℕ) → Stood own rest → Stood other later
    → (own ≡ other) ⊎ (IsLonger own rest other later ⊎ IsLonger other later own rest) → own ≡ other
same_compared own rest other later a b (inl e) = e
same_compared own rest other later a b (inr (inl l)) = absurd (no_longer own rest other later a b l)
same_compared own rest other later a b (inr (inr l)) = absurd (no_longer other later own rest b a l)

-- at one place the tokens that stand have the same bytes
same_own : (own rest other later : List ℕ) → Stood own rest → Stood other later → own ++ rest ≡ other ++ later → own ≡ other
same_own own rest other later a b e = same_compared own rest other later a b (compared own rest other later e)

-- ---- and the same kind

own_bytes : (t : TokenKind) (own rest : List ℕ) → StandsBefore t own rest → Stood own rest → (t ≡ End) ⊎ (0 < length own)
own_bytes t own rest h (inl a) = inr (lexeme_has_bytes own a.is)
own_bytes t own rest h (inr (inl (b, e, n))) = inr (omega (arith, ap length e))
own_bytes End own rest h (inr (inr e)) = inl refl
own_bytes (Name x) own rest h (inr (inr e)) = inr (lexeme_has_bytes own h.2.is)
own_bytes (Number n) own rest h (inr (inr e)) = inr (lexeme_has_bytes own h.3.is)
own_bytes (Bad flaws.Word) own rest h (inr (inr e)) = inr (lexeme_has_bytes own h.2.is)
own_bytes (Bad flaws.Number) own rest h (inr (inr e)) = inr (lexeme_has_bytes own h.2.is)
own_bytes (Bad flaws.Byte) own rest h (inr (inr e)) = inr (omega (arith, ap length h.1))
own_bytes _ own rest h (inr (inr e)) = inr (lexeme_has_bytes own h.1.is)

no_bytes : (t : TokenKind) (own rest : List ℕ) → StandsBefore t own rest → t ≡ End → own ≡ []
no_bytes t own rest h e = (subst (λ (u : TokenKind). StandsBefore u own rest) e h).0

one_kind : (t u : TokenKind) (own rest later : List ℕ) → StandsBefore t own rest → StandsBefore u own later → (t ≡ End) ⊎ (0 < length own)
    → (u ≡ End) ⊎ (0 < length own) → t ≡ u
one_kind t u own rest later h j (inl e) (inl f) = e ∙ sym f
one_kind t u own rest later h j (inl e) (inr l) = absurd (omega (arith, ap length (no_bytes t own rest h e)))
one_kind t u own rest later h j (inr l) (inl f) = absurd (omega (arith, ap length (no_bytes u own later j f)))
one_kind t u own rest later h j (inr l) (inr k) = sym (kind_spelled t own rest h l) ∙ kind_spelled u own later j k

-- at one place one token stands
pub one_token : (t u : TokenKind) (own rest other later : List ℕ) → StandsBefore t own rest → StandsBefore u other later → own ++ rest ≡ other ++ later
    → (t ≡ u) × (own ≡ other)
one_token t u own rest other later h j e =
    let same = same_own own rest other later (stood t own rest h) (stood u other later j) e in
    let here : StandsBefore u own later = subst (λ (xs : List ℕ). StandsBefore u xs later) (sym same) j in
    (one_kind t u own rest later h here (own_bytes t own rest h (stood t own rest h)) (own_bytes u own later here (stood u own later here)), same)

-- ---- gaps

-- the bytes up to the next token, from within a comment or not
abbrev gap_length : Bool → List ℕ → ℕ
gap_length inside [] = 0
gap_length true (b ∷ bs) = 1 + gap_length (is_in_comment b) bs
gap_length false (b ∷ bs) = cond (is_space b) (1 + gap_length false bs) (cond (b == 35) (1 + gap_length true bs) 0)

comment_length : (text bs : List ℕ) → IsTrue (list_all is_in_comment text) → gap_length true (text ++ 10 ∷ bs) ≡ suc (length text) + gap_length false bs
comment_length [] bs h = omega arith
comment_length (c ∷ text) bs h =
    let two = and_parts (is_in_comment c) (list_all is_in_comment text) h in
    ap (λ (b : Bool). 1 + gap_length b (text ++ 10 ∷ bs)) two.0 ∙ omega (arith, comment_length text bs two.1)

text_length : (text : List ℕ) → IsTrue (list_all is_in_comment text) → gap_length true text ≡ length text
text_length [] h = refl
text_length (c ∷ text) h =
    let two = and_parts (is_in_comment c) (list_all is_in_comment text) h in
    ap (λ (b : Bool). 1 + gap_length b text) two.0 ∙ omega (arith, text_length text two.1)

gap_passed : {g : List ℕ} (x : List ℕ) → IsGap g → gap_length false (g ++ x) ≡ length g + gap_length false x
gap_passed x nothing = omega arith
gap_passed x (blank b {bs} s g) = ap (λ (t : Bool). cond t (1 + gap_length false (bs ++ x)) (cond (b == 35) (1 + gap_length true (bs ++ x)) 0)) s
    ∙ omega (arith, gap_passed x g)
gap_passed x (comment text {bs} s g) =
    let whole : (text ++ 10 ∷ bs) ++ x ≡ text ++ 10 ∷ (bs ++ x) = append_assoc text (10 ∷ bs) x in
    ap (λ (xs : List ℕ). 1 + gap_length true xs) whole ∙ omega (arith, comment_length text (bs ++ x) s, gap_passed x g, length-append text (10 ∷ bs))

last_passed : (g : List ℕ) → IsLastGap g → gap_length false g ≡ length g
last_passed _ (gap {bs} g) =
    let here : gap_length false (bs ++ []) ≡ length bs + 0 = gap_passed [] g in
    ap (gap_length false) (sym (append-nil bs)) ∙ here ∙ omega arith
last_passed _ (open_comment {bs} text g s) =
    let here : gap_length false (bs ++ 35 ∷ text) ≡ length bs + (1 + gap_length true text) = gap_passed (35 ∷ text) g in
    here ∙ omega (arith, text_length text s, length-append bs (35 ∷ text))

-- no blank and no comment stands at the front
abbrev IsSolid : List ℕ → Type 0
IsSolid [] = Unit {0}
IsSolid (b ∷ bs) = (is_space b ≡ false) × ((b == 35) ≡ false)

solid_passed : (x : List ℕ) → IsSolid x → gap_length false x ≡ 0
solid_passed [] h = refl
solid_passed (b ∷ bs) h = ap (λ (t : Bool). cond t (1 + gap_length false bs) (cond (b == 35) (1 + gap_length true bs) 0)) h.0
    ∙ ap (λ (t : Bool). cond t (1 + gap_length true bs) 0) h.1

four : (a b c d : Bool) → (a || b || c || d) ≡ true → (a ≡ true) ⊎ ((b ≡ true) ⊎ ((c ≡ true) ⊎ (d ≡ true)))
four true b c d h = inl refl
four false true c d h = inr (inl refl)
four false false true d h = inr (inr (inl refl))
four false false false d h = inr (inr (inr h))

no_lexeme_at : (b n : ℕ) (bs : List ℕ) → (b == n) ≡ true → is_lexeme (n ∷ bs) ≡ false → is_lexeme (b ∷ bs) ≡ false
no_lexeme_at b n bs e h = ap (λ (x : ℕ). is_lexeme (x ∷ bs)) (eqb-true b n e) ∙ h

space_cases : (b : ℕ) (bs : List ℕ) → ((b == 32) ≡ true) ⊎ (((b == 9) ≡ true) ⊎ (((b == 13) ≡ true) ⊎ ((b == 10) ≡ true))) → is_lexeme (b ∷ bs) ≡ false
space_cases b bs (inl e) = no_lexeme_at b 32 bs e refl
space_cases b bs (inr (inl e)) = no_lexeme_at b 9 bs e refl
space_cases b bs (inr (inr (inl e))) = no_lexeme_at b 13 bs e refl
space_cases b bs (inr (inr (inr e))) = no_lexeme_at b 10 bs e refl

not_true : (a b : Bool) → (a ≡ true → b ≡ false) → IsTrue b → a ≡ false
not_true true b f h =
    let two : true ≡ false = sym h ∙ f refl in
    cc
not_true false b f h = refl

solid_lexeme : (own rest : List ℕ) → IsTrue (is_lexeme own) → IsSolid (own ++ rest)
solid_lexeme [] rest h = absurd cc
solid_lexeme (b ∷ bs) rest h = (
  not_true (is_space b) (is_lexeme (b ∷ bs)) (λ s. space_cases b bs (four (b == 32) (b == 9) (b == 13) (b == 10) s)) h,
  not_true (b == 35) (is_lexeme (b ∷ bs)) (λ s. no_lexeme_at b 35 bs s refl) h,
)

solid_token : (own rest : List ℕ) → Stood own rest → IsSolid (own ++ rest)
solid_token own rest (inl a) = solid_lexeme own rest a.is
solid_token own rest (inr (inl (b, e, n))) = subst (λ (xs : List ℕ). IsSolid (xs ++ rest)) (sym e) (n.blank, n.comment)
solid_token own rest (inr (inr (e, f))) =
    let none : own ++ rest ≡ [] = ap₂ (λ (a b : List ℕ). a ++ b) e f in
    subst IsSolid (sym none) tt

token_passed : (t : TokenKind) (g own rest : List ℕ) → IsGapBefore t g → StandsBefore t own rest → gap_length false (g ++ (own ++ rest)) ≡ length g
token_passed End g own rest h s =
    let none : own ++ rest ≡ [] = ap₂ (λ (a b : List ℕ). a ++ b) s.0 s.1 in
    ap (λ (xs : List ℕ). gap_length false (g ++ xs)) none ∙ ap (gap_length false) (append-nil g) ∙ last_passed g h
token_passed t g own rest h s = gap_passed (own ++ rest) h ∙ omega (arith, solid_passed (own ++ rest) (solid_token own rest (stood t own rest s)))

-- the bytes up to the next token
gap_is : (front bytes : List ℕ) (t : Token) (n : IsNextToken front bytes t) → n.gap ≡ take (gap_length false bytes) bytes
gap_is front bytes t n =
    let passed : gap_length false bytes ≡ length n.gap = ap (gap_length false) n.bytes_are ∙ token_passed t.kind n.gap n.own n.rest n.between n.stands in
    sym (ap₂ take passed n.bytes_are ∙ take-append_seam n.gap (n.own ++ n.rest))

-- ---- lists of tokens

record IsSame (front bytes : List ℕ) (t u : Token) (n : IsNextToken front bytes t) (m : IsNextToken front bytes u) : Type 0 where
  kind : t.kind ≡ u.kind
  place : t.place ≡ u.place
  behind : front ++ (n.gap ++ n.own) ≡ front ++ (m.gap ++ m.own)
  left : n.rest ≡ m.rest

one_next : (front bytes : List ℕ) (t u : Token) (n : IsNextToken front bytes t) (m : IsNextToken front bytes u) → IsSame front bytes t u n m
one_next front bytes t u n m =
    let gaps : n.gap ≡ m.gap = gap_is front bytes t n ∙ sym (gap_is front bytes u m) in
    let here : n.gap ++ (n.own ++ n.rest) ≡ n.gap ++ (m.own ++ m.rest) = sym n.bytes_are ∙ m.bytes_are
    ∙ ap (λ (g : List ℕ). g ++ (m.own ++ m.rest)) (sym gaps) in
    let behind : n.own ++ n.rest ≡ m.own ++ m.rest = append_cancel_left n.gap (n.own ++ n.rest) (m.own ++ m.rest) here in
    let same = one_token t.kind u.kind n.own n.rest m.own m.rest n.stands m.stands behind in
    let owned : n.own ++ n.rest ≡ n.own ++ m.rest = behind ∙ ap (λ (xs : List ℕ). xs ++ m.rest) (sym same.1) in
    record {
      kind = same.0;
      place = n.place ∙ ap (λ (g : List ℕ). place_behind (front ++ g)) gaps ∙ sym m.place;
      behind = ap₂ (λ (g o : List ℕ). front ++ (g ++ o)) gaps same.1;
      left = append_cancel_left n.own n.rest m.rest owned;
    }

abbrev pair : TokenKind → TextPlace → TokenKind × TextPlace
pair k p = (k, p)

ends_differ : (k j : TokenKind) → k ≡ j → IsTrue (ends_text k) → ends_text j ≡ false → ⊥
ends_differ k j e h g =
    let two : true ≡ false = sym h ∙ ap ends_text e ∙ g in
    cc

pub one_list : (ts us : List Token) (front bytes : List ℕ) → AreTokens front bytes ts → AreTokens front bytes us → map kind_and_place ts ≡ map kind_and_place us
one_list [] us front bytes h j = absurd h
one_list (t ∷ ts) [] front bytes h j = absurd j
one_list (t ∷ []) (u ∷ []) front bytes h j =
    let s = one_next front bytes t u h.0 j.0 in
    ap₂ (λ (k : TokenKind) (p : TextPlace). pair k p ∷ []) s.kind s.place
one_list (t ∷ []) (u ∷ v ∷ us) front bytes h j =
    let s = one_next front bytes t u h.0 j.0 in
    absurd (ends_differ t.kind u.kind s.kind h.1 j.1)
one_list (t ∷ w ∷ ts) (u ∷ []) front bytes h j =
    let s = one_next front bytes t u h.0 j.0 in
    absurd (ends_differ u.kind t.kind (sym s.kind) j.1 h.1)
one_list (t ∷ w ∷ ts) (u ∷ v ∷ us) front bytes h j =
    let s = one_next front bytes t u h.0 j.0 in
    let others : AreTokens (front ++ (h.0.gap ++ h.0.own)) h.0.rest (v ∷ us) =
    subst (λ (xs : List ℕ). AreTokens xs h.0.rest (v ∷ us)) (sym s.behind)
    (subst (λ (xs : List ℕ). AreTokens (front ++ (j.0.gap ++ j.0.own)) xs (v ∷ us)) (sym s.left) j.2) in
    ap₂ (λ (k : TokenKind) (p : TextPlace). pair k p ∷ map kind_and_place (w ∷ ts)) s.kind s.place
    ∙ ap (λ l. kind_and_place u ∷ l) (one_list (w ∷ ts) (v ∷ us) (front ++ (h.0.gap ++ h.0.own)) h.0.rest h.2 others)

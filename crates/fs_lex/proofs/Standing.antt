-- What the front of the bytes is, said of the bytes.
use Rattle.std.proofs.Common.{◌≡◌, ℕ, suc, ◌+◌, ◌*◌, ◌-◌, ◌^◌, ◌<◌, ◌≤◌, List, [], ◌∷◌, ◌++◌, length, take, drop, refl, sym, ap, subst, ◌∙◌, cond, inl, inr}
use Rattle.std.proofs.Common.{arith}
use native.Mathlib.Numerals.{unary_clauses}
use Rattle.std.proofs.Math.Nat.{mul_comm}
use Rattle.std.specs.Prelude.{pos, Bool, true, false, not, ◌&&◌, ◌||◌, ◌⊎◌, ◌==◌, nat_le, nat_lt, IsTrue, Option, Some, None, is_some, codes}
use Rattle.std.specs.List.{list_all, prefix_len, fold}
use Rattle.std.specs.Map.{lookup}
use Rattle.std.specs.Str.{bytes_eq}
use Rattle.std.proofs.lemmas.Map.Made.{is_some-lookup}
use Rattle.fs_model.proofs.Booleans.{and_false}
use Rattle.fs_model.specs.Digits.{with_digit, value_of_digits}
use Rattle.fs_model.specs.declared.parts.Rel.TheVariants.{Lt, Gt}
use Rattle.fs_model.specs.Limits.{most_number}
use Rattle.fs_model.specs.Words.{is_letter, is_digit, is_word_byte, is_word, is_name, is_reserved}
use Rattle.fs_model.proofs.Words.{digit_is_word_byte}
use Rattle.fs_grammar.specs.declared.token.TokenKind.{TokenKind}
use Rattle.fs_grammar.specs.declared.token.TokenKind.TheVariants.{Name, Number, Semicolon, Colon, Comma, Equals, OpenParen, CloseParen, OpenBracket}
use Rattle.fs_grammar.specs.declared.token.TokenKind.TheVariants.{CloseBracket, OpenBrace, CloseBrace, Plus, Minus, Star, Slash, Percent, Bang, Relation, Bad}
use Rattle.fs_grammar.specs.declared.token.TokenKind.TheVariants.{End}
use Rattle.fs_grammar.specs.declared.token.Flaw.TheVariants as flaws
use Rattle.fs_lex.specs.Lexemes.{is_space, keyword_of, name_or_bad, word_token, number_token, double_punctuation, mark, operator, or_operator}
use Rattle.fs_lex.specs.Lexemes.{single_punctuation}
use Rattle.fs_lex.specs.Vocabulary.{reserved_tokens, double_tokens, single_tokens, reserved_kind, punctuation_kind, is_number, number_value, is_lexeme}
use Rattle.fs_lex.specs.Tokenization.{IsLongest, StandsBefore}
use Rattle.fs_lex.proofs.Tables.{none_unless, lookup_left, lookup_right, other_length, so_of_key, so_of_token}

-- ---- runs of bytes

-- the bytes do not go on with one that passes
abbrev pub StopsAt : (ℕ → Bool) → List ℕ → Type 0
StopsAt p [] = Unit {0}
StopsAt p (c ∷ cs) = p c ≡ false

pub record IsRun (p : ℕ → Bool) (bs : List ℕ) (n : ℕ) : Type 0 where
  pub passes : IsTrue (list_all p (take n bs))
  pub stops : StopsAt p (drop n bs)
  pub fits : n ≤ length bs

run_more : (p : ℕ → Bool) (b : ℕ) (bs : List ℕ) (t : Bool) → p b ≡ t → IsRun p bs (prefix_len p bs) → IsRun p (b ∷ bs) (cond t (1 + prefix_len p bs) 0)
run_more p b bs true e r =
    let n = prefix_len p bs in
    let one : suc n ≡ 1 + n = omega arith in
    subst (IsRun p (b ∷ bs)) one
    (record { passes = ap (λ (x : Bool). x && list_all p (take n bs)) e ∙ r.passes; stops = r.stops; fits = omega (arith, r.fits) })
run_more p b bs false e r = record { passes = refl; stops = e; fits = omega arith }

-- the longest front of bytes that pass is a run
pub run : (p : ℕ → Bool) (bs : List ℕ) → IsRun p bs (prefix_len p bs)
run p [] = record { passes = refl; stops = tt; fits = omega arith }
run p (b ∷ bs) = run_more p b bs (p b) refl (run p bs)

-- bytes with one among them that fails
fails : (p : ℕ → Bool) (xs : List ℕ) (c : ℕ) (more : List ℕ) → p c ≡ false → list_all p (xs ++ c ∷ more) ≡ false
fails p [] c more e = ap (λ (x : Bool). x && list_all p more) e
fails p (x ∷ xs) c more e = ap (λ (y : Bool). p x && y) (fails p xs c more e) ∙ and_false (p x)

stopped : (p : ℕ → Bool) (rest cs : List ℕ) (c : ℕ) → StopsAt p rest → rest ≡ c ∷ cs → p c ≡ false
stopped p rest cs c s e = subst (StopsAt p) e s

-- ---- the first byte of a lexeme

-- a letter, a digit or the low line is at the front
abbrev begins_word : List ℕ → Bool
begins_word [] = false
begins_word (b ∷ bs) = is_word_byte b

no_punctuation : (b : ℕ) (bs : List ℕ) → is_word_byte b ≡ true → punctuation_kind (b ∷ bs) ≡ None
no_punctuation b bs e =
    none_unless (punctuation_kind (b ∷ bs)) (λ t q.
    let no : not (is_word_byte b) ≡ true = so_of_key (λ (xs : List ℕ). not (begins_word xs)) (double_tokens ++ single_tokens) (b ∷ bs) t refl q in
    let two : false ≡ true = ap not (sym e) ∙ no in
    cc)

-- none of the three
three : (a b : Bool) (o : Option TokenKind) → a ≡ false → b ≡ false → o ≡ None → (a || b || is_some o) ≡ false
three a b o e f g = ap (λ (x : Bool). x || b || is_some o) e ∙ ap (λ (x : Bool). x || is_some o) f ∙ ap is_some g

first : (a b : Bool) (o : Option TokenKind) → a ≡ true → IsTrue (a || b || is_some o)
first a b o e = ap (λ (x : Bool). x || b || is_some o) e

second : (a b : Bool) (o : Option TokenKind) → a ≡ false → b ≡ true → IsTrue (a || b || is_some o)
second a b o e f = ap (λ (x : Bool). x || b || is_some o) e ∙ ap (λ (x : Bool). x || is_some o) f

third : (a b : Bool) (o : Option TokenKind) (t : TokenKind) → a ≡ false → b ≡ false → o ≡ Some t → IsTrue (a || b || is_some o)
third a b o t e f g = ap (λ (x : Bool). x || b || is_some o) e ∙ ap (λ (x : Bool). x || is_some o) f ∙ ap is_some g

letter_is_word_byte : (b : ℕ) → is_letter b ≡ true → is_word_byte b ≡ true
letter_is_word_byte b e = ap (λ (x : Bool). x || is_digit b) e

pub letter_no_digit : (b : ℕ) → is_letter b ≡ true → is_digit b ≡ false
letter_no_digit b e = grind (arith, e)

-- ---- words

-- a token with bytes of its own: none that the bytes name or count
abbrev pub is_fixed : TokenKind → Bool
is_fixed (Name x) = false
is_fixed (Number n) = false
is_fixed (Bad flaw) = false
is_fixed End = false
is_fixed _ = true

fixed_stands : (t : TokenKind) (own rest : List ℕ) → is_fixed t ≡ true → (reserved_kind own ≡ Some t) ⊎ (punctuation_kind own ≡ Some t) → IsLongest own rest
    → StandsBefore t own rest
fixed_stands (Name x) own rest f h l = absurd cc
fixed_stands (Number n) own rest f h l = absurd cc
fixed_stands (Bad flaw) own rest f h l = absurd cc
fixed_stands End own rest f h l = absurd cc
fixed_stands _ own rest f h l = (h, l)

reserved_is_fixed : (own : List ℕ) (t : TokenKind) → reserved_kind own ≡ Some t → is_fixed t ≡ true
reserved_is_fixed own t h =
    so_of_token is_fixed reserved_tokens own t refl h

punctuation_is_fixed : (own : List ℕ) (t : TokenKind) → punctuation_kind own ≡ Some t → is_fixed t ≡ true
punctuation_is_fixed own t h =
    so_of_token is_fixed (double_tokens ++ single_tokens) own t refl h

too_long : (a b c : Bool) → a ≡ true → c ≡ false → (a && b && not c) ≡ false → b ≡ false
too_long true true true e f h = absurd cc
too_long true true false e f h = absurd cc
too_long true false c e f h = refl
too_long false b c e f h = absurd cc

above : (n : ℕ) → nat_le n 32 ≡ false → 32 < n
above n e = grind (arith, e)

name_stands : (own rest : List ℕ) (t : Bool) → is_name own ≡ t → IsTrue (is_word own) → is_reserved own ≡ false → IsLongest own rest
    → StandsBefore (cond t (Name own) (Bad flaws.Word)) own rest
name_stands own rest true e w r l = (refl, e, l)
name_stands own rest false e w r l = (w, above (length own) (too_long (is_word own) (nat_le (length own) 32) (is_reserved own) w r e), l)

pub reserved_tells : (own : List ℕ) → is_reserved own ≡ is_some (reserved_kind own)
reserved_tells own = sym (is_some-lookup (bytes_eq own) reserved_tokens)

word_kind_stands : (own rest : List ℕ) (o : Option TokenKind) → reserved_kind own ≡ o → IsTrue (is_word own) → IsLongest own rest
    → StandsBefore (name_or_bad own o) own rest
word_kind_stands own rest (Some t) e w l = fixed_stands t own rest (reserved_is_fixed own t e) (inl e) l
word_kind_stands own rest None e w l = name_stands own rest (is_name own) refl w (reserved_tells own ∙ ap is_some e) l

pub word_stands : (b : ℕ) (ws rest : List ℕ) → is_letter b ≡ true → IsTrue (list_all is_word_byte ws) → StopsAt is_word_byte rest
    → StandsBefore (word_token (b ∷ ws)) (b ∷ ws) rest
word_stands b ws rest e p s =
    let own = b ∷ ws in
    let w : IsTrue (is_word own) = ap (λ (x : Bool). x && list_all is_word_byte ws) e ∙ p in
    let longest_word : IsLongest own rest =
    record {
      is = first (is_word own) (is_number own) (punctuation_kind own) w;
      no_longer = λ c more later q.
          let no_word : is_word (b ∷ (ws ++ c ∷ more)) ≡ false =
          ap (λ (x : Bool). is_letter b && x) (fails is_word_byte ws c more (stopped is_word_byte rest (more ++ later) c s q)) ∙ and_false (is_letter b) in
          let no_number : is_number (b ∷ (ws ++ c ∷ more)) ≡ false = ap (λ (x : Bool). x && list_all is_digit (ws ++ c ∷ more)) (letter_no_digit b e) in
          three (is_word (b ∷ (ws ++ c ∷ more))) (is_number (b ∷ (ws ++ c ∷ more))) (punctuation_kind (b ∷ (ws ++ c ∷ more))) no_word no_number
          (no_punctuation b (ws ++ c ∷ more) (letter_is_word_byte b e));
    } in
    word_kind_stands own rest (keyword_of own) refl w longest_word

-- ---- numbers

grown : (n d p v : ℕ) → (10 * n + d) * p + v ≡ n * (10 * p) + (d * p + v)
grown n d p v = grind (arith)

digits_value : (n : ℕ) (ds : List ℕ) → fold with_digit n ds ≡ n * 10 ^ length ds + number_value ds
digits_value n [] = omega arith
digits_value n (d ∷ ds) =
    let power : 10 * 10 ^ length ds ≡ 10 ^ suc (length ds) = simp unary_clauses (mul_comm 10 (10 ^ length ds)) in
    digits_value (with_digit n d) ds ∙ grown n (d - 48) (10 ^ length ds) (number_value ds)
    ∙ ap (λ (p : ℕ). n * p + ((d - 48) * 10 ^ length ds + number_value ds)) power

decimal_value : (ds : List ℕ) → value_of_digits ds ≡ number_value ds
decimal_value ds = digits_value 0 ds ∙ omega arith

number_kind_stands : (own rest : List ℕ) (v : ℕ) (t : Bool) → nat_lt v (2 ^ 127) ≡ t → v ≡ number_value own → IsTrue (is_number own) → IsLongest own rest
    → StandsBefore (cond t (Number (pos v)) (Bad flaws.Number)) own rest
number_kind_stands own rest v true e f n l = (n, ap pos f, subst (λ (x : ℕ). x ≤ most_number) f (grind (arith, e)), l)
number_kind_stands own rest v false e f n l = (n, subst (λ (x : ℕ). most_number < x) f (grind (arith, e)), l)

pub number_stands : (d : ℕ) (ds rest : List ℕ) → is_letter d ≡ false → is_digit d ≡ true → IsTrue (list_all is_digit ds) → StopsAt is_digit rest
    → StandsBefore (number_token (d ∷ ds)) (d ∷ ds) rest
unfolding number_token
number_stands d ds rest k e p s =
    let own = d ∷ ds in
    let n : IsTrue (is_number own) = ap (λ (x : Bool). x && list_all is_digit ds) e ∙ p in
    let no_word : (more : List ℕ) → is_word (d ∷ more) ≡ false = λ more. ap (λ (x : Bool). x && list_all is_word_byte more) k in
    let longest_number : IsLongest own rest =
    record {
      is = second (is_word own) (is_number own) (punctuation_kind own) (no_word ds) n;
      no_longer = λ c more later q.
          let no_number : is_number (d ∷ (ds ++ c ∷ more)) ≡ false =
          ap (λ (x : Bool). is_digit d && x) (fails is_digit ds c more (stopped is_digit rest (more ++ later) c s q)) ∙ and_false (is_digit d) in
          three (is_word (d ∷ (ds ++ c ∷ more))) (is_number (d ∷ (ds ++ c ∷ more))) (punctuation_kind (d ∷ (ds ++ c ∷ more)))
          (no_word (ds ++ c ∷ more)) no_number
          (no_punctuation d (ds ++ c ∷ more) (digit_is_word_byte d e));
    } in
    number_kind_stands own rest (value_of_digits own) (nat_lt (value_of_digits own) (2 ^ 127)) refl (decimal_value own) n longest_number

-- ---- punctuation

-- what is found is the token, and a byte that begins none is bad
abbrev IsSame : Option TokenKind → TokenKind → Type 0
IsSame (Some u) t = u ≡ t
IsSame None t = t ≡ Bad flaws.Byte

record Agrees (o : Option TokenKind) (t : TokenKind) : Type 0 where
  is : IsSame o t

one_operator : (b : Bool) (t : TokenKind) {o : Option TokenKind} {u : TokenKind} → Agrees o u → Agrees (cond b (Some t) o) (cond b t u)
one_operator true t h = record { is = refl }
one_operator false t h = h

record AgreesWithMark (o : Option TokenKind) (b : ℕ) (m : Option TokenKind) : Type 0 where
  is : IsSame o (or_operator b m)

one_mark : (x : Bool) (t : TokenKind) (b : ℕ) {o m : Option TokenKind} → AgreesWithMark o b m → AgreesWithMark (cond x (Some t) o) b (cond x (Some t) m)
one_mark true t b h = record { is = refl }
one_mark false t b h = h

no_mark : (b : ℕ) {o : Option TokenKind} → Agrees o (operator b) → AgreesWithMark o b None
no_mark b h = record { is = h.is }

single_agrees : (b : ℕ) → AgreesWithMark (lookup (bytes_eq (b ∷ [])) single_tokens) b (mark b)
single_agrees b =
    let is : List ℕ → Bool = λ key. bytes_eq (b ∷ []) key in
    one_mark (is (codes ";")) Semicolon b
    (one_mark (is (codes ":")) Colon b
    (one_mark (is (codes ",")) Comma b
    (one_mark (is (codes "=")) Equals b
    (one_mark (is (codes "(")) OpenParen b
    (one_mark (is (codes ")")) CloseParen b
    (one_mark (is (codes "[")) OpenBracket b
    (one_mark (is (codes "]")) CloseBracket b
    (one_mark (is (codes "{")) OpenBrace b
    (one_mark (is (codes "}")) CloseBrace b
    (no_mark b
    (one_operator (is (codes "+")) Plus
    (one_operator (is (codes "-")) Minus
    (one_operator (is (codes "*")) Star
    (one_operator (is (codes "/")) Slash
    (one_operator (is (codes "%")) Percent
    (one_operator (is (codes "!")) Bang
    (one_operator (is (codes "<")) (Relation Lt)
    (one_operator (is (codes ">")) (Relation Gt) (record { is = refl })))))))))))))))))))

-- one byte is looked up among the punctuation of one byte
one_byte : (b : ℕ) → punctuation_kind (b ∷ []) ≡ lookup (bytes_eq (b ∷ [])) single_tokens
one_byte b = lookup_right double_tokens single_tokens (b ∷ []) (other_length double_tokens 2 (b ∷ []) refl (λ q. omega arith))

single_same : (b : ℕ) → IsSame (punctuation_kind (b ∷ [])) (single_punctuation b)
single_same b = subst (λ (o : Option TokenKind). IsSame o (single_punctuation b)) (sym (one_byte b)) (single_agrees b).is

-- two bytes that are no punctuation of two bytes are none
two_bytes : (b c : ℕ) → double_punctuation b c ≡ None → punctuation_kind (b ∷ c ∷ []) ≡ None
two_bytes b c e =
    lookup_right double_tokens single_tokens (b ∷ c ∷ []) e ∙ other_length single_tokens 1 (b ∷ c ∷ []) refl (λ q. omega arith)

-- three bytes or more are no punctuation
more_bytes : (b c d : ℕ) (more : List ℕ) → punctuation_kind (b ∷ c ∷ d ∷ more) ≡ None
more_bytes b c d more =
    lookup_right double_tokens single_tokens (b ∷ c ∷ d ∷ more) (other_length double_tokens 2 (b ∷ c ∷ d ∷ more) refl (λ q. omega arith))
    ∙ other_length single_tokens 1 (b ∷ c ∷ d ∷ more) refl (λ q. omega arith)

-- a byte that begins no word, number, blank or comment
pub record IsOther (b : ℕ) : Type 0 where
  pub blank : is_space b ≡ false
  pub comment : (b == 35) ≡ false
  pub letter : is_letter b ≡ false
  pub digit : is_digit b ≡ false

not_word : (b : ℕ) (bs : List ℕ) → IsOther b → is_word (b ∷ bs) ≡ false
not_word b bs o = ap (λ (x : Bool). x && list_all is_word_byte bs) o.letter

not_number : (b : ℕ) (bs : List ℕ) → IsOther b → is_number (b ∷ bs) ≡ false
not_number b bs o = ap (λ (x : Bool). x && list_all is_digit bs) o.digit

no_lexeme : (b : ℕ) (bs : List ℕ) → IsOther b → punctuation_kind (b ∷ bs) ≡ None → is_lexeme (b ∷ bs) ≡ false
no_lexeme b bs o e = three (is_word (b ∷ bs)) (is_number (b ∷ bs)) (punctuation_kind (b ∷ bs)) (not_word b bs o) (not_number b bs o) e

a_lexeme : (b : ℕ) (bs : List ℕ) (t : TokenKind) → IsOther b → punctuation_kind (b ∷ bs) ≡ Some t → IsTrue (is_lexeme (b ∷ bs))
a_lexeme b bs t o e = third (is_word (b ∷ bs)) (is_number (b ∷ bs)) (punctuation_kind (b ∷ bs)) t (not_word b bs o) (not_number b bs o) e

-- no more bytes behind this one make punctuation
abbrev NoLonger : ℕ → List ℕ → Type 0
NoLonger b rest = (c : ℕ) (more later : List ℕ) → rest ≡ c ∷ (more ++ later) → punctuation_kind (b ∷ c ∷ more) ≡ None

none_begins : (b : ℕ) (rest : List ℕ) → IsOther b → punctuation_kind (b ∷ []) ≡ None → NoLonger b rest → (more later : List ℕ) → rest ≡ more ++ later
    → is_lexeme (b ∷ more) ≡ false
none_begins b rest o e f [] later q = no_lexeme b [] o e
none_begins b rest o e f (c ∷ more) later q = no_lexeme b (c ∷ more) o (f c more later q)

single_stands : (b : ℕ) (rest : List ℕ) (t : TokenKind) (k : Option TokenKind) → IsOther b → NoLonger b rest → punctuation_kind (b ∷ []) ≡ k → IsSame k t
    → StandsBefore t (b ∷ []) rest
single_stands b rest t (Some u) o f e same =
    let h : punctuation_kind (b ∷ []) ≡ Some t = e ∙ ap (λ (x : TokenKind). Some x) same in
    fixed_stands t (b ∷ []) rest (punctuation_is_fixed (b ∷ []) t h) (inr h)
    (record { is = a_lexeme b [] t o h; no_longer = λ c more later q. no_lexeme b (c ∷ more) o (f c more later q) })
single_stands b rest t None o f e same =
    let bad : StandsBefore (Bad flaws.Byte) (b ∷ []) rest = (b, refl, record { blank = o.blank; comment = o.comment; lexeme = none_begins b rest o e f }) in
    subst (λ (u : TokenKind). StandsBefore u (b ∷ []) rest) (sym same) bad

no_more_bytes : (b : ℕ) → NoLonger b []
no_more_bytes b c more later q = absurd cc

none_longer : (b c : ℕ) (rest : List ℕ) → double_punctuation b c ≡ None → (d : ℕ) (more later : List ℕ) → c ∷ rest ≡ d ∷ (more ++ later)
    → punctuation_kind (b ∷ d ∷ more) ≡ None
none_longer b c rest e d [] later q =
    let same : c ≡ d = cc in
    subst (λ (x : ℕ). punctuation_kind (b ∷ x ∷ []) ≡ None) same (two_bytes b c e)
none_longer b c rest e d (m ∷ more) later q = more_bytes b d m more

pub one_stands : (b : ℕ) → IsOther b → StandsBefore (single_punctuation b) (b ∷ []) []
one_stands b o = single_stands b [] (single_punctuation b) (punctuation_kind (b ∷ [])) o (no_more_bytes b) refl (single_same b)

pub first_stands : (b c : ℕ) (bs : List ℕ) → IsOther b → double_punctuation b c ≡ None → StandsBefore (single_punctuation b) (b ∷ []) (c ∷ bs)
first_stands b c bs o e = single_stands b (c ∷ bs) (single_punctuation b) (punctuation_kind (b ∷ [])) o (none_longer b c bs e) refl (single_same b)

pub both_stand : (b c : ℕ) (bs : List ℕ) (t : TokenKind) → IsOther b → double_punctuation b c ≡ Some t → StandsBefore t (b ∷ c ∷ []) bs
both_stand b c bs t o e =
    let h : punctuation_kind (b ∷ c ∷ []) ≡ Some t = lookup_left double_tokens single_tokens (b ∷ c ∷ []) t e in
    fixed_stands t (b ∷ c ∷ []) bs (punctuation_is_fixed (b ∷ c ∷ []) t h) (inr h)
    (record { is = a_lexeme b (c ∷ []) t o h; no_longer = λ d more later q. no_lexeme b (c ∷ d ∷ more) o (more_bytes b c d more) })

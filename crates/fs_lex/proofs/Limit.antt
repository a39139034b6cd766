-- What is marked is an operator too many by the grammar, so what is read is spelled within the limit, and faults are where it says.
use Rattle.std.proofs.Common.{◌≡◌, ℕ, ◌+◌, ◌≤◌, List, [], ◌∷◌, ◌++◌, refl, sym, ap, subst, ◌∙◌, cond, inl, inr, append_assoc, append-nil, arith}
use Rattle.std.specs.Prelude.{Bool, true, false, ◌&&◌, ◌⊎◌, nat_le, Option, Some, None, Ok, Err, IsTrue}
use Rattle.std.specs.List.{AllByRecursion}
use Rattle.std.proofs.lemmas.Bool.{leb-true, and_parts}
use Rattle.std.proofs.lemmas.List.Sums.{sum_by-cons}
use Rattle.fs_model.specs.Source.{Source}
use Rattle.fs_grammar.specs.declared.format.Format.{Format}
use Rattle.fs_grammar.specs.declared.fault.TextFault.{TextFault}
use Rattle.fs_grammar.specs.declared.fault.TextKind.{TextKind}
use Rattle.fs_grammar.specs.declared.fault.TextKind.TheVariants.{Operators}
use Rattle.fs_grammar.specs.declared.token.Token.{Token}
use Rattle.fs_grammar.specs.Grammar.{ParseState, at_start, reading}
use Rattle.fs_grammar.specs.Operators.{is_operator, starts_expression}
use Rattle.fs_grammar.specs.Spelling.{Word, IsFile}
use Rattle.fs_grammar.specs.Beginnings.{file, BeginsFile}
use Rattle.fs_grammar.specs.ExpressionEnds.{AreSince, EndInExpression}
use Rattle.fs_grammar.specs.Faults.{word_of, AreClear, CanFollow, Spells, StopsAt, IsWrong}
use Rattle.fs_grammar.specs.WordWalks.{words, walk, and_then}
use Rattle.fs_grammar.proofs.Beginning.{leads, walk_append, stuck}
use Rattle.fs_grammar.proofs.Alternatives.{front_begins}
use Rattle.fs_grammar.proofs.Exact.{read_is_spelled, spelled_is_read, fault_is_first, first_is_fault, words_append}
use Rattle.fs_grammar.proofs.Expressions.{tokens_end}
use Rattle.fs_lex.specs.Scan.{operators_up_to_token, is_past_limit, tokens_of}
use Rattle.fs_lex.specs.Tokenization.{IsTokenIn}
use Rattle.fs_lex.proofs.Stood.{stands_in_text}
use Rattle.fs_lex.specs.Limit.{operator_count, IsOneTooMany, KeepLimit, SpellWithin, IsWrongWithin, StopWithin}
use Rattle.fs_lex.proofs.Counted.{AreCounted, tokens_counted}
use Rattle.fs_lex.proofs.Ended.{tokens_ended}

abbrev AreInside : List Token → Type 0
AreInside ts = AllByRecursion (λ t. starts_expression t.kind ≡ false) ts

-- ---- the count along the tokens of a part

one_counted : (s o : Bool) (n m : ℕ) → s ≡ false → cond s 0 (cond o (n + 1) n) + m ≡ n + (cond o 1 0 + m)
one_counted true o n m e = absurd cc
one_counted false true n m e = omega arith
one_counted false false n m e = omega arith

count_more : (u : Token) (part : List Token) → operator_count (u ∷ part) ≡ cond (is_operator u.kind) 1 0 + operator_count part
count_more u part = sum_by-cons (λ (t : Token). cond (is_operator t.kind) 1 0) u part

-- what the scan has counted before a token of the part
along : (part : List Token) (n : ℕ) (t : Token) (behind : List Token) → AreInside part → AreCounted n (part ++ t ∷ behind)
    → t.past_limit ≡ is_past_limit t.kind (n + operator_count part)
along [] n t behind i c =
    let same : n ≡ n + 0 = omega arith in
    c.1 ∙ ap (λ (k : ℕ). is_past_limit t.kind k) same
along (u ∷ part) n t behind i c =
    let same : operators_up_to_token u.kind n + operator_count part ≡ n + operator_count (u ∷ part) =
    one_counted (starts_expression u.kind) (is_operator u.kind) n (operator_count part) i.0 ∙ ap (λ (k : ℕ). n + k) (sym (count_more u part)) in
    along part (operators_up_to_token u.kind n) t behind i.1 c.2 ∙ ap (λ (k : ℕ). is_past_limit t.kind k) same

from_start : (w : Token) (n : ℕ) → starts_expression w.kind ≡ true → operators_up_to_token w.kind n ≡ 0
from_start w n e = ap (λ (b : Bool). cond b 0 (cond (is_operator w.kind) (n + 1) n)) e

-- what is counted behind the token after which a part begins
since_start : (before : List Token) (w : Token) (rest : List Token) (n : ℕ) → starts_expression w.kind ≡ true → AreCounted n (before ++ w ∷ rest)
    → AreCounted 0 rest
since_start [] w rest n e c = subst (λ (k : ℕ). AreCounted k rest) (from_start w n e) c.2
since_start (u ∷ before) w rest n e c = since_start before w rest (operators_up_to_token u.kind n) e c.2

counted_part : (ts : List Token) (part : List Token) (t : Token) (behind : List Token) (n : ℕ) → AreSince ts part → AreCounted n (ts ++ t ∷ behind)
    → AreCounted 0 (part ++ t ∷ behind)
counted_part ts part t behind n e c =
    let same : ts ++ t ∷ behind ≡ e.before ++ e.token ∷ (part ++ t ∷ behind) = ap (λ (l : List Token). l ++ t ∷ behind) e.is
    ∙ append_assoc e.before (e.token ∷ part) (t ∷ behind) in
    since_start e.before e.token (part ++ t ∷ behind) n e.begins (subst (AreCounted n) same c)

-- a token behind a part is marked exactly where it is an operator and the part has 128 at least
pub marked : (ts : List Token) (part : List Token) (t : Token) (behind : List Token) (n : ℕ) → AreSince ts part → AreCounted n (ts ++ t ∷ behind)
    → t.past_limit ≡ is_past_limit t.kind (operator_count part)
marked ts part t behind n e c =
    let zero_more : 0 + operator_count part ≡ operator_count part = omega arith in
    along part 0 t behind e.inside (counted_part ts part t behind n e c) ∙ ap (λ (k : ℕ). is_past_limit t.kind k) zero_more

-- ---- a part of which no token is marked has 128 operators at most

one_few : (s o : Bool) (n : ℕ) → s ≡ false → (o && nat_le 128 n) ≡ false → n ≤ 128 → cond s 0 (cond o (n + 1) n) ≤ 128
one_few true o n e f h = omega arith
one_few false true n e f h = grind (arith, f)
one_few false false n e f h = h

few : (part : List Token) (n : ℕ) (rest : List Token) → AreInside part → AreClear part → AreCounted n (part ++ rest) → n ≤ 128 → n + operator_count part ≤ 128
few [] n rest i o c h = omega arith
few (u ∷ part) n rest i o c h =
    let less : operators_up_to_token u.kind n ≤ 128 = one_few (starts_expression u.kind) (is_operator u.kind) n i.0 (sym c.1 ∙ o.0) h in
    let same : operators_up_to_token u.kind n + operator_count part ≡ n + operator_count (u ∷ part) =
    one_counted (starts_expression u.kind) (is_operator u.kind) n (operator_count part) i.0 ∙ ap (λ (k : ℕ). n + k) (sym (count_more u part)) in
    subst (λ (k : ℕ). k ≤ 128) same (few part (operators_up_to_token u.kind n) rest i.1 o.1 c.2 less)

clear_behind : (a b : List Token) → AreClear (a ++ b) → AreClear b
clear_behind [] b h = h
clear_behind (t ∷ a) b h = clear_behind a b h.1

at_most : (ts : List Token) (part : List Token) (t : Token) (behind : List Token) (n : ℕ) → AreSince ts part → AreClear ts
    → AreCounted n (ts ++ t ∷ behind) → operator_count part ≤ 128
at_most ts part t behind n e o c =
    let same : ts ≡ (e.before ++ e.token ∷ []) ++ part = e.is ∙ sym (append_assoc e.before (e.token ∷ []) part) in
    let clear : AreClear part = clear_behind (e.before ++ e.token ∷ []) part (subst AreClear same o) in
    omega (arith, few part 0 (t ∷ behind) e.inside clear (counted_part ts part t behind n e c) (omega arith))

-- ---- the first token that is marked

marked_counts : (ts : List Token) (t : Token) (behind : List Token) (n : ℕ) → AreCounted n (ts ++ t ∷ behind) → t.past_limit ≡ true
    → IsTrue (is_operator t.kind)
marked_counts [] t behind n c h = (and_parts (is_operator t.kind) (nat_le 128 n) (sym c.1 ∙ h)).0
marked_counts (u ∷ ts) t behind n c h = marked_counts ts t behind (operators_up_to_token u.kind n) c.2 h

-- the first marked token that can follow is one too many
first_marked : (ts : List Token) (t : Token) (behind : List Token) (n : ℕ) → AreCounted n (ts ++ t ∷ behind) → AreClear ts → CanFollow (words ts) t
    → t.past_limit ≡ true → IsOneTooMany ts t
first_marked ts t behind n c o f h =
    let i : IsTrue (is_operator t.kind) = marked_counts ts t behind n c h in
    let e : (part : List Token) × EndInExpression ts part = tokens_end ts t i f in
    let s : AreSince ts e.0 = e.1.since in
    let two = and_parts (is_operator t.kind) (nat_le 128 (operator_count e.0)) (sym (marked ts e.0 t behind n s c) ∙ h) in
    let least : 128 ≤ operator_count e.0 = leb-true 128 (operator_count e.0) two.1 in
    let most : operator_count e.0 ≤ 128 = at_most ts e.0 t behind n s o c in
    record { operator = i; part = e.0; since = s; full = omega arith }

-- a token that is one too many is marked
excess_marked : (ts : List Token) (t : Token) (behind : List Token) (n : ℕ) → AreCounted n (ts ++ t ∷ behind) → IsOneTooMany ts t → t.past_limit ≡ true
excess_marked ts t behind n c x =
    let full : is_past_limit t.kind (operator_count x.part) ≡ is_past_limit t.kind 128 = ap (λ (k : ℕ). is_past_limit t.kind k) x.full in
    marked ts x.part t behind n x.since c ∙ full ∙ ap (λ (b : Bool). b && true) x.operator

clear_at : (a b : List Token) (t : Token) → AreClear (a ++ t ∷ b) → t.past_limit ≡ false
clear_at [] b t h = h.0
clear_at (u ∷ a) b t h = clear_at a b t h.1

none_before : (before rest a b : List Token) (t : Token) (n : ℕ) → AreCounted n (before ++ rest) → AreClear before → before ≡ a ++ t ∷ b → IsOneTooMany a t → ⊥
none_before before rest a b t n c o e x =
    let same : before ++ rest ≡ a ++ t ∷ (b ++ rest) = ap (λ (l : List Token). l ++ rest) e ∙ append_assoc a (t ∷ b) rest in
    let yes : t.past_limit ≡ true = excess_marked a t (b ++ rest) n (subst (AreCounted n) same c) x in
    let no : t.past_limit ≡ false = clear_at a b t (subst AreClear e o) in
    let two : true ≡ false = sym yes ∙ no in
    cc

-- ---- tokens that begin a file, none of them one too many, are not marked

front_walks : (o : Option ParseState) (a b : List Word) → walk a at_start ≡ o → BeginsFile (a ++ b) → BeginsFile a
front_walks None a b e h = absurd (stuck (a ++ b) (walk_append a b at_start ∙ ap (λ (o : Option ParseState). and_then o (walk b)) e) h)
front_walks (Some s) a b e h = leads a s e

front_of_file : (a b : List Word) → BeginsFile (a ++ b) → BeginsFile a
front_of_file a b h = front_walks (walk a at_start) a b refl h

-- the first token that is marked
record IsFirstMark (ts : List Token) : Type 0 where
  before : List Token
  token : Token
  behind : List Token
  is : ts ≡ before ++ token ∷ behind
  clear : AreClear before
  mark : token.past_limit ≡ true

cons_clear_or_marked : (t : Token) (ts : List Token) → t.past_limit ≡ false → AreClear ts ⊎ IsFirstMark ts → AreClear (t ∷ ts) ⊎ IsFirstMark (t ∷ ts)
cons_clear_or_marked t ts e (inl h) = inl (e, h)
cons_clear_or_marked t ts e (inr m) =
    inr (record { before = t ∷ m.before; token = m.token; behind = m.behind; is = ap (λ (l : List Token). t ∷ l) m.is; clear = (e, m.clear); mark = m.mark })

marks_or : (b : Bool) (t : Token) (ts : List Token) → t.past_limit ≡ b → AreClear ts ⊎ IsFirstMark ts → AreClear (t ∷ ts) ⊎ IsFirstMark (t ∷ ts)
marks_or true t ts e h = inr (record { before = []; token = t; behind = ts; is = refl; clear = tt; mark = e })
marks_or false t ts e h = cons_clear_or_marked t ts e h

clear_or_marked : (ts : List Token) → AreClear ts ⊎ IsFirstMark ts
clear_or_marked [] = inl tt
clear_or_marked (t ∷ ts) = marks_or t.past_limit t ts refl (clear_or_marked ts)

clear_before : (before rest : List Token) → AreCounted 0 (before ++ rest) → BeginsFile (words before) → KeepLimit before → AreClear before ⊎ IsFirstMark before
    → AreClear before
clear_before before rest c h first (inl o) = o
clear_before before rest c h first (inr m) =
    let counts : before ++ rest ≡ m.before ++ m.token ∷ (m.behind ++ rest) = ap (λ (l : List Token). l ++ rest) m.is
    ∙ append_assoc m.before (m.token ∷ m.behind) rest in
    let spelled : words before ≡ (words m.before ++ word_of m.token ∷ []) ++ words m.behind =
    ap words m.is ∙ words_append m.before (m.token ∷ m.behind) ∙ sym (append_assoc (words m.before) (word_of m.token ∷ []) (words m.behind)) in
    let follows : CanFollow (words m.before) m.token = front_of_file (words m.before ++ word_of m.token ∷ []) (words m.behind) (subst BeginsFile spelled h) in
    absurd (first m.before m.behind m.token m.is (first_marked m.before m.token (m.behind ++ rest) 0 (subst (AreCounted 0) counts c) m.clear follows m.mark))

keep_limit : (before rest : List Token) → AreCounted 0 (before ++ rest) → AreClear before → KeepLimit before
keep_limit before rest c o a b t e x = none_before before rest a b t 0 c o e x

clear : (before rest : List Token) → AreCounted 0 (before ++ rest) → BeginsFile (words before) → KeepLimit before → AreClear before
clear before rest c h k = clear_before before rest c h k (clear_or_marked before)

-- ---- what is read

spelled_within : (ts : List Token) (s : Source) → AreCounted 0 ts → Spells s ts → SpellWithin ts s
spelled_within ts s c p =
    record {
      before = p.before;
      token = p.token;
      behind = p.behind;
      parts = p.parts;
      ends = p.ends;
      format = p.format;
      file = p.file;
      limit = keep_limit p.before (p.token ∷ p.behind) (subst (AreCounted 0) p.parts c) p.clear;
    }

-- the words of a file begin a file
whole_begins : (f : Format) (s : Source) (ws : List Word) → IsFile f s ws → BeginsFile ws
whole_begins f s ws h = front_begins file ws [] (f, s, subst (λ (l : List Word). IsFile f s l) (sym (append-nil ws)) h)

within_spelled : (ts : List Token) (s : Source) → AreCounted 0 ts → SpellWithin ts s → Spells s ts
within_spelled ts s c p =
    record {
      before = p.before;
      token = p.token;
      behind = p.behind;
      parts = p.parts;
      ends = p.ends;
      format = p.format;
      file = p.file;
      clear = clear p.before (p.token ∷ p.behind) (subst (AreCounted 0) p.parts c) (whole_begins p.format s (words p.before) p.file) p.limit;
    }

pub spelled_found : (bytes : List ℕ) (s : Source) → reading (tokens_of bytes) at_start ≡ Ok s → SpellWithin (tokens_of bytes) s
spelled_found bytes s e = spelled_within (tokens_of bytes) s (tokens_counted bytes) (read_is_spelled s (tokens_of bytes) e)

pub spelled_only : (bytes : List ℕ) (s : Source) → SpellWithin (tokens_of bytes) s → reading (tokens_of bytes) at_start ≡ Ok s
spelled_only bytes s p = spelled_is_read s (tokens_of bytes) (within_spelled (tokens_of bytes) s (tokens_counted bytes) p)

-- ---- what is refused

wrong_within : (k : TextKind) (before : List Token) (token : Token) (behind : List Token) → AreCounted 0 (before ++ token ∷ behind) → AreClear before
    → IsWrong k (words before) token → IsWrongWithin k before token
wrong_within Operators before token behind c o w = (w.0, first_marked before token behind 0 c o w.0 w.1)
wrong_within _ before token behind c o w = w

within_wrong : (k : TextKind) (before : List Token) (token : Token) (behind : List Token) → AreCounted 0 (before ++ token ∷ behind)
    → IsWrongWithin k before token → IsWrong k (words before) token
within_wrong Operators before token behind c w = (w.0, excess_marked before token behind 0 c w.1)
within_wrong _ before token behind c w = w

stopped_within : (ts : List Token) (f : TextFault) → AreCounted 0 ts → StopsAt ts f → StopWithin ts f
stopped_within ts f c s =
    let here : AreCounted 0 (s.before ++ s.token ∷ s.behind) = subst (AreCounted 0) s.parts c in
    record {
      before = s.before;
      token = s.token;
      behind = s.behind;
      parts = s.parts;
      begins = s.begins;
      limit = keep_limit s.before (s.token ∷ s.behind) here s.clear;
      wrong = wrong_within f.kind s.before s.token s.behind here s.clear s.wrong;
      line = s.line;
      column = s.column;
    }

within_stopped : (ts : List Token) (f : TextFault) → AreCounted 0 ts → StopWithin ts f → StopsAt ts f
within_stopped ts f c s =
    let here : AreCounted 0 (s.before ++ s.token ∷ s.behind) = subst (AreCounted 0) s.parts c in
    record {
      before = s.before;
      token = s.token;
      behind = s.behind;
      parts = s.parts;
      begins = s.begins;
      clear = clear s.before (s.token ∷ s.behind) here s.begins s.limit;
      wrong = within_wrong f.kind s.before s.token s.behind here s.wrong;
      line = s.line;
      column = s.column;
    }

pub fault_found : (bytes : List ℕ) (f : TextFault) → reading (tokens_of bytes) at_start ≡ Err f → StopWithin (tokens_of bytes) f
fault_found bytes f e = stopped_within (tokens_of bytes) f (tokens_counted bytes) (fault_is_first (tokens_of bytes) f (tokens_ended bytes) e)

pub fault_only : (bytes : List ℕ) (f : TextFault) → StopWithin (tokens_of bytes) f → reading (tokens_of bytes) at_start ≡ Err f
fault_only bytes f s = first_is_fault (tokens_of bytes) f (within_stopped (tokens_of bytes) f (tokens_counted bytes) s)

pub fault_stands : (bytes : List ℕ) (f : TextFault) → reading (tokens_of bytes) at_start ≡ Err f
    → (s : StopWithin (tokens_of bytes) f) × IsTokenIn bytes s.token
fault_stands bytes f e =
    let s = fault_found bytes f e in
    (s, stands_in_text bytes s.before s.behind s.token s.parts)

-- ---- the mark

pub mark_counts : (bytes : List ℕ) (before behind part : List Token) (t : Token) → tokens_of bytes ≡ before ++ t ∷ behind → EndInExpression before part
    → t.past_limit ≡ (is_operator t.kind && nat_le 128 (operator_count part))
mark_counts bytes before behind part t e x = marked before part t behind 0 x.since (subst (AreCounted 0) e (tokens_counted bytes))

pub operators_alone : (bytes : List ℕ) (before behind : List Token) (t : Token) → tokens_of bytes ≡ before ++ t ∷ behind → IsTrue t.past_limit
    → IsTrue (is_operator t.kind)
operators_alone bytes before behind t e h = marked_counts before t behind 0 (subst (AreCounted 0) e (tokens_counted bytes)) h

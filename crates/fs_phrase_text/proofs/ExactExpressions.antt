-- The reading gives what stands first, or stops at the first fault, and nowhere else.
use Rattle.std.proofs.Common.{◌≡◌, Bool, true, false, cond, List, [], ◌∷◌, ◌++◌, Option, Some, None, Result, Ok, Err, refl, sym, ap, subst, ◌∙◌, append_assoc}
use Rattle.std.proofs.Common.{inl, inr}
use Rattle.std.specs.Prelude.{◌⊎◌}
use Rattle.std.proofs.lemmas.List.{append-nil}
use Rattle.fs_grammar.specs.declared.fault.TextKind.{TextKind}
use Rattle.fs_grammar.specs.declared.fault.TextKind.TheVariants.{Operators}
use Rattle.fs_grammar.specs.declared.fault.TextFault.{TextFault}
use Rattle.fs_grammar.specs.declared.token.TokenKind.{TokenKind}
use Rattle.fs_grammar.specs.declared.token.TokenKind.TheVariants.{Bad, End}
use Rattle.fs_grammar.specs.declared.token.Token.{Token}
use Rattle.fs_grammar.specs.Tokens.{fault_of, fault_at}
use Rattle.fs_grammar.specs.Spelling.{Word}
use Rattle.fs_grammar.specs.WordWalks.{words, and_then}
use Rattle.fs_grammar.specs.Beginnings.{SpellsWhole, Begins}
use Rattle.fs_grammar.specs.Faults.{word_of, AreClear, IsLast, AreEndedTokens}
use Rattle.fs_grammar.proofs.Alternatives.{completed}
use Rattle.fs_grammar.proofs.Inside.{is_inside, IsInside, AreInside, front, sum_inside, guard_inside}
use Rattle.fs_grammar.proofs.Exact.{words_append, clear_more}
use Rattle.fs_expression_text.specs.Inside.{Inside, expression_step, Whole, whole_sum, whole_guard, whole_at, end_whole}
use Rattle.fs_expression_text.specs.Inside.{take_expression_token, parse_expression}
use Rattle.fs_phrase_text.specs.Expressions.{ExpressionKind, a_sum, a_guard, expression_start, rule_of, SpellsExpression, ExpressionGoesOn}
use Rattle.fs_phrase_text.specs.Expressions.{ExpressionStandsFirst}
use Rattle.fs_phrase_text.specs.Expressions.{IsWrongInExpression, over_limit, cannot_follow, ExpressionStopsAt}
use Rattle.fs_phrase_text.proofs.SoundExpressions.{walk, sound}
use Rattle.fs_phrase_text.proofs.CompleteExpressions.{final, complete}
use Rattle.fs_phrase_text.proofs.Beginning.{leads, walk_append, spelled_ends, stuck}

-- ---- tokens that were read

-- tokens that were read, and where they lead
record Done (e : ExpressionKind) (before : List Token) (i : Inside) : Type 0 where
  leads_to : walk (words before) (expression_start e) ≡ Some i
  clear : AreClear before

on_some : (o : Option Inside) → and_then o (walk []) ≡ o
on_some None = refl
on_some (Some i) = refl

walk_more : (e : ExpressionKind) (ws : List Word) (i : Inside) (t : Token) → walk ws (expression_start e) ≡ Some i
    → walk (ws ++ word_of t ∷ []) (expression_start e) ≡ expression_step i t.kind
walk_more e ws i t q = walk_append ws (word_of t ∷ []) (expression_start e) ∙ rw q (on_some (expression_step i t.kind))

done_more : (e : ExpressionKind) (before : List Token) (i j : Inside) (t : Token) → Done e before i → expression_step i t.kind ≡ Some j → t.past_limit ≡ false
    → Done e (before ++ t ∷ []) j
done_more e before i j t h q l = record {
  leads_to = ap (λ (l : List Word). walk l (expression_start e)) (words_append before (t ∷ [])) ∙ walk_more e (words before) i t h.leads_to ∙ q;
  clear = clear_more before t h.clear l;
}

goes_on : (e : ExpressionKind) (ws : List Word) (i j : Inside) (t : Token) → walk ws (expression_start e) ≡ Some i → expression_step i t.kind ≡ Some j
    → ExpressionGoesOn e ws t
goes_on e ws i j t q s = leads e (ws ++ word_of t ∷ []) j (walk_more e ws i t q ∙ s)

goes_nowhere : (e : ExpressionKind) (ws : List Word) (i : Inside) (t : Token) → walk ws (expression_start e) ≡ Some i → expression_step i t.kind ≡ None
    → ExpressionGoesOn e ws t → ⊥
goes_nowhere e ws i t q s b = stuck e (ws ++ word_of t ∷ []) (walk_more e ws i t q ∙ s) b

not_spelled : (e : ExpressionKind) (ws : List Word) (i : Inside) → walk ws (expression_start e) ≡ Some i → whole_at i ≡ None → SpellsWhole (rule_of e) ws → ⊥
not_spelled e ws i q g h =
    let w = spelled_ends e ws h in
    let ends : final ws (expression_start e) ≡ Some w.0 = w.1 in
    let none : final ws (expression_start e) ≡ None = rw (q, g) refl in
    cc

-- ---- what is read stands first, and a fault is at the first token that is wrong

-- The tokens begin an expression, and none is past the limit.
record Runs (e : ExpressionKind) (ts : List Token) : Type 0 where
  begins : Begins (rule_of e) (words ts)
  clear : AreClear ts

abbrev Answers : ExpressionKind → List Token → Result (Whole × List Token) TextFault → Type 0
Answers e ts (Ok x) = ExpressionStandsFirst e x.0 ts x.1
Answers e ts (Err f) = ExpressionStopsAt e ts f ⊎ Runs e ts

stops : (e : ExpressionKind) (k : TextKind) (t : Token) (before : List Token) (i : Inside) (ts : List Token) → Done e before i
    → IsWrongInExpression e (words before) t k → Answers e (before ++ t ∷ ts) (Err (fault_at t k))
stops e k t before i ts h w =
    inl
    (record {
      before = before;
      token = t;
      behind = ts;
      parts = refl;
      begins = leads e (words before) i h.leads_to;
      clear = h.clear;
      wrong = w;
      line = refl;
      column = refl;
    })

-- a token that cannot follow
left_off : (e : ExpressionKind) (t : Token) (ts before : List Token) (i : Inside) → Done e before i → expression_step i t.kind ≡ None → (o : Option Whole)
    → whole_at i ≡ o → Answers e (before ++ t ∷ ts) (end_whole t o (λ w. Ok (w, t ∷ ts)))
left_off e t ts before i h s (Some w) g =
    record {
      before = before;
      token = t;
      behind = ts;
      parts = refl;
      left = refl;
      spelled = sound e (words before) i w h.leads_to g;
      clear = h.clear;
      ends = goes_nowhere e (words before) i t h.leads_to s;
    }
left_off e t ts before i h s None g = stops e (fault_of t.kind) t before i ts h
    (cannot_follow (goes_nowhere e (words before) i t h.leads_to s) (not_spelled e (words before) i h.leads_to g))

-- a token that can follow
let_in : (e : ExpressionKind) (t : Token) (ts before : List Token) (i j : Inside) → Done e before i → expression_step i t.kind ≡ Some j
    → ((b : List Token) (m : Inside) → Done e b m → Answers e (b ++ ts) (parse_expression ts m)) → (past_limit : Bool) → t.past_limit ≡ past_limit
    → Answers e (before ++ t ∷ ts) (cond past_limit (Err (fault_at t Operators)) (parse_expression ts j))
let_in e t ts before i j h s go true l = stops e Operators t before i ts h (over_limit (goes_on e (words before) i j t h.leads_to s) l)
let_in e t ts before i j h s go false l = subst (λ (r : List Token). Answers e r (parse_expression ts j)) (append_assoc before (t ∷ []) ts)
    (go (before ++ t ∷ []) j (done_more e before i j t h s l))

followed : (e : ExpressionKind) (t : Token) (ts before : List Token) (i : Inside) → Done e before i
    → ((b : List Token) (m : Inside) → Done e b m → Answers e (b ++ ts) (parse_expression ts m)) → (o : Option Inside) → expression_step i t.kind ≡ o
    → Answers e (before ++ t ∷ ts) (take_expression_token t o (parse_expression ts) (whole_at i) (λ w. Ok (w, t ∷ ts)))
followed e t ts before i h go None s = left_off e t ts before i h s (whole_at i) refl
followed e t ts before i h go (Some j) s = let_in e t ts before i j h s go t.past_limit refl

answers : (e : ExpressionKind) (ts before : List Token) (i : Inside) → Done e before i → Answers e (before ++ ts) (parse_expression ts i)
answers e [] before i h = inr (record { begins = leads e (words (before ++ [])) i (rw append-nil h.leads_to); clear = rw append-nil h.clear })
answers e (t ∷ ts) before i h = followed e t ts before i h (answers e ts) (expression_step i t.kind) refl

exact : (e : ExpressionKind) (ts : List Token) → Answers e ts (parse_expression ts (expression_start e))
exact e ts = answers e ts [] (expression_start e) (record { leads_to = refl; clear = tt })

-- What is read stands first.
pub read_stands : (e : ExpressionKind) (w : Whole) (ts rest : List Token) → parse_expression ts (expression_start e) ≡ Ok (w, rest)
    → ExpressionStandsFirst e w ts rest
read_stands e w ts rest q = subst (λ (r : Result (Whole × List Token) TextFault). Answers e ts r) q (exact e ts)

-- ---- a list that has its end

spelled_inside : (e : ExpressionKind) (ws : List Word) → SpellsWhole (rule_of e) ws → AreInside ws
spelled_inside a_sum ws h = sum_inside h.0 ws h.1
spelled_inside a_guard ws h = guard_inside h.0 ws h.1

begins_inside : (e : ExpressionKind) (ws : List Word) → Begins (rule_of e) ws → AreInside ws
begins_inside e ws b = let m = completed (rule_of e) ws b in front IsInside ws m.0 (spelled_inside e (ws ++ m.0) m.1)

back : (a b : List Word) → AreInside (a ++ b) → AreInside b
back [] b h = h
back (w ∷ a) b h = back a b h.1

last_outside : (t : TokenKind) → IsLast t → is_inside t ≡ true → ⊥
last_outside (Bad j) h i = absurd cc
last_outside End h i = absurd cc
last_outside _ h i = absurd h

no_run : (e : ExpressionKind) (ts : List Token) → AreEndedTokens ts → Runs e ts → ⊥
no_run e ts h r =
    let parts : words ts ≡ words h.before ++ word_of h.token ∷ [] = ap (λ (l : List Token). words l) h.parts ∙ words_append h.before (h.token ∷ []) in
    let all : AreInside (words h.before ++ word_of h.token ∷ []) = subst (λ (l : List Word). AreInside l) parts (begins_inside e (words ts) r.begins) in
    let end : AreInside (word_of h.token ∷ []) = back (words h.before) (word_of h.token ∷ []) all in
    last_outside h.token.kind h.last end.0

-- A fault is at the first token that is wrong.
pub fault_is_first : (e : ExpressionKind) (ts : List Token) (f : TextFault) → AreEndedTokens ts → parse_expression ts (expression_start e) ≡ Err f
    → ExpressionStopsAt e ts f
fault_is_first e ts f h q = elim (subst (λ (r : Result (Whole × List Token) TextFault). Answers e ts r) q (exact e ts)) [
  | inl s ↦ s
  | inr r ↦ absurd (no_run e ts h r)
]

-- ---- what stands first is read

reads_next : (t : Token) (before rest : List Token) (r : Inside) (o : Option Inside) (w : Option Whole) → t.past_limit ≡ false
    → ((m : Inside) → walk (words before) m ≡ Some r → parse_expression (before ++ rest) m ≡ parse_expression rest r)
    → and_then o (walk (words before)) ≡ Some r → take_expression_token t o (parse_expression (before ++ rest)) w (λ v. Ok (v, t ∷ (before ++ rest)))
    ≡ parse_expression rest r
reads_next t before rest r None w h go q = absurd cc
reads_next t before rest r (Some m) w h go q = rw h (go m q)

reads_on : (before rest : List Token) (i r : Inside) → AreClear before → walk (words before) i ≡ Some r
    → parse_expression (before ++ rest) i ≡ parse_expression rest r
reads_on [] rest i r h q = let same : i ≡ r = cc in rw same refl
reads_on (t ∷ before) rest i r h q = reads_next t before rest r (expression_step i t.kind) (whole_at i) h.0 (λ m. reads_on before rest m r h.1) q

none_steps : (e : ExpressionKind) (ws : List Word) (i : Inside) (t : Token) (o : Option Inside) → walk ws (expression_start e) ≡ Some i
    → expression_step i t.kind ≡ o → (ExpressionGoesOn e ws t → ⊥) → expression_step i t.kind ≡ None
none_steps e ws i t None q s h = s
none_steps e ws i t (Some j) q s h = absurd (h (goes_on e ws i j t q s))

stands_at : (e : ExpressionKind) (w : Whole) (before : List Token) (t : Token) (behind : List Token) (o : Option Inside)
    → walk (words before) (expression_start e) ≡ o → and_then o whole_at ≡ Some w → AreClear before → (ExpressionGoesOn e (words before) t → ⊥)
    → parse_expression (before ++ t ∷ behind) (expression_start e) ≡ Ok (w, t ∷ behind)
stands_at e w before t behind None q g c h = absurd cc
stands_at e w before t behind (Some i) q g c h =
    let s : expression_step i t.kind ≡ None = none_steps e (words before) i t (expression_step i t.kind) q refl h in
    reads_on before (t ∷ behind) (expression_start e) i c q ∙ rw (s, g) refl

-- What stands first is read.
pub stands_read : (e : ExpressionKind) (w : Whole) (ts rest : List Token) → ExpressionStandsFirst e w ts rest
    → parse_expression ts (expression_start e) ≡ Ok (w, rest)
stands_read e w ts rest h =
    ap (λ (l : List Token). parse_expression l (expression_start e)) h.parts
    ∙ stands_at e w h.before h.token h.behind (walk (words h.before) (expression_start e)) refl (complete e w (words h.before) h.spelled) h.clear h.ends
    ∙ ap (λ (l : List Token). Ok (w, l)) (sym h.left)

-- ---- a token that is wrong is the fault

at_past_limit : (t : Token) (behind : List Token) (i : Inside) (o : Option Inside) → expression_step i t.kind ≡ o → (o ≡ None → ⊥) → t.past_limit ≡ true
    → parse_expression (t ∷ behind) i ≡ Err (fault_at t Operators)
at_past_limit t behind i None s h l = absurd (h refl)
at_past_limit t behind i (Some m) s h l = rw (s, l) refl

spelled_rule : (e : ExpressionKind) (w : Whole) (ws : List Word) → SpellsExpression e w ws → SpellsWhole (rule_of e) ws
spelled_rule a_sum (whole_sum s) ws h = (s, h)
spelled_rule a_guard (whole_guard g) ws h = (g, h)
spelled_rule _ w ws h = absurd h

none_ends : (e : ExpressionKind) (ws : List Word) (i : Inside) (o : Option Whole) → walk ws (expression_start e) ≡ Some i → whole_at i ≡ o
    → (SpellsWhole (rule_of e) ws → ⊥) → whole_at i ≡ None
none_ends e ws i None q g h = g
none_ends e ws i (Some w) q g h = absurd (h (spelled_rule e w ws (sound e ws i w q g)))

wrong_at : (e : ExpressionKind) (k : TextKind) (ws : List Word) (t : Token) (behind : List Token) (i : Inside) → walk ws (expression_start e) ≡ Some i
    → IsWrongInExpression e ws t k → parse_expression (t ∷ behind) i ≡ Err (fault_at t k)
wrong_at e _ ws t behind i q (over_limit b l) = at_past_limit t behind i (expression_step i t.kind) refl (λ s. goes_nowhere e ws i t q s b) l
wrong_at e _ ws t behind i q (cannot_follow h n) =
    let s : expression_step i t.kind ≡ None = none_steps e ws i t (expression_step i t.kind) q refl h in
    let g : whole_at i ≡ None = none_ends e ws i (whole_at i) q refl n in
    rw (s, g) refl

stopped_at : (e : ExpressionKind) (o : Option Inside) (k : TextKind) (before : List Token) (t : Token) (behind : List Token)
    → walk (words before) (expression_start e) ≡ o → Begins (rule_of e) (words before) → AreClear before → IsWrongInExpression e (words before) t k
    → parse_expression (before ++ t ∷ behind) (expression_start e) ≡ Err (fault_at t k)
stopped_at e None k before t behind q b c h = absurd (stuck e (words before) q b)
stopped_at e (Some i) k before t behind q b c h = reads_on before (t ∷ behind) (expression_start e) i c q ∙ wrong_at e k (words before) t behind i q h

-- The first token that is wrong is the fault.
pub first_is_fault : (e : ExpressionKind) (ts : List Token) (f : TextFault) → ExpressionStopsAt e ts f → parse_expression ts (expression_start e) ≡ Err f
first_is_fault e ts f h =
    let at_token : fault_at h.token f.kind ≡ f = rw (sym h.line, sym h.column) refl in
    ap (λ (l : List Token). parse_expression l (expression_start e)) h.parts
    ∙ stopped_at e (walk (words h.before) (expression_start e)) f.kind h.before h.token h.behind refl h.begins h.clear h.wrong
    ∙ ap (λ (g : TextFault). Err g) at_token

-- The reading of marked tokens gives what they spell within the limits, or stops at their first fault, and nowhere else.
use Rattle.std.proofs.Common.{◌≡◌, ℕ, ◌≤◌, Bool, true, false, cond, List, [], ◌∷◌, ◌++◌, Option, Some, None, Result, Ok, Err, refl, sym, ap, subst, ◌∙◌}
use Rattle.std.proofs.Common.{append_assoc, inl, inr, arith}
use Rattle.std.specs.Prelude.{◌⊎◌}
use Rattle.std.proofs.lemmas.List.{append-nil}
use Rattle.fs_model.proofs.Booleans.{true_and_false}
use Rattle.fs_grammar.specs.declared.fault.TextKind.{TextKind}
use Rattle.fs_grammar.specs.declared.fault.TextKind.TheVariants.{BadByte, BadWord, NumberTooBig, Unexpected, Operators, Nested, Ended}
use Rattle.fs_grammar.specs.declared.fault.TextFault.{TextFault}
use Rattle.fs_grammar.specs.declared.token.Flaw.{Flaw}
use Rattle.fs_grammar.specs.declared.token.Flaw.TheVariants as flaws
use Rattle.fs_grammar.specs.declared.token.TokenKind.{TokenKind}
use Rattle.fs_grammar.specs.declared.token.TokenKind.TheVariants.{Bad, End}
use Rattle.fs_grammar.specs.declared.token.Token.{Token}
use Rattle.fs_grammar.specs.Tokens.{fault_of, fault_at}
use Rattle.fs_grammar.specs.Spelling.{Word, at}
use Rattle.fs_grammar.specs.WordWalks.{words, and_then}
use Rattle.fs_grammar.specs.Faults.{word_of, IsPlain, AreEndedTokens}
use Rattle.fs_grammar.proofs.Exact.{words_append}
use Rattle.fs_lex.proofs.Read.{counts_few}
use Rattle.hls_program_parts.specs.Programs.{Program}
use Rattle.hls_program_parts.specs.Marks.{opens_relation, is_counted, starts_anew, operators_up_to, is_past_program_limit}
use Rattle.hls_program_parts.specs.ProgramGrammar.{ProgramParseState, at_prog, at_end, is_deep, program_step, finish_program, stop_program}
use Rattle.hls_program_parts.specs.ProgramGrammar.{take_program_token, program_reading}
use Rattle.hls_program_parts.specs.ProgramSpelling.{IsProgram}
use Rattle.hls_program_parts.specs.ProgramBeginnings.{BeginsProgram}
use Rattle.hls_program_parts.specs.ProgramLimits.{IsOneTooManyInProgram, IsTooDeep, KeepLimits, TokensSpellProgram, CanFollowInProgram, IsWrongInProgram}
use Rattle.hls_program_parts.specs.ProgramLimits.{TokensStopProgram}
use Rattle.hls_program_parts.proofs.Walks.{walk, walk_append, walk_more}
use Rattle.hls_program_parts.proofs.Complete.{complete}
use Rattle.hls_program_parts.proofs.Sound.{sound}
use Rattle.hls_program_parts.proofs.Beginning.{leads, stuck}
use Rattle.hls_program_parts.proofs.Tallies.{unit_behind, count_behind, count_append, excess_marked, opens_settled}
use Rattle.hls_program_parts.proofs.Depths.{deep_found, deep_step}
use Rattle.hls_program_parts.proofs.Excess.{first_marked}
use Rattle.hls_program_parts.proofs.Strangers.{end_steps, bad_steps, last_steps}

-- ---- marks

-- each token is marked where it is counted and 128 were counted before it
abbrev pub AreMarked : Bool → ℕ → List Token → Type 0
AreMarked u k [] = Unit {0}
AreMarked u k (t ∷ ts) = (t.past_limit ≡ is_past_program_limit u t.kind k) × AreMarked (opens_relation u t.kind) (operators_up_to u t.kind k) ts

marked_behind : (a ts : List Token) (u : Bool) (k : ℕ) → AreMarked u k (a ++ ts) → AreMarked (unit_behind u (words a)) (count_behind u k (words a)) ts
marked_behind [] ts u k m = m
marked_behind (t ∷ a) ts u k m = marked_behind a ts (opens_relation u t.kind) (operators_up_to u t.kind k) m.1

mark_at : (before : List Token) (t : Token) (ts : List Token) → AreMarked false 0 (before ++ t ∷ ts)
    → t.past_limit ≡ is_past_program_limit (unit_behind false (words before)) t.kind (count_behind false 0 (words before))
mark_at before t ts m = (marked_behind before (t ∷ ts) false 0 m).0

-- ---- tokens that were read

-- two ways to cut words before one of them
cut_last : (ws a b : List Word) (w v : Word) → ws ++ w ∷ [] ≡ a ++ v ∷ b → ((ws ≡ a) × (w ≡ v)) ⊎ ((c : List Word) × (ws ≡ a ++ v ∷ c))
cut_last [] [] b w v e = inl (refl, cc)
cut_last [] (x ∷ []) b w v e = absurd cc
cut_last [] (x ∷ y ∷ a) b w v e = absurd cc
cut_last (x ∷ ws) [] b w v e =
    let same : x ≡ v = cc in
    inr (ws, ap (λ (z : Word). z ∷ ws) same)
cut_last (x ∷ ws) (y ∷ a) b w v e =
    let heads : x ≡ y = cc in
    let tails : ws ++ w ∷ [] ≡ a ++ v ∷ b = cc in
    elim (cut_last ws a b w v tails) [
      | inl h ↦ inl (ap (λ (l : List Word). x ∷ l) h.0 ∙ ap (λ (z : Word). z ∷ a) heads, h.1)
      | inr h ↦ inr (h.0, ap (λ (l : List Word). x ∷ l) h.1 ∙ ap (λ (z : Word). z ∷ (a ++ v ∷ h.0)) heads)
    ]

keep_first : (ws a : List Word) (w v : Word) → (IsOneTooManyInProgram ws w → ⊥) → (IsTooDeep ws w → ⊥) → ws ≡ a → w ≡ v
    → (IsOneTooManyInProgram a v → ⊥) × (IsTooDeep a v → ⊥)
keep_first ws a w v h k e f = (
  λ x. h (subst (λ (l : List Word). IsOneTooManyInProgram l w) (sym e) (subst (λ (u : Word). IsOneTooManyInProgram a u) (sym f) x)),
  λ x. k (subst (λ (l : List Word). IsTooDeep l w) (sym e) (subst (λ (u : Word). IsTooDeep a u) (sym f) x)),
)

keep_more : (ws : List Word) (w : Word) → KeepLimits ws → (IsOneTooManyInProgram ws w → ⊥) → (IsTooDeep ws w → ⊥) → KeepLimits (ws ++ w ∷ [])
keep_more ws w l h k a b v e = elim (cut_last ws a b w v e) [ inl c ↦ keep_first ws a w v h k c.0 c.1 | inr c ↦ l a c.0 v c.1 ]

keep_none : KeepLimits []
keep_none [] b w e = absurd cc
keep_none (x ∷ a) b w e = absurd cc

-- tokens that were read, and where they lead
record Done (before : List Token) (s : ProgramParseState) : Type 0 where
  leads_to : walk (words before) at_prog ≡ Some s
  limits : KeepLimits (words before)
  few : count_behind false 0 (words before) ≤ 128

nothing_done : Done [] at_prog
nothing_done = record { leads_to = refl; limits = keep_none; few = omega arith }

-- ---- one more token

follows : (before : List Token) (s r : ProgramParseState) (t : Token) → Done before s → program_step s t.place.line t.kind ≡ Some r
    → walk (words before ++ word_of t ∷ []) at_prog ≡ Some r
follows before s r t h e = walk_more (words before) at_prog s t.place.line t.kind h.leads_to ∙ e

not_too_many : (before ts : List Token) (s : ProgramParseState) (t : Token) → AreMarked false 0 (before ++ t ∷ ts) → t.past_limit ≡ false
    → IsOneTooManyInProgram (words before) (word_of t) → ⊥
not_too_many before ts s t m c x = true_and_false t.past_limit (mark_at before t ts m ∙ excess_marked (words before) t.place.line t.kind x) c

not_deep_by : (o : Option ProgramParseState) (r q : ProgramParseState) → o ≡ Some r → o ≡ Some q → is_deep r ≡ false → is_deep q ≡ true → ⊥
not_deep_by o r q e f d k =
    let same : r ≡ q = cc in
    true_and_false (is_deep r) (ap is_deep same ∙ k) d

not_too_deep : (before : List Token) (s r : ProgramParseState) (t : Token) → Done before s → program_step s t.place.line t.kind ≡ Some r → is_deep r ≡ false
    → IsTooDeep (words before) (word_of t) → ⊥
not_too_deep before s r t h e d x =
    let k = deep_step (words before) s t.place.line t.kind h.leads_to x in
    not_deep_by (program_step s t.place.line t.kind) r k.0 e k.1 d k.2

done_more : (before ts : List Token) (s r : ProgramParseState) (t : Token) → Done before s → AreMarked false 0 (before ++ t ∷ ts)
    → program_step s t.place.line t.kind ≡ Some r → t.past_limit ≡ false → is_deep r ≡ false → Done (before ++ t ∷ []) r
done_more before ts s r t h m e c d =
    let u = unit_behind false (words before) in
    let k = count_behind false 0 (words before) in
    let more : words (before ++ t ∷ []) ≡ words before ++ word_of t ∷ [] = words_append before (t ∷ []) in
    let clear : is_past_program_limit u t.kind k ≡ false = sym (mark_at before t ts m) ∙ c in
    let few : operators_up_to u t.kind k ≤ 128 = counts_few (starts_anew u t.kind) (is_counted u t.kind) k clear h.few in
    let count : count_behind false 0 (words (before ++ t ∷ [])) ≡ operators_up_to u t.kind k = ap (λ (l : List Word). count_behind false 0 l) more
    ∙ count_append (words before) (word_of t ∷ []) false 0 in
    record {
      leads_to = ap (λ (l : List Word). walk l at_prog) more ∙ follows before s r t h e;
      limits = subst KeepLimits (sym more) (keep_more (words before) (word_of t) h.limits (not_too_many before ts s t m c) (not_too_deep before s r t h e d));
      few = subst (λ (n : ℕ). n ≤ 128) (sym count) few;
    }

-- ---- what is read is spelled, and a fault is at the first token that is wrong

-- The tokens begin a program, and there is no end.
record Runs (ts : List Token) : Type 0 where
  begins : BeginsProgram (words ts)

abbrev Answers : List Token → Result Program TextFault → Type 0
Answers ts (Ok p) = TokensSpellProgram ts p
Answers ts (Err f) = TokensStopProgram ts f ⊎ Runs ts

stops : (k : TextKind) (t : Token) (before : List Token) (s : ProgramParseState) (ts : List Token) → Done before s → IsWrongInProgram k (words before) t
    → Answers (before ++ t ∷ ts) (Err (fault_at t k))
stops k t before s ts h w =
    inl
    (record {
      before = before;
      token = t;
      behind = ts;
      parts = refl;
      begins = leads (words before) s h.leads_to;
      limits = h.limits;
      wrong = w;
      line = refl;
      column = refl;
    })

finish_is : (s : ProgramParseState) (p : Program) → finish_program s ≡ Some p → s ≡ at_end p
finish_is (at_end q) p e =
    let same : q ≡ p = cc in
    ap at_end same
finish_is _ p e = absurd cc

program_at : (ws : List Word) (s : ProgramParseState) (p : Program) → walk ws at_prog ≡ Some s → finish_program s ≡ Some p → IsProgram p ws
program_at ws s p e g = sound p ws (e ∙ ap (λ (r : ProgramParseState). Some r) (finish_is s p g))

one_state : (o : Option ProgramParseState) (s : ProgramParseState) (p : Program) → o ≡ Some s → o ≡ Some (at_end p) → s ≡ at_end p
one_state o s p e f = cc

no_program_at : (ws : List Word) (s : ProgramParseState) → walk ws at_prog ≡ Some s → finish_program s ≡ None → (p : Program) → IsProgram p ws → ⊥
no_program_at ws s e g p h =
    let same : s ≡ at_end p = one_state (walk ws at_prog) s p e (complete p ws h) in
    let some : finish_program s ≡ Some p = ap finish_program same in
    cc

-- the end
at_last : (before : List Token) (s : ProgramParseState) (t : Token) (ts : List Token) → Done before s → t.kind ≡ End → (o : Option Program)
    → finish_program s ≡ o → Answers (before ++ t ∷ ts) (stop_program End (fault_at t Ended) o)
at_last before s t ts h k (Some p) e = record {
  before = before;
  token = t;
  behind = ts;
  parts = refl;
  ends = k;
  spelled = program_at (words before) s p h.leads_to e;
  limits = h.limits;
}
at_last before s t ts h k None e = stops Ended t before s ts h (k, no_program_at (words before) s h.leads_to e)

cannot_follow : (before : List Token) (s : ProgramParseState) (t : Token) → Done before s → program_step s t.place.line t.kind ≡ None
    → CanFollowInProgram (words before) t → ⊥
cannot_follow before s t h e = stuck (words before ++ word_of t ∷ []) (walk_more (words before) at_prog s t.place.line t.kind h.leads_to ∙ e)

-- a token that cannot follow
refused : (w : TokenKind) (t : Token) (before : List Token) (s : ProgramParseState) (ts : List Token) → Done before s
    → program_step s t.place.line t.kind ≡ None → t.kind ≡ w → Answers (before ++ t ∷ ts) (stop_program w (fault_at t (fault_of w)) (finish_program s))
refused (Bad flaws.Byte) t before s ts h e k = stops BadByte t before s ts h k
refused (Bad flaws.Word) t before s ts h e k = stops BadWord t before s ts h k
refused (Bad flaws.Number) t before s ts h e k = stops NumberTooBig t before s ts h k
refused End t before s ts h e k = at_last before s t ts h k (finish_program s) refl
refused w t before s ts h e k = stops Unexpected t before s ts h (subst IsPlain (sym k) tt, cannot_follow before s t h e)

-- a token that can follow
deep_in : (b : Bool) (t : Token) (ts before : List Token) (s r : ProgramParseState) → Done before s → AreMarked false 0 (before ++ t ∷ ts)
    → ((a : List Token) (m : ProgramParseState) → Done a m → AreMarked false 0 (a ++ ts) → Answers (a ++ ts) (program_reading ts m))
    → program_step s t.place.line t.kind ≡ Some r → t.past_limit ≡ false → is_deep r ≡ b
    → Answers (before ++ t ∷ ts) (cond b (Err (fault_at t Nested)) (program_reading ts r))
deep_in true t ts before s r h m go e c d = stops Nested t before s ts h
    (leads (words before ++ word_of t ∷ []) r (follows before s r t h e), deep_found (words before) s r t.place.line t.kind h.leads_to e d)
deep_in false t ts before s r h m go e c d =
    let same : (before ++ t ∷ []) ++ ts ≡ before ++ t ∷ ts = append_assoc before (t ∷ []) ts in
    subst (λ (l : List Token). Answers l (program_reading ts r)) same
    (go (before ++ t ∷ []) r (done_more before ts s r t h m e c d) (subst (AreMarked false 0) (sym same) m))

let_in : (b : Bool) (t : Token) (ts before : List Token) (s r : ProgramParseState) → Done before s → AreMarked false 0 (before ++ t ∷ ts)
    → ((a : List Token) (m : ProgramParseState) → Done a m → AreMarked false 0 (a ++ ts) → Answers (a ++ ts) (program_reading ts m))
    → program_step s t.place.line t.kind ≡ Some r → t.past_limit ≡ b
    → Answers (before ++ t ∷ ts) (cond b (Err (fault_at t Operators)) (cond (is_deep r) (Err (fault_at t Nested)) (program_reading ts r)))
let_in true t ts before s r h m go e c =
    stops Operators t before s ts h (
      leads (words before ++ word_of t ∷ []) r (follows before s r t h e),
      first_marked (words before) s r t.place.line t.kind h.leads_to e h.few (sym (mark_at before t ts m) ∙ c),
    )
let_in false t ts before s r h m go e c = deep_in (is_deep r) t ts before s r h m go e c refl

followed : (t : Token) (ts before : List Token) (s : ProgramParseState) → Done before s → AreMarked false 0 (before ++ t ∷ ts)
    → ((a : List Token) (m : ProgramParseState) → Done a m → AreMarked false 0 (a ++ ts) → Answers (a ++ ts) (program_reading ts m))
    → (o : Option ProgramParseState) → program_step s t.place.line t.kind ≡ o
    → Answers (before ++ t ∷ ts) (take_program_token t o (program_reading ts) (finish_program s))
followed t ts before s h m go None e = refused t.kind t before s ts h e refl
followed t ts before s h m go (Some r) e = let_in t.past_limit t ts before s r h m go e refl

answers : (ts before : List Token) (s : ProgramParseState) → Done before s → AreMarked false 0 (before ++ ts) → Answers (before ++ ts) (program_reading ts s)
answers [] before s h m = inr (record { begins = leads (words (before ++ [])) s (rw append-nil h.leads_to) })
answers (t ∷ ts) before s h m = followed t ts before s h m (λ a r. answers ts a r) (program_step s t.place.line t.kind) refl

exact : (ts : List Token) → AreMarked false 0 ts → Answers ts (program_reading ts at_prog)
exact ts m = answers ts [] at_prog nothing_done m

-- What is read is spelled.
pub read_spelled : (ts : List Token) (p : Program) → AreMarked false 0 ts → program_reading ts at_prog ≡ Ok p → TokensSpellProgram ts p
read_spelled ts p m e = subst (λ (r : Result Program TextFault). Answers ts r) e (exact ts m)

-- ---- a list that has its end

last_walks : (o : Option ProgramParseState) (n : ℕ) (t : TokenKind) → ((s : ProgramParseState) → program_step s n t ≡ None)
    → and_then o (walk (at n t ∷ [])) ≡ None
last_walks None n t h = refl
last_walks (Some s) n t h = rw (h s) refl

no_run : (ts : List Token) → AreEndedTokens ts → Runs ts → ⊥
no_run ts h r =
    let w : walk (words ts) at_prog ≡ None = ap (λ (l : List Token). walk (words l) at_prog) h.parts
    ∙ ap (λ (l : List Word). walk l at_prog) (words_append h.before (h.token ∷ []))
    ∙ walk_append (words h.before) (word_of h.token ∷ []) at_prog
    ∙ last_walks (walk (words h.before) at_prog) h.token.place.line h.token.kind (λ s. last_steps h.token.kind s h.token.place.line h.last) in
    stuck (words ts) w r.begins

-- A fault is at the first token that is wrong.
pub fault_found : (ts : List Token) (f : TextFault) → AreMarked false 0 ts → AreEndedTokens ts → program_reading ts at_prog ≡ Err f → TokensStopProgram ts f
fault_found ts f m h e = elim (subst (λ (r : Result Program TextFault). Answers ts r) e (exact ts m)) [ inl s ↦ s | inr r ↦ absurd (no_run ts h r) ]

-- ---- what is spelled is read

deep_on : (b : Bool) (f : TextFault) (x y : Result Program TextFault) → (b ≡ true → ⊥) → (b ≡ false → x ≡ y) → cond b (Err f) x ≡ y
deep_on true f x y h go = absurd (h refl)
deep_on false f x y h go = go refl

reads_next : (t : Token) (front : List Token) (s r : ProgramParseState) (o : Option ProgramParseState) (end : Option Program) (before rest : List Token)
    → Done front s → AreMarked false 0 (front ++ t ∷ (before ++ rest)) → KeepLimits (words (front ++ t ∷ before))
    → ((m : ProgramParseState) → Done (front ++ t ∷ []) m → walk (words before) m ≡ Some r → program_reading (before ++ rest) m ≡ program_reading rest r)
    → program_step s t.place.line t.kind ≡ o → and_then o (walk (words before)) ≡ Some r
    → take_program_token t o (program_reading (before ++ rest)) end ≡ program_reading rest r
reads_next t front s r None end before rest h m l go e q = absurd cc
reads_next t front s r (Some p) end before rest h m l go e q =
    let k = l (words front) (words before) (word_of t) (words_append front (t ∷ before)) in
    deep_on t.past_limit (fault_at t Operators) (cond (is_deep p) (Err (fault_at t Nested)) (program_reading (before ++ rest) p)) (program_reading rest r)
    (λ c. k.0 (first_marked (words front) s p t.place.line t.kind h.leads_to e h.few (sym (mark_at front t (before ++ rest) m) ∙ c)))
    (λ c. deep_on (is_deep p) (fault_at t Nested) (program_reading (before ++ rest) p) (program_reading rest r)
    (λ d. k.1 (deep_found (words front) s p t.place.line t.kind h.leads_to e d))
    (λ d. go p (done_more front (before ++ rest) s p t h m e c d) q))

reads_on : (before rest front : List Token) (s r : ProgramParseState) → Done front s → AreMarked false 0 (front ++ (before ++ rest))
    → KeepLimits (words (front ++ before)) → walk (words before) s ≡ Some r → program_reading (before ++ rest) s ≡ program_reading rest r
reads_on [] rest front s r h m l q =
    let same : s ≡ r = cc in
    rw same refl
reads_on (t ∷ before) rest front s r h m l q =
    reads_next t front s r (program_step s t.place.line t.kind) (finish_program s) before rest h m l
    (λ p d w. reads_on before rest (front ++ t ∷ []) p r d (subst (AreMarked false 0) (sym (append_assoc front (t ∷ []) (before ++ rest))) m)
    (subst (λ (x : List Token). KeepLimits (words x)) (sym (append_assoc front (t ∷ []) before)) l) w) refl q

ends_at : (t : Token) (behind : List Token) (p : Program) → t.kind ≡ End → program_reading (t ∷ behind) (at_end p) ≡ Ok p
ends_at t behind p e = rw e refl

-- What is spelled is read.
pub spelled_read : (ts : List Token) (p : Program) → AreMarked false 0 ts → TokensSpellProgram ts p → program_reading ts at_prog ≡ Ok p
spelled_read ts p m h =
    ap (λ (l : List Token). program_reading l at_prog) h.parts
    ∙ reads_on h.before (h.token ∷ h.behind) [] at_prog (at_end p) nothing_done (subst (AreMarked false 0) h.parts m) h.limits
    (complete p (words h.before) h.spelled)
    ∙ ends_at h.token h.behind p h.ends

-- ---- a token that is wrong is the fault

pub stop_none : (w : TokenKind) (f : TextFault) → stop_program w f None ≡ Err f
stop_none End f = refl
stop_none _ f = refl

stop_plain : (w : TokenKind) (t : Token) (o : Option Program) → IsPlain w → stop_program w (fault_at t (fault_of w)) o ≡ Err (fault_at t Unexpected)
stop_plain (Bad j) t o h = absurd h
stop_plain End t o h = absurd h
stop_plain _ t o h = refl

stop_bad : (j : Flaw) (w : TokenKind) (t : Token) (o : Option Program) → w ≡ Bad j
    → stop_program w (fault_at t (fault_of w)) o ≡ Err (fault_at t (fault_of (Bad j)))
stop_bad j w t o e = rw e refl

next_none : (t : Token) (o : Option ProgramParseState) (go : ProgramParseState → Result Program TextFault) (end : Option Program) → o ≡ None
    → take_program_token t o go end ≡ stop_program t.kind (fault_at t (fault_of t.kind)) end
next_none t o go end e = rw e refl

at_bad : (j : Flaw) (t : Token) (behind : List Token) (r : ProgramParseState) → t.kind ≡ Bad j
    → program_reading (t ∷ behind) r ≡ Err (fault_at t (fault_of (Bad j)))
at_bad j t behind r e = next_none t (program_step r t.place.line t.kind) (program_reading behind) (finish_program r)
    (ap (λ (w : TokenKind). program_step r t.place.line w) e ∙ bad_steps j r t.place.line) ∙ stop_bad j t.kind t (finish_program r) e

at_early_end : (t : Token) (behind : List Token) (r : ProgramParseState) → t.kind ≡ End → finish_program r ≡ None
    → program_reading (t ∷ behind) r ≡ Err (fault_at t Ended)
at_early_end t behind r e g =
    next_none t (program_step r t.place.line t.kind) (program_reading behind) (finish_program r)
    (ap (λ (w : TokenKind). program_step r t.place.line w) e ∙ end_steps r t.place.line)
    ∙ rw (e, g) refl

at_stranger : (t : Token) (behind : List Token) (r : ProgramParseState) → IsPlain t.kind → program_step r t.place.line t.kind ≡ None
    → program_reading (t ∷ behind) r ≡ Err (fault_at t Unexpected)
at_stranger t behind r p e = next_none t (program_step r t.place.line t.kind) (program_reading behind) (finish_program r) e
    ∙ stop_plain t.kind t (finish_program r) p

at_past_limit : (t : Token) (behind : List Token) (r : ProgramParseState) (o : Option ProgramParseState) → program_step r t.place.line t.kind ≡ o
    → (o ≡ None → ⊥) → t.past_limit ≡ true → program_reading (t ∷ behind) r ≡ Err (fault_at t Operators)
at_past_limit t behind r None e h v = absurd (h refl)
at_past_limit t behind r (Some m) e h v = rw (e, v) refl

at_deep : (t : Token) (behind : List Token) (r m : ProgramParseState) → program_step r t.place.line t.kind ≡ Some m → t.past_limit ≡ false → is_deep m ≡ true
    → program_reading (t ∷ behind) r ≡ Err (fault_at t Nested)
at_deep t behind r m e v d = rw (e, v, d) refl

none_finishes : (ws : List Word) (r : ProgramParseState) (o : Option Program) → walk ws at_prog ≡ Some r → finish_program r ≡ o
    → ((p : Program) → IsProgram p ws → ⊥) → finish_program r ≡ None
none_finishes ws r None w e h = e
none_finishes ws r (Some p) w e h = absurd (h p (program_at ws r p w e))

none_steps : (ws : List Word) (r : ProgramParseState) (n : ℕ) (t : TokenKind) (o : Option ProgramParseState) → walk ws at_prog ≡ Some r → program_step r n t ≡ o
    → (BeginsProgram (ws ++ at n t ∷ []) → ⊥) → program_step r n t ≡ None
none_steps ws r n t None w e h = e
none_steps ws r n t (Some m) w e h = absurd (h (leads (ws ++ at n t ∷ []) m (walk_more ws at_prog r n t w ∙ e)))

some_step : (ws : List Word) (r : ProgramParseState) (n : ℕ) (t : TokenKind) → walk ws at_prog ≡ Some r → BeginsProgram (ws ++ at n t ∷ [])
    → program_step r n t ≡ None → ⊥
some_step ws r n t w h e = stuck (ws ++ at n t ∷ []) (walk_more ws at_prog r n t w ∙ e) h

-- the brace of a block is not past the limit
deep_unmarked : (ws : List Word) (n : ℕ) (t : TokenKind) → IsTooDeep ws (at n t)
    → is_past_program_limit (unit_behind false ws) t (count_behind false 0 ws) ≡ false
deep_unmarked ws n t x = rw (x.brace, opens_settled x.depth ws x.opens) refl

wrong_at : (k : TextKind) (before : List Token) (t : Token) (behind : List Token) (r : ProgramParseState) → walk (words before) at_prog ≡ Some r
    → AreMarked false 0 (before ++ t ∷ behind) → IsWrongInProgram k (words before) t → program_reading (t ∷ behind) r ≡ Err (fault_at t k)
wrong_at BadByte before t behind r w m h = at_bad flaws.Byte t behind r h
wrong_at BadWord before t behind r w m h = at_bad flaws.Word t behind r h
wrong_at NumberTooBig before t behind r w m h = at_bad flaws.Number t behind r h
wrong_at Unexpected before t behind r w m h = at_stranger t behind r h.0
    (none_steps (words before) r t.place.line t.kind (program_step r t.place.line t.kind) w refl h.1)
wrong_at Operators before t behind r w m h =
    at_past_limit t behind r (program_step r t.place.line t.kind) refl (some_step (words before) r t.place.line t.kind w h.0)
    (mark_at before t behind m ∙ excess_marked (words before) t.place.line t.kind h.1)
wrong_at Nested before t behind r w m h =
    let d = deep_step (words before) r t.place.line t.kind w h.1 in
    at_deep t behind r d.0 d.1 (mark_at before t behind m ∙ deep_unmarked (words before) t.place.line t.kind h.1) d.2
wrong_at Ended before t behind r w m h = at_early_end t behind r h.0 (none_finishes (words before) r (finish_program r) w refl h.1)

stopped_at : (o : Option ProgramParseState) (k : TextKind) (before : List Token) (t : Token) (behind : List Token) → walk (words before) at_prog ≡ o
    → BeginsProgram (words before) → AreMarked false 0 (before ++ t ∷ behind) → KeepLimits (words before) → IsWrongInProgram k (words before) t
    → program_reading (before ++ t ∷ behind) at_prog ≡ Err (fault_at t k)
stopped_at None k before t behind e b m l h = absurd (stuck (words before) e b)
stopped_at (Some r) k before t behind e b m l h = reads_on before (t ∷ behind) [] at_prog r nothing_done m l e ∙ wrong_at k before t behind r e m h

-- The first token that is wrong is the fault.
pub fault_read : (ts : List Token) (f : TextFault) → AreMarked false 0 ts → TokensStopProgram ts f → program_reading ts at_prog ≡ Err f
fault_read ts f m h =
    let at_token : fault_at h.token f.kind ≡ f = rw (sym h.line, sym h.column) refl in
    ap (λ (l : List Token). program_reading l at_prog) h.parts
    ∙ stopped_at (walk (words h.before) at_prog) f.kind h.before h.token h.behind refl h.begins (subst (AreMarked false 0) h.parts m) h.limits h.wrong
    ∙ ap (λ (g : TextFault). Err g) at_token

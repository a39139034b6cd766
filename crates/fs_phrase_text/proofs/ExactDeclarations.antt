-- The reading gives what stands first, or stops at the first fault, and nowhere else.
use Rattle.std.proofs.Common.{◌≡◌, ℕ, Bool, true, false, cond, List, [], ◌∷◌, ◌++◌, Option, Some, None, Result, Ok, Err, refl, sym, ap, subst, ◌∙◌}
use Rattle.std.proofs.Common.{append_assoc, inl, inr}
use Rattle.std.specs.Prelude.{◌⊎◌}
use Rattle.std.proofs.lemmas.List.{append-nil}
use Rattle.fs_model.specs.Source.{Declaration}
use Rattle.fs_grammar.specs.declared.fault.TextKind.{TextKind}
use Rattle.fs_grammar.specs.declared.fault.TextKind.TheVariants.{Operators}
use Rattle.fs_grammar.specs.declared.fault.TextFault.{TextFault}
use Rattle.fs_grammar.specs.declared.format.Format.{Format}
use Rattle.fs_grammar.specs.declared.token.TokenKind.{TokenKind}
use Rattle.fs_grammar.specs.declared.token.TokenKind.TheVariants.{Bad, End}
use Rattle.fs_grammar.specs.declared.token.Token.{Token}
use Rattle.fs_grammar.specs.Tokens.{fault_of, fault_at}
use Rattle.fs_grammar.specs.Spelling.{Word, at}
use Rattle.fs_grammar.specs.WordWalks.{words, and_then}
use Rattle.fs_grammar.specs.Beginnings as rules
use Rattle.fs_grammar.specs.Beginnings.{SpellsWhole}
use Rattle.fs_grammar.specs.Faults.{word_of, AreClear, IsLast, AreEndedTokens}
use Rattle.fs_grammar.proofs.Exact.{words_append, clear_more}
use Rattle.fs_phrase_text.specs.Declaring.{Declaring, at_sort, at_name, after_name, Lead, inside, whole, declaration_step, take_declaration_token}
use Rattle.fs_phrase_text.specs.Declaring.{parse_declaration}
use Rattle.fs_phrase_text.specs.Declarations.{Opening, opening_word, declaration_start, IsOf, BeginsOne, DeclarationGoesOn, DeclarationStandsFirst}
use Rattle.fs_phrase_text.specs.Declarations.{IsWrongInDeclaration, over_limit, cannot_follow, DeclarationStopsAt}
use Rattle.fs_phrase_text.proofs.SoundDeclarations.{walk, sound, leads}
use Rattle.fs_phrase_text.proofs.CompleteDeclarations.{complete, walk_append, stuck}

-- what is read from a place inside or after the end on
abbrev from : List Token → Lead → Result (Declaration × List Token) TextFault
from ts (inside s) = parse_declaration ts s
from ts (whole d) = Ok (d, ts)

-- ---- tokens that were read

-- tokens that were read, and where they lead
record Done (o : Opening) (before : List Token) (l : Lead) : Type 0 where
  leads_to : walk (words before) (inside (declaration_start o)) ≡ Some l
  clear : AreClear before

on_some : (o : Option Lead) → and_then o (walk []) ≡ o
on_some None = refl
on_some (Some l) = refl

walk_more : (o : Opening) (ws : List Word) (s : Declaring) (t : Token) → walk ws (inside (declaration_start o)) ≡ Some (inside s)
    → walk (ws ++ word_of t ∷ []) (inside (declaration_start o)) ≡ declaration_step s t.kind
walk_more o ws s t q = walk_append ws (word_of t ∷ []) (inside (declaration_start o)) ∙ rw q (on_some (declaration_step s t.kind))

done_more : (o : Opening) (before : List Token) (s : Declaring) (l : Lead) (t : Token) → Done o before (inside s) → declaration_step s t.kind ≡ Some l
    → t.past_limit ≡ false → Done o (before ++ t ∷ []) l
done_more o before s l t h q c = record {
  leads_to = ap (λ (v : List Word). walk v (inside (declaration_start o))) (words_append before (t ∷ [])) ∙ walk_more o (words before) s t h.leads_to ∙ q;
  clear = clear_more before t h.clear c;
}

goes_on : (f : Format) (o : Opening) (ws : List Word) (s : Declaring) (l : Lead) (t : Token) → IsOf f o
    → walk ws (inside (declaration_start o)) ≡ Some (inside s) → declaration_step s t.kind ≡ Some l → DeclarationGoesOn f o ws t
goes_on f o ws s l t i q e = leads f o (ws ++ word_of t ∷ []) l i (walk_more o ws s t q ∙ e)

goes_nowhere : (f : Format) (o : Opening) (ws : List Word) (s : Declaring) (t : Token) → walk ws (inside (declaration_start o)) ≡ Some (inside s)
    → declaration_step s t.kind ≡ None → DeclarationGoesOn f o ws t → ⊥
goes_nowhere f o ws s t q e b = stuck f o (ws ++ word_of t ∷ []) (walk_more o ws s t q ∙ e) b

not_spelled : (f : Format) (o : Opening) (ws : List Word) (s : Declaring) → walk ws (inside (declaration_start o)) ≡ Some (inside s)
    → SpellsWhole (rules.declaration f) (opening_word o ∷ ws) → ⊥
not_spelled f o ws s q h = let ends : walk ws (inside (declaration_start o)) ≡ Some (whole h.0) = complete f o h.0 ws h.1 in cc

-- ---- what is read stands first, and a fault is at the first token that is wrong

-- The tokens begin a declaration, and none is past the limit.
record Runs (f : Format) (o : Opening) (ts : List Token) : Type 0 where
  begins : BeginsOne f o (words ts)
  clear : AreClear ts

abbrev Answers : Format → Opening → List Token → Result (Declaration × List Token) TextFault → Type 0
Answers f o ts (Ok x) = DeclarationStandsFirst f o x.0 ts x.1
Answers f o ts (Err e) = DeclarationStopsAt f o ts e ⊎ Runs f o ts

stops : (f : Format) (o : Opening) (k : TextKind) (t : Token) (before : List Token) (s : Declaring) (ts : List Token) → IsOf f o → Done o before (inside s)
    → IsWrongInDeclaration f o (words before) t k → Answers f o (before ++ t ∷ ts) (Err (fault_at t k))
stops f o k t before s ts i h w =
    inl
    (record {
      before = before;
      token = t;
      behind = ts;
      parts = refl;
      begins = leads f o (words before) (inside s) i h.leads_to;
      clear = h.clear;
      wrong = w;
      line = refl;
      column = refl;
    })

-- a token that can follow
let_in : (f : Format) (o : Opening) (t : Token) (ts before : List Token) (s : Declaring) (l : Lead) → IsOf f o → Done o before (inside s)
    → declaration_step s t.kind ≡ Some l → ((b : List Token) (m : Lead) → Done o b m → Answers f o (b ++ ts) (from ts m)) → (past_limit : Bool)
    → t.past_limit ≡ past_limit
    → Answers f o (before ++ t ∷ ts) (cond past_limit (Err (fault_at t Operators)) (from ts l))
let_in f o t ts before s l i h e go true c = stops f o Operators t before s ts i h (over_limit (goes_on f o (words before) s l t i h.leads_to e) c)
let_in f o t ts before s l i h e go false c = subst (λ (v : List Token). Answers f o v (from ts l)) (append_assoc before (t ∷ []) ts)
    (go (before ++ t ∷ []) l (done_more o before s l t h e c))

followed : (f : Format) (o : Opening) (t : Token) (ts before : List Token) (s : Declaring) → IsOf f o → Done o before (inside s)
    → ((b : List Token) (m : Lead) → Done o b m → Answers f o (b ++ ts) (from ts m)) → (l : Option Lead) → declaration_step s t.kind ≡ l
    → Answers f o (before ++ t ∷ ts) (take_declaration_token t l (parse_declaration ts) (λ d. Ok (d, ts)))
followed f o t ts before s i h go None e = stops f o (fault_of t.kind) t before s ts i h
    (cannot_follow (goes_nowhere f o (words before) s t h.leads_to e) (not_spelled f o (words before) s h.leads_to))
followed f o t ts before s i h go (Some (inside u)) e = let_in f o t ts before s (inside u) i h e go t.past_limit refl
followed f o t ts before s i h go (Some (whole d)) e = let_in f o t ts before s (whole d) i h e go t.past_limit refl

-- after the end
stands_whole : (f : Format) (o : Opening) (ts before : List Token) (d : Declaration) → IsOf f o → Done o before (whole d)
    → Answers f o (before ++ ts) (Ok (d, ts))
stands_whole f o ts before d i h = record { before = before; parts = refl; spelled = sound f o (words before) d i h.leads_to; clear = h.clear }

answers : (f : Format) (o : Opening) (ts before : List Token) (l : Lead) → IsOf f o → Done o before l → Answers f o (before ++ ts) (from ts l)
answers f o ts before (whole d) i h = stands_whole f o ts before d i h
answers f o [] before (inside s) i h =
    inr (record { begins = leads f o (words (before ++ [])) (inside s) i (rw append-nil h.leads_to); clear = rw append-nil h.clear })
answers f o (t ∷ ts) before (inside s) i h = followed f o t ts before s i h (λ b m k. answers f o ts b m i k) (declaration_step s t.kind) refl

exact : (f : Format) (o : Opening) (ts : List Token) → IsOf f o → Answers f o ts (parse_declaration ts (declaration_start o))
exact f o ts i = answers f o ts [] (inside (declaration_start o)) i (record { leads_to = refl; clear = tt })

-- What is read stands first.
pub read_stands : (f : Format) (o : Opening) (d : Declaration) (ts rest : List Token) → IsOf f o → parse_declaration ts (declaration_start o) ≡ Ok (d, rest)
    → DeclarationStandsFirst f o d ts rest
read_stands f o d ts rest i q = subst (λ (r : Result (Declaration × List Token) TextFault). Answers f o ts r) q (exact f o ts i)

-- ---- a list that has its end

last_steps : (t : TokenKind) (s : Declaring) → IsLast t → declaration_step s t ≡ None
last_steps (Bad j) (at_sort n r) h = refl
last_steps (Bad j) (at_name d) h = refl
last_steps (Bad j) (after_name d) h = refl
last_steps End (at_sort n r) h = refl
last_steps End (at_name d) h = refl
last_steps End (after_name d) h = refl
last_steps _ s h = absurd h

last_walks : (l : Option Lead) (n : ℕ) (t : TokenKind) → IsLast t → and_then l (walk (at n t ∷ [])) ≡ None
last_walks None n t h = refl
last_walks (Some (inside s)) n t h = rw (last_steps t s h) refl
last_walks (Some (whole d)) n t h = refl

no_run : (f : Format) (o : Opening) (ts : List Token) → AreEndedTokens ts → Runs f o ts → ⊥
no_run f o ts h r =
    let w : walk (words ts) (inside (declaration_start o)) ≡ None = ap (λ (l : List Token). walk (words l) (inside (declaration_start o))) h.parts
    ∙ ap (λ (l : List Word). walk l (inside (declaration_start o))) (words_append h.before (h.token ∷ []))
    ∙ walk_append (words h.before) (word_of h.token ∷ []) (inside (declaration_start o))
    ∙ last_walks (walk (words h.before) (inside (declaration_start o))) h.token.place.line h.token.kind h.last in
    stuck f o (words ts) w r.begins

-- A fault is at the first token that is wrong.
pub fault_is_first : (f : Format) (o : Opening) (ts : List Token) (e : TextFault) → IsOf f o → AreEndedTokens ts
    → parse_declaration ts (declaration_start o) ≡ Err e → DeclarationStopsAt f o ts e
fault_is_first f o ts e i h q = elim (subst (λ (r : Result (Declaration × List Token) TextFault). Answers f o ts r) q (exact f o ts i)) [
  | inl s ↦ s
  | inr r ↦ absurd (no_run f o ts h r)
]

-- ---- what stands first is read

reads_next : (t : Token) (before rest : List Token) (r : Lead) (l : Option Lead) → t.past_limit ≡ false
    → ((m : Lead) → walk (words before) m ≡ Some r → from (before ++ rest) m ≡ from rest r) → and_then l (walk (words before)) ≡ Some r
    → take_declaration_token t l (parse_declaration (before ++ rest)) (λ d. Ok (d, before ++ rest)) ≡ from rest r
reads_next t before rest r None h go q = absurd cc
reads_next t before rest r (Some (inside s)) h go q = rw h (go (inside s) q)
reads_next t before rest r (Some (whole d)) h go q = rw h (go (whole d) q)

reads_on : (before rest : List Token) (l r : Lead) → AreClear before → walk (words before) l ≡ Some r → from (before ++ rest) l ≡ from rest r
reads_on [] rest l r h q = let same : l ≡ r = cc in rw same refl
reads_on (t ∷ before) rest (inside s) r h q = reads_next t before rest r (declaration_step s t.kind) h.0 (λ m. reads_on before rest m r h.1) q
reads_on (t ∷ before) rest (whole d) r h q = absurd cc

-- What stands first is read.
pub stands_read : (f : Format) (o : Opening) (d : Declaration) (ts rest : List Token) → DeclarationStandsFirst f o d ts rest
    → parse_declaration ts (declaration_start o) ≡ Ok (d, rest)
stands_read f o d ts rest h = ap (λ (l : List Token). parse_declaration l (declaration_start o)) h.parts
    ∙ reads_on h.before rest (inside (declaration_start o)) (whole d) h.clear (complete f o d (words h.before) h.spelled)

-- ---- a token that is wrong is the fault

at_past_limit : (t : Token) (behind : List Token) (s : Declaring) (l : Option Lead) → declaration_step s t.kind ≡ l → (l ≡ None → ⊥) → t.past_limit ≡ true
    → parse_declaration (t ∷ behind) s ≡ Err (fault_at t Operators)
at_past_limit t behind s None e h c = absurd (h refl)
at_past_limit t behind s (Some (inside u)) e h c = rw (e, c) refl
at_past_limit t behind s (Some (whole d)) e h c = rw (e, c) refl

none_steps : (f : Format) (o : Opening) (ws : List Word) (s : Declaring) (t : Token) (l : Option Lead) → IsOf f o
    → walk ws (inside (declaration_start o)) ≡ Some (inside s) → declaration_step s t.kind ≡ l → (DeclarationGoesOn f o ws t → ⊥)
    → declaration_step s t.kind ≡ None
none_steps f o ws s t None i q e h = e
none_steps f o ws s t (Some l) i q e h = absurd (h (goes_on f o ws s l t i q e))

wrong_inside : (f : Format) (o : Opening) (k : TextKind) (ws : List Word) (t : Token) (behind : List Token) (s : Declaring) → IsOf f o
    → walk ws (inside (declaration_start o)) ≡ Some (inside s) → IsWrongInDeclaration f o ws t k → parse_declaration (t ∷ behind) s ≡ Err (fault_at t k)
wrong_inside f o _ ws t behind s i q (over_limit b c) = at_past_limit t behind s (declaration_step s t.kind) refl (λ e. goes_nowhere f o ws s t q e b) c
wrong_inside f o _ ws t behind s i q (cannot_follow h n) = rw (none_steps f o ws s t (declaration_step s t.kind) i q refl h) refl

-- behind a whole declaration no token is wrong
walks_nowhere : (o : Opening) (ws : List Word) (d : Declaration) (t : Token) → walk ws (inside (declaration_start o)) ≡ Some (whole d)
    → walk (ws ++ word_of t ∷ []) (inside (declaration_start o)) ≡ None
walks_nowhere o ws d t q = walk_append ws (word_of t ∷ []) (inside (declaration_start o)) ∙ rw q refl

wrong_whole : (f : Format) (o : Opening) (k : TextKind) (ws : List Word) (t : Token) (d : Declaration) → IsOf f o
    → walk ws (inside (declaration_start o)) ≡ Some (whole d) → IsWrongInDeclaration f o ws t k → ⊥
wrong_whole f o _ ws t d i q (over_limit b c) = stuck f o (ws ++ word_of t ∷ []) (walks_nowhere o ws d t q) b
wrong_whole f o _ ws t d i q (cannot_follow h n) = n (d, sound f o ws d i q)

stopped_at : (f : Format) (o : Opening) (l : Option Lead) (k : TextKind) (before : List Token) (t : Token) (behind : List Token) → IsOf f o
    → walk (words before) (inside (declaration_start o)) ≡ l → BeginsOne f o (words before) → AreClear before → IsWrongInDeclaration f o (words before) t k
    → parse_declaration (before ++ t ∷ behind) (declaration_start o) ≡ Err (fault_at t k)
stopped_at f o None k before t behind i q b c h = absurd (stuck f o (words before) q b)
stopped_at f o (Some (inside s)) k before t behind i q b c h = reads_on before (t ∷ behind) (inside (declaration_start o)) (inside s) c q
    ∙ wrong_inside f o k (words before) t behind s i q h
stopped_at f o (Some (whole d)) k before t behind i q b c h = absurd (wrong_whole f o k (words before) t d i q h)

-- The first token that is wrong is the fault.
pub first_is_fault : (f : Format) (o : Opening) (ts : List Token) (e : TextFault) → IsOf f o → DeclarationStopsAt f o ts e
    → parse_declaration ts (declaration_start o) ≡ Err e
first_is_fault f o ts e i h =
    let at_token : fault_at h.token e.kind ≡ e = rw (sym h.line, sym h.column) refl in
    ap (λ (l : List Token). parse_declaration l (declaration_start o)) h.parts
    ∙ stopped_at f o (walk (words h.before) (inside (declaration_start o))) e.kind h.before h.token h.behind i refl h.begins h.clear h.wrong
    ∙ ap (λ (g : TextFault). Err g) at_token

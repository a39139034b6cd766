-- The reading stops at the first fault, and nowhere else.
use Rattle.std.proofs.Common.{◌≡◌, ℕ, Bool, true, false, cond, List, [], ◌∷◌, ◌++◌, Option, Some, None, Result, Ok, Err, refl, sym, ap, subst, ◌∙◌}
use Rattle.std.proofs.Common.{append_assoc, inl, inr}
use Rattle.std.specs.Prelude.{◌⊎◌}
use Rattle.std.proofs.lemmas.List.{append-nil}
use Rattle.fs_model.specs.Expressions.{Expression, Variable, Sum, Difference, Product, Quotient, Remainder, Negative, Guard, Test, Not, And, Or}
use Rattle.fs_model.specs.Source.{Source}
use Rattle.fs_grammar.specs.declared.fault.TextPlace.{TextPlace}
use Rattle.fs_grammar.specs.declared.fault.TextKind.{TextKind}
use Rattle.fs_grammar.specs.declared.fault.TextKind.TheVariants.{BadByte, BadWord, NumberTooBig, Unexpected, Operators, Nested, Ended}
use Rattle.fs_grammar.specs.declared.fault.TextFault.{TextFault}
use Rattle.fs_grammar.specs.declared.format.Format.{Format}
use Rattle.fs_grammar.specs.declared.token.Flaw.{Flaw}
use Rattle.fs_grammar.specs.declared.token.Flaw.TheVariants as flaws
use Rattle.fs_grammar.specs.declared.token.TokenKind.{TokenKind}
use Rattle.fs_grammar.specs.declared.token.TokenKind.TheVariants.{Bad, End}
use Rattle.fs_grammar.specs.declared.token.Token.{Token}
use Rattle.fs_grammar.specs.Tokens.{fault_of, fault_at}
use Rattle.fs_grammar.specs.Grammar as machine
use Rattle.fs_grammar.specs.Grammar.{FactorContext, ProductContext, SumContext, UnitContext, ConjunctionContext, GuardContext, right, ParseState, at_start}
use Rattle.fs_grammar.specs.Grammar.{after_sum, after_product, after_name, after_conjunction, factor_done, product_done, unit_done, conjunction_done, step}
use Rattle.fs_grammar.specs.Grammar.{step_guard, step_guarded, step_conjunction, step_joined, step_sum, step_summed, step_product, step_multiplied}
use Rattle.fs_grammar.specs.Grammar.{finish_source, stop_source, take_token, reading}
use Rattle.fs_grammar.specs.Spelling.{Word, at, IsFile}
use Rattle.fs_grammar.specs.WordWalks.{words, and_then, walk, source_at}
use Rattle.fs_grammar.specs.Beginnings.{BeginsFile}
use Rattle.fs_grammar.specs.Faults.{word_of, AreClear, Spells, IsPlain, IsWrong, StopsAt, IsLast, AreEndedTokens}
use Rattle.fs_grammar.proofs.Complete.{complete}
use Rattle.fs_grammar.proofs.Sound.{sound}
use Rattle.fs_grammar.proofs.Beginning.{leads, stuck, walk_append}

-- ---- a token that is faulty by itself, or the end, can follow nothing

guarded_none : (w : TokenKind) → ((g : Guard (List ℕ)) (k : GuardContext) → step_guard w g k ≡ None) → (c : Guard (List ℕ)) (k : ConjunctionContext)
    → step_guarded w (conjunction_done c k) ≡ None
guarded_none w h c (machine.first_of_any k) = h c k
guarded_none w h c (machine.or_after g k) = h (Or g c) k

joined_none : (w : TokenKind) → ((c : Guard (List ℕ)) (k : ConjunctionContext) → step_conjunction w c k ≡ None) → (u : Guard (List ℕ)) (k : UnitContext)
    → step_joined w (unit_done u k) ≡ None
joined_none w h u (machine.negates k) = joined_none w h (Not u) k
joined_none w h u (machine.first_of_all k) = h u k
joined_none w h u (machine.and_after c k) = h (And c u) k

summed_none : (w : TokenKind) → ((s : Expression (List ℕ)) (k : SumContext) → step_sum w s k ≡ None) → (p : Expression (List ℕ)) (k : ProductContext)
    → step_summed w (product_done p k) ≡ None
summed_none w h p (machine.first_product k) = h p k
summed_none w h p (machine.plus s k) = h (Sum s p) k
summed_none w h p (machine.minus s k) = h (Difference s p) k

multiplied_none : (w : TokenKind) → ((p : Expression (List ℕ)) (k : ProductContext) → step_product w p k ≡ None) → (f : Expression (List ℕ)) (k : FactorContext)
    → step_multiplied w (factor_done f k) ≡ None
multiplied_none w h f (machine.first_factor k) = h f k
multiplied_none w h f (machine.times p k) = h (Product p f) k
multiplied_none w h f (machine.divides p k) = h (Quotient p f) k
multiplied_none w h f (machine.remainder_of p k) = h (Remainder p f) k
multiplied_none w h f (machine.negative k) = multiplied_none w h (Negative f) k

conjunction_bad : (j : Flaw) (c : Guard (List ℕ)) (k : ConjunctionContext) → step_conjunction (Bad j) c k ≡ None
conjunction_bad j c k = guarded_none (Bad j) (λ g m. refl) c k

conjunction_end : (c : Guard (List ℕ)) (k : ConjunctionContext) → step_conjunction End c k ≡ None
conjunction_end c k = guarded_none End (λ g m. refl) c k

sum_bad : (j : Flaw) (s : Expression (List ℕ)) (k : SumContext) → step_sum (Bad j) s k ≡ None
sum_bad j s (right r l k) = joined_none (Bad j) (conjunction_bad j) (Test (record { relation = r; left = l; right = s })) k
sum_bad j s _ = refl

sum_end : (s : Expression (List ℕ)) (k : SumContext) → step_sum End s k ≡ None
sum_end s (right r l k) = joined_none End conjunction_end (Test (record { relation = r; left = l; right = s })) k
sum_end s _ = refl

product_bad : (j : Flaw) (p : Expression (List ℕ)) (k : ProductContext) → step_product (Bad j) p k ≡ None
product_bad j p k = summed_none (Bad j) (sum_bad j) p k

product_end : (p : Expression (List ℕ)) (k : ProductContext) → step_product End p k ≡ None
product_end p k = summed_none End sum_end p k

bad_steps : (j : Flaw) (s : ParseState) (n : ℕ) → step s n (Bad j) ≡ None
bad_steps j (after_sum s k) n = sum_bad j s k
bad_steps j (after_product p k) n = product_bad j p k
bad_steps j (after_name x k) n = multiplied_none (Bad j) (product_bad j) (Variable x) k
bad_steps j (after_conjunction c k) n = conjunction_bad j c k
bad_steps j _ n = refl

end_steps : (s : ParseState) (n : ℕ) → step s n End ≡ None
end_steps (after_sum s k) n = sum_end s k
end_steps (after_product p k) n = product_end p k
end_steps (after_name x k) n = multiplied_none End product_end (Variable x) k
end_steps (after_conjunction c k) n = conjunction_end c k
end_steps _ n = refl

plain : (w : TokenKind) (s : ParseState) (n : ℕ) (r : ParseState) → step s n w ≡ Some r → IsPlain w
plain (Bad j) s n r e = let b = bad_steps j s n in absurd cc
plain End s n r e = let b = end_steps s n in absurd cc
plain _ s n r e = tt

-- ---- tokens that were read

-- tokens that were read, and where they lead
record Done (before : List Token) (s : ParseState) : Type 0 where
  leads_to : walk (words before) at_start ≡ Some s
  clear : AreClear before

pub words_append : (a b : List Token) → words (a ++ b) ≡ words a ++ words b
words_append [] b = refl
words_append (t ∷ a) b = ap (λ (l : List Word). word_of t ∷ l) (words_append a b)

pub clear_more : (a : List Token) (t : Token) → AreClear a → t.past_limit ≡ false → AreClear (a ++ t ∷ [])
clear_more [] t h e = (e, tt)
clear_more (u ∷ a) t h e = (h.0, clear_more a t h.1 e)

on_some : (o : Option ParseState) → and_then o (walk []) ≡ o
on_some None = refl
on_some (Some s) = refl

pub walk_more : (ws : List Word) (s : ParseState) (n : ℕ) (t : TokenKind) → walk ws at_start ≡ Some s → walk (ws ++ at n t ∷ []) at_start ≡ step s n t
walk_more ws s n t e = walk_append ws (at n t ∷ []) at_start ∙ rw e (on_some (step s n t))

done_more : (before : List Token) (s r : ParseState) (t : Token) → Done before s → step s t.place.line t.kind ≡ Some r → t.past_limit ≡ false
    → Done (before ++ t ∷ []) r
done_more before s r t h e o = record {
  leads_to = ap (λ (l : List Word). walk l at_start) (words_append before (t ∷ [])) ∙ walk_more (words before) s t.place.line t.kind h.leads_to ∙ e;
  clear = clear_more before t h.clear o;
}

file_at : (ws : List Word) (s : ParseState) (r : Source) → walk ws at_start ≡ Some s → finish_source s ≡ Some r → (f : Format) × IsFile f r ws
file_at ws s r e g = sound r ws (rw e g)

no_file_at : (ws : List Word) (s : ParseState) → walk ws at_start ≡ Some s → finish_source s ≡ None → (f : Format) (r : Source) → IsFile f r ws → ⊥
no_file_at ws s e g f r p =
    let c = complete f r ws p in
    let n : source_at ws ≡ None = rw e g in
    cc

-- ---- what is read is spelled, and a fault is at the first token that is wrong

-- The tokens begin a file, none is past the limit, and there is no end.
record Runs (ts : List Token) : Type 0 where
  begins : BeginsFile (words ts)
  clear : AreClear ts

abbrev Answers : List Token → Result Source TextFault → Type 0
Answers ts (Ok s) = Spells s ts
Answers ts (Err f) = StopsAt ts f ⊎ Runs ts

stops : (k : TextKind) (t : Token) (before : List Token) (s : ParseState) (ts : List Token) → Done before s → IsWrong k (words before) t
    → Answers (before ++ t ∷ ts) (Err (fault_at t k))
stops k t before s ts h w =
    inl
    (record {
      before = before;
      token = t;
      behind = ts;
      parts = refl;
      begins = leads (words before) s h.leads_to;
      clear = h.clear;
      wrong = w;
      line = refl;
      column = refl;
    })

-- the end
at_end : (before : List Token) (s : ParseState) (past_limit : Bool) (place : TextPlace) (ts : List Token) → Done before s → (o : Option Source)
    → finish_source s ≡ o
    → Answers (before ++ record { kind = End; past_limit = past_limit; place = place } ∷ ts)
    (stop_source End (fault_at (record { kind = End; past_limit = past_limit; place = place }) Ended) o)
at_end before s past_limit place ts h (Some f) e =
    let file = file_at (words before) s f h.leads_to e in
    record {
      before = before;
      token = record { kind = End; past_limit = past_limit; place = place };
      behind = ts;
      parts = refl;
      ends = refl;
      format = file.0;
      file = file.1;
      clear = h.clear;
    }
at_end before s past_limit place ts h None e = stops Ended (record { kind = End; past_limit = past_limit; place = place }) before s ts h
    (refl, no_file_at (words before) s h.leads_to e)

-- a token that cannot follow
cannot_follow : (before : List Token) (s : ParseState) (n : ℕ) (w : TokenKind) → Done before s → step s n w ≡ None
    → BeginsFile (words before ++ at n w ∷ []) → ⊥
cannot_follow before s n w h e = stuck (words before ++ at n w ∷ []) (walk_more (words before) s n w h.leads_to ∙ e)

refused : (w : TokenKind) (past_limit : Bool) (place : TextPlace) (before : List Token) (s : ParseState) (ts : List Token) → Done before s
    → step s place.line w ≡ None
    → Answers (before ++ record { kind = w; past_limit = past_limit; place = place } ∷ ts)
    (stop_source w (fault_at (record { kind = w; past_limit = past_limit; place = place }) (fault_of w)) (finish_source s))
refused (Bad flaws.Byte) past_limit place before s ts h e =
    stops BadByte (record { kind = Bad flaws.Byte; past_limit = past_limit; place = place }) before s ts h refl
refused (Bad flaws.Word) past_limit place before s ts h e =
    stops BadWord (record { kind = Bad flaws.Word; past_limit = past_limit; place = place }) before s ts h refl
refused (Bad flaws.Number) past_limit place before s ts h e =
    stops NumberTooBig (record { kind = Bad flaws.Number; past_limit = past_limit; place = place }) before s ts h refl
refused End past_limit place before s ts h e = at_end before s past_limit place ts h (finish_source s) refl
refused w past_limit place before s ts h e = stops Unexpected (record { kind = w; past_limit = past_limit; place = place }) before s ts h
    (tt, cannot_follow before s place.line w h e)

let_in : (past_limit : Bool) (w : TokenKind) (place : TextPlace) (ts before : List Token) (s r : ParseState) → Done before s
    → ((b : List Token) (m : ParseState) → Done b m → Answers (b ++ ts) (reading ts m)) → step s place.line w ≡ Some r
    → Answers (before ++ record { kind = w; past_limit = past_limit; place = place } ∷ ts)
    (cond past_limit (Err (fault_at (record { kind = w; past_limit = past_limit; place = place }) Operators)) (reading ts r))
let_in true w place ts before s r h go e =
    stops Operators (record { kind = w; past_limit = true; place = place }) before s ts h
    (leads (words before ++ at place.line w ∷ []) r (walk_more (words before) s place.line w h.leads_to ∙ e), refl)
let_in false w place ts before s r h go e =
    let t : Token = record { kind = w; past_limit = false; place = place } in
    subst (λ (l : List Token). Answers l (reading ts r)) (append_assoc before (t ∷ []) ts) (go (before ++ t ∷ []) r (done_more before s r t h e refl))

-- the next token
followed : (t : Token) (ts before : List Token) (s : ParseState) → Done before s
    → ((b : List Token) (r : ParseState) → Done b r → Answers (b ++ ts) (reading ts r))
    → (o : Option ParseState) → step s t.place.line t.kind ≡ o → Answers (before ++ t ∷ ts) (take_token t o (reading ts) (finish_source s))
followed t ts before s h go None e = refused t.kind t.past_limit t.place before s ts h e
followed t ts before s h go (Some r) e = let_in t.past_limit t.kind t.place ts before s r h go e

answers : (ts before : List Token) (s : ParseState) → Done before s → Answers (before ++ ts) (reading ts s)
answers [] before s h = inr (record { begins = leads (words (before ++ [])) s (rw append-nil h.leads_to); clear = rw append-nil h.clear })
answers (t ∷ ts) before s h = followed t ts before s h (answers ts) (step s t.place.line t.kind) refl

exact : (ts : List Token) → Answers ts (reading ts at_start)
exact ts = answers ts [] at_start (record { leads_to = refl; clear = tt })

-- What is read is spelled.
pub read_is_spelled : (s : Source) (ts : List Token) → reading ts at_start ≡ Ok s → Spells s ts
read_is_spelled s ts e = subst (λ (r : Result Source TextFault). Answers ts r) e (exact ts)

-- ---- a list that has its end

last_steps : (w : TokenKind) (s : ParseState) (n : ℕ) → IsLast w → step s n w ≡ None
last_steps (Bad j) s n h = bad_steps j s n
last_steps End s n h = end_steps s n
last_steps _ s n h = absurd h

last_walks : (o : Option ParseState) (n : ℕ) (w : TokenKind) → IsLast w → and_then o (walk (at n w ∷ [])) ≡ None
last_walks None n w h = refl
last_walks (Some s) n w h = rw (last_steps w s n h) refl

no_run : (ts : List Token) → AreEndedTokens ts → Runs ts → ⊥
no_run ts h r =
    let w : walk (words ts) at_start ≡ None = ap (λ (l : List Token). walk (words l) at_start) h.parts
    ∙ ap (λ (l : List Word). walk l at_start) (words_append h.before (h.token ∷ []))
    ∙ walk_append (words h.before) (word_of h.token ∷ []) at_start ∙ last_walks (walk (words h.before) at_start) h.token.place.line h.token.kind h.last in
    stuck (words ts) w r.begins

-- A fault is at the first token that is wrong.
pub fault_is_first : (ts : List Token) (f : TextFault) → AreEndedTokens ts → reading ts at_start ≡ Err f → StopsAt ts f
fault_is_first ts f h e = elim (subst (λ (r : Result Source TextFault). Answers ts r) e (exact ts)) [ inl s ↦ s | inr r ↦ absurd (no_run ts h r) ]

-- ---- what is spelled is read

reads_next : (t : Token) (before rest : List Token) (r : ParseState) (o : Option ParseState) (end : Option Source) → t.past_limit ≡ false
    → ((m : ParseState) → walk (words before) m ≡ Some r → reading (before ++ rest) m ≡ reading rest r)
    → and_then o (walk (words before)) ≡ Some r → take_token t o (reading (before ++ rest)) end ≡ reading rest r
reads_next t before rest r None end h go e = absurd cc
reads_next t before rest r (Some m) end h go e = rw h (go m e)

reads_on : (before rest : List Token) (s r : ParseState) → AreClear before → walk (words before) s ≡ Some r → reading (before ++ rest) s ≡ reading rest r
reads_on [] rest s r h e = let same : s ≡ r = cc in rw same refl
reads_on (t ∷ before) rest s r h e = reads_next t before rest r (step s t.place.line t.kind) (finish_source s) h.0 (λ m. reads_on before rest m r h.1) e

ends_at : (w : TokenKind) (past_limit : Bool) (place : TextPlace) (behind : List Token) (r : ParseState) (f : Source) → w ≡ End → finish_source r ≡ Some f
    → reading (record { kind = w; past_limit = past_limit; place = place } ∷ behind) r ≡ Ok f
ends_at End past_limit place behind r f e g = rw (end_steps r place.line, g) refl
ends_at _ past_limit place behind r f e g = absurd cc

spelled_at : (o : Option ParseState) (f : Source) (before : List Token) (token : Token) (behind : List Token) → token.kind ≡ End → AreClear before
    → walk (words before) at_start ≡ o → and_then o finish_source ≡ Some f → reading (before ++ token ∷ behind) at_start ≡ Ok f
spelled_at None f before token behind w h e g = absurd cc
spelled_at (Some r) f before token behind w h e g = reads_on before (token ∷ behind) at_start r h e
    ∙ ends_at token.kind token.past_limit token.place behind r f w g

-- What is spelled is read.
pub spelled_is_read : (s : Source) (ts : List Token) → Spells s ts → reading ts at_start ≡ Ok s
spelled_is_read s ts h = ap (λ (l : List Token). reading l at_start) h.parts
    ∙ spelled_at (walk (words h.before) at_start) s h.before h.token h.behind h.ends h.clear refl (complete h.format s (words h.before) h.file)

-- ---- a token that is wrong is the fault

-- how the reading goes on at a token
at_bad : (j : Flaw) (w : TokenKind) (past_limit : Bool) (place : TextPlace) (behind : List Token) (r : ParseState) → w ≡ Bad j
    → reading (record { kind = w; past_limit = past_limit; place = place } ∷ behind) r
    ≡ Err (fault_at (record { kind = w; past_limit = past_limit; place = place }) (fault_of (Bad j)))
at_bad j (Bad i) past_limit place behind r e = let same : Bad i ≡ Bad j = e in
    rw (bad_steps i r place.line) (ap (λ (v : TokenKind). Err (fault_at (record { kind = Bad i; past_limit = past_limit; place = place }) (fault_of v))) same)
at_bad j _ past_limit place behind r e = absurd cc

at_early_end : (w : TokenKind) (past_limit : Bool) (place : TextPlace) (behind : List Token) (r : ParseState) → w ≡ End → finish_source r ≡ None
    → reading (record { kind = w; past_limit = past_limit; place = place } ∷ behind) r
    ≡ Err (fault_at (record { kind = w; past_limit = past_limit; place = place }) Ended)
at_early_end End past_limit place behind r e g = rw (end_steps r place.line, g) refl
at_early_end _ past_limit place behind r e g = absurd cc

at_stranger : (w : TokenKind) (past_limit : Bool) (place : TextPlace) (behind : List Token) (r : ParseState) → IsPlain w → step r place.line w ≡ None
    → reading (record { kind = w; past_limit = past_limit; place = place } ∷ behind) r
    ≡ Err (fault_at (record { kind = w; past_limit = past_limit; place = place }) Unexpected)
at_stranger (Bad j) past_limit place behind r p e = absurd p
at_stranger End past_limit place behind r p e = absurd p
at_stranger _ past_limit place behind r p e = rw e refl

at_past_limit : (t : Token) (behind : List Token) (r : ParseState) (o : Option ParseState) → step r t.place.line t.kind ≡ o → (o ≡ None → ⊥)
    → t.past_limit ≡ true → reading (t ∷ behind) r ≡ Err (fault_at t Operators)
at_past_limit t behind r None e h v = absurd (h refl)
at_past_limit t behind r (Some m) e h v = rw (e, v) refl

none_finishes : (ws : List Word) (r : ParseState) (o : Option Source) → walk ws at_start ≡ Some r → finish_source r ≡ o
    → ((f : Format) (s : Source) → IsFile f s ws → ⊥) → finish_source r ≡ None
none_finishes ws r None w e h = e
none_finishes ws r (Some s) w e h = let file = file_at ws r s w e in absurd (h file.0 s file.1)

none_steps : (ws : List Word) (r : ParseState) (n : ℕ) (t : TokenKind) (o : Option ParseState) → walk ws at_start ≡ Some r → step r n t ≡ o
    → (BeginsFile (ws ++ at n t ∷ []) → ⊥) → step r n t ≡ None
none_steps ws r n t None w e h = e
none_steps ws r n t (Some m) w e h = absurd (h (leads (ws ++ at n t ∷ []) m (walk_more ws r n t w ∙ e)))

some_step : (ws : List Word) (r : ParseState) (n : ℕ) (t : TokenKind) → walk ws at_start ≡ Some r → BeginsFile (ws ++ at n t ∷ []) → step r n t ≡ None → ⊥
some_step ws r n t w h e = stuck (ws ++ at n t ∷ []) (walk_more ws r n t w ∙ e) h

wrong_at : (k : TextKind) (ws : List Word) (t : Token) (behind : List Token) (r : ParseState) → walk ws at_start ≡ Some r → IsWrong k ws t
    → reading (t ∷ behind) r ≡ Err (fault_at t k)
wrong_at BadByte ws t behind r w h = at_bad flaws.Byte t.kind t.past_limit t.place behind r h
wrong_at BadWord ws t behind r w h = at_bad flaws.Word t.kind t.past_limit t.place behind r h
wrong_at NumberTooBig ws t behind r w h = at_bad flaws.Number t.kind t.past_limit t.place behind r h
wrong_at Unexpected ws t behind r w h = at_stranger t.kind t.past_limit t.place behind r h.0
    (none_steps ws r t.place.line t.kind (step r t.place.line t.kind) w refl h.1)
wrong_at Operators ws t behind r w h = at_past_limit t behind r (step r t.place.line t.kind) refl (some_step ws r t.place.line t.kind w h.0) h.1
wrong_at Nested ws t behind r w h = absurd h
wrong_at Ended ws t behind r w h = at_early_end t.kind t.past_limit t.place behind r h.0 (none_finishes ws r (finish_source r) w refl h.1)

stopped_at : (o : Option ParseState) (k : TextKind) (before : List Token) (t : Token) (behind : List Token) → walk (words before) at_start ≡ o
    → BeginsFile (words before) → AreClear before → IsWrong k (words before) t
    → reading (before ++ t ∷ behind) at_start ≡ Err (fault_at t k)
stopped_at None k before t behind e b c h = absurd (stuck (words before) e b)
stopped_at (Some r) k before t behind e b c h = reads_on before (t ∷ behind) at_start r c e ∙ wrong_at k (words before) t behind r e h

-- The first token that is wrong is the fault.
pub first_is_fault : (ts : List Token) (f : TextFault) → StopsAt ts f → reading ts at_start ≡ Err f
first_is_fault ts f h =
    let at_token : fault_at h.token f.kind ≡ f = rw (sym h.line, sym h.column) refl in
    ap (λ (l : List Token). reading l at_start) h.parts
    ∙ stopped_at (walk (words h.before) at_start) f.kind h.before h.token h.behind refl h.begins h.clear h.wrong ∙ ap (λ (g : TextFault). Err g) at_token

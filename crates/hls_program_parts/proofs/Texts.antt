-- What is read of bytes is what they spell, and what is refused is where they are faulty.
use Rattle.std.proofs.Common.{◌≡◌, ℕ, List, [], ◌∷◌, ◌++◌, refl, sym, ap, subst, ◌∙◌, inl, inr, map}
use Rattle.std.specs.Prelude.{◌⊎◌, Bool, false, Result, Ok, Err}
use Rattle.fs_grammar.specs.declared.fault.TextFault.{TextFault}
use Rattle.fs_grammar.specs.declared.fault.TextPlace.{TextPlace}
use Rattle.fs_grammar.specs.declared.fault.TextKind.{TextKind}
use Rattle.fs_grammar.specs.declared.fault.TextKind.TheVariants.{BadByte}
use Rattle.fs_grammar.specs.declared.token.TokenKind.{TokenKind}
use Rattle.fs_grammar.specs.declared.token.TokenKind.TheVariants.{Bad, End}
use Rattle.fs_grammar.specs.declared.token.Token.{Token}
use Rattle.fs_grammar.specs.Spelling.{Word}
use Rattle.fs_grammar.specs.WordWalks.{words}
use Rattle.fs_grammar.specs.Faults.{word_of, IsLast, AreEndedTokens}
use Rattle.fs_lex.specs.Scan.{tokens_of}
use Rattle.fs_lex.specs.Tokenization.{AreTokens, kind_and_place}
use Rattle.fs_lex.proofs.Tokenized.{tokenized}
use Rattle.fs_lex.proofs.Unique.{one_list}
use Rattle.fs_lex.proofs.Ended.{tokens_ended}
use Rattle.hls_program_parts.specs.Programs.{Program}
use Rattle.hls_program_parts.specs.ProgramKeywords.{program_kind}
use Rattle.hls_program_parts.specs.Marks.{opens_relation, operators_up_to, marked_token, mark_tokens, program_tokens}
use Rattle.hls_program_parts.specs.ProgramGrammar.{at_prog, program_reading}
use Rattle.hls_program_parts.specs.ProgramSpelling.{IsProgram}
use Rattle.hls_program_parts.specs.ProgramBeginnings.{BeginsProgram}
use Rattle.hls_program_parts.specs.ProgramLimits.{KeepLimits, TokensSpellProgram, IsWrongInProgram, TokensStopProgram}
use Rattle.hls_program_parts.specs.ProgramTexts.{program_token, TextSpellsProgram, ProgramTextStops}
use Rattle.hls_program_parts.proofs.Exact.{AreMarked, read_spelled, fault_found, spelled_read, fault_read}

-- ---- the tokens of a program

pub marks : (ts : List Token) (u : Bool) (k : ℕ) → AreMarked u k (mark_tokens u k ts)
marks [] u k = tt
marks (t ∷ ts) u k = (refl, marks ts (opens_relation u (program_kind t.kind)) (operators_up_to u (program_kind t.kind) k))

last_kind : (t : TokenKind) → IsLast t → IsLast (program_kind t)
last_kind (Bad j) h = tt
last_kind End h = tt
last_kind _ h = absurd h

ended_by : (a : List Token) (t : Token) (u : Bool) (k : ℕ) → IsLast t.kind → AreEndedTokens (mark_tokens u k (a ++ t ∷ []))
ended_by [] t u k h = record { before = []; token = marked_token u k t; parts = refl; last = last_kind t.kind h }
ended_by (x ∷ a) t u k h =
    let e = ended_by a t (opens_relation u (program_kind x.kind)) (operators_up_to u (program_kind x.kind) k) h in
    record { before = marked_token u k x ∷ e.before; token = e.token; parts = ap (λ (l : List Token). marked_token u k x ∷ l) e.parts; last = e.last }

program_ended : (ts : List Token) → AreEndedTokens ts → AreEndedTokens (program_tokens ts)
program_ended ts h = subst (λ (l : List Token). AreEndedTokens (program_tokens l)) (sym h.parts) (ended_by h.before h.token false 0 h.last)

-- ---- marks aside

-- a token without its mark
abbrev bare : Token → Token
bare t = record { kind = t.kind; past_limit = false; place = t.place }

marked_bare : (ts : List Token) (u : Bool) (k : ℕ) → map bare (mark_tokens u k ts) ≡ map program_token ts
marked_bare [] u k = refl
marked_bare (t ∷ ts) u k = ap (λ (l : List Token). program_token t ∷ l)
    (marked_bare ts (opens_relation u (program_kind t.kind)) (operators_up_to u (program_kind t.kind) k))

bare_words : (ts : List Token) → words (map bare ts) ≡ words ts
bare_words [] = refl
bare_words (t ∷ ts) = ap (λ (l : List Word). word_of t ∷ l) (bare_words ts)

bare_append : (a : List Token) (t : Token) (b : List Token) → map bare (a ++ t ∷ b) ≡ map bare a ++ bare t ∷ map bare b
bare_append [] t b = refl
bare_append (x ∷ a) t b = ap (λ (l : List Token). bare x ∷ l) (bare_append a t b)

-- where tokens without marks are cut, those with marks are
record IsCut (a : List Token) (t : Token) (us : List Token) : Type 0 where
  before : List Token
  token : Token
  behind : List Token
  is : us ≡ before ++ token ∷ behind
  first : map bare before ≡ a
  one : bare token ≡ t

cut_bare : (us a : List Token) (t : Token) (b : List Token) → map bare us ≡ a ++ t ∷ b → IsCut a t us
cut_bare [] [] t b e = absurd cc
cut_bare [] (x ∷ a) t b e = absurd cc
cut_bare (u ∷ us) [] t b e = record { before = []; token = u; behind = us; is = refl; first = refl; one = cc }
cut_bare (u ∷ us) (x ∷ a) t b e =
    let heads : bare u ≡ x = cc in
    let tails : map bare us ≡ a ++ t ∷ b = cc in
    let c = cut_bare us a t b tails in
    record {
      before = u ∷ c.before;
      token = c.token;
      behind = c.behind;
      is = ap (λ (l : List Token). u ∷ l) c.is;
      first = ap (λ (l : List Token). bare u ∷ l) c.first ∙ ap (λ (y : Token). y ∷ a) heads;
      one = c.one;
    }

cut_words : (before a : List Token) → map bare before ≡ a → words before ≡ words a
cut_words before a e = sym (bare_words before) ∙ ap words e

spell_bare : (us : List Token) (p : Program) → TokensSpellProgram us p → TokensSpellProgram (map bare us) p
spell_bare us p h = record {
  before = map bare h.before;
  token = bare h.token;
  behind = map bare h.behind;
  parts = ap (map bare) h.parts ∙ bare_append h.before h.token h.behind;
  ends = h.ends;
  spelled = subst (λ (l : List Word). IsProgram p l) (sym (bare_words h.before)) h.spelled;
  limits = subst KeepLimits (sym (bare_words h.before)) h.limits;
}

bare_spell : (us : List Token) (p : Program) → TokensSpellProgram (map bare us) p → TokensSpellProgram us p
bare_spell us p h =
    let c = cut_bare us h.before h.token h.behind h.parts in
    let same : words h.before ≡ words c.before = sym (cut_words c.before h.before c.first) in
    record {
      before = c.before;
      token = c.token;
      behind = c.behind;
      parts = c.is;
      ends = ap (λ (t : Token). t.kind) c.one ∙ h.ends;
      spelled = subst (λ (l : List Word). IsProgram p l) same h.spelled;
      limits = subst KeepLimits same h.limits;
    }

-- what is wrong with a token does not depend on its mark
alike : (k : TextKind) (ws : List Word) (t : Token) → (IsWrongInProgram k ws (bare t) → IsWrongInProgram k ws t)
    × (IsWrongInProgram k ws t → IsWrongInProgram k ws (bare t))
alike BadByte ws t = (λ h. h, λ h. h)
alike _ ws t = (λ h. h, λ h. h)

stop_bare : (us : List Token) (f : TextFault) → TokensStopProgram us f → TokensStopProgram (map bare us) f
stop_bare us f h = record {
  before = map bare h.before;
  token = bare h.token;
  behind = map bare h.behind;
  parts = ap (map bare) h.parts ∙ bare_append h.before h.token h.behind;
  begins = subst BeginsProgram (sym (bare_words h.before)) h.begins;
  limits = subst KeepLimits (sym (bare_words h.before)) h.limits;
  wrong = subst (λ (l : List Word). IsWrongInProgram f.kind l (bare h.token)) (sym (bare_words h.before)) ((alike f.kind (words h.before) h.token).1 h.wrong);
  line = h.line;
  column = h.column;
}

bare_stop : (us : List Token) (f : TextFault) → TokensStopProgram (map bare us) f → TokensStopProgram us f
bare_stop us f h =
    let c = cut_bare us h.before h.token h.behind h.parts in
    let same : words h.before ≡ words c.before = sym (cut_words c.before h.before c.first) in
    record {
      before = c.before;
      token = c.token;
      behind = c.behind;
      parts = c.is;
      begins = subst BeginsProgram same h.begins;
      limits = subst KeepLimits same h.limits;
      wrong = (alike f.kind (words c.before) c.token).0
          (subst (λ (l : List Word). IsWrongInProgram f.kind l (bare c.token)) same
          (subst (λ (t : Token). IsWrongInProgram f.kind (words h.before) t) (sym c.one) h.wrong));
      line = h.line ∙ ap (λ (t : Token). t.place.line) (sym c.one);
      column = h.column ∙ ap (λ (t : Token). t.place.column) (sym c.one);
    }

-- tokens of the same kinds at the same places
same_by : (ts us : List Token) → map kind_and_place ts ≡ map kind_and_place us → map program_token ts ≡ map program_token us
same_by [] [] e = refl
same_by [] (u ∷ us) e = absurd cc
same_by (t ∷ ts) [] e = absurd cc
same_by (t ∷ ts) (u ∷ us) e =
    let heads : kind_and_place t ≡ kind_and_place u = cc in
    let tails : map kind_and_place ts ≡ map kind_and_place us = cc in
    let one : program_token t ≡ program_token u =
    ap (λ (p : TokenKind × TextPlace). record { kind = program_kind p.0; past_limit = false; place = p.1 }) heads in
    ap (λ (x : Token). x ∷ map program_token ts) one ∙ ap (λ (l : List Token). program_token u ∷ l) (same_by ts us tails)

-- ---- texts

-- the tokens that are read
abbrev read_tokens : List ℕ → List Token
read_tokens bytes = program_tokens (tokens_of bytes)

made_alike : (bytes : List ℕ) (ts : List Token) → AreTokens [] bytes ts → map program_token ts ≡ map bare (read_tokens bytes)
made_alike bytes ts a = same_by ts (tokens_of bytes) (one_list ts (tokens_of bytes) [] bytes a (tokenized bytes)) ∙ sym (marked_bare (tokens_of bytes) false 0)

pub spells : (bytes : List ℕ) (p : Program) → program_reading (program_tokens (tokens_of bytes)) at_prog ≡ Ok p → TextSpellsProgram bytes p
spells bytes p e = record {
  tokens = tokens_of bytes;
  are = tokenized bytes;
  spell = subst (λ (l : List Token). TokensSpellProgram l p) (marked_bare (tokens_of bytes) false 0)
      (spell_bare (read_tokens bytes) p (read_spelled (read_tokens bytes) p (marks (tokens_of bytes) false 0) e));
}

pub reads : (bytes : List ℕ) (p : Program) → TextSpellsProgram bytes p → program_reading (program_tokens (tokens_of bytes)) at_prog ≡ Ok p
reads bytes p t = spelled_read (read_tokens bytes) p (marks (tokens_of bytes) false 0)
    (bare_spell (read_tokens bytes) p (subst (λ (l : List Token). TokensSpellProgram l p) (made_alike bytes t.tokens t.are) t.spell))

pub stops : (bytes : List ℕ) (f : TextFault) → program_reading (program_tokens (tokens_of bytes)) at_prog ≡ Err f → ProgramTextStops bytes f
stops bytes f e = record {
  tokens = tokens_of bytes;
  are = tokenized bytes;
  stop = subst (λ (l : List Token). TokensStopProgram l f) (marked_bare (tokens_of bytes) false 0)
      (stop_bare (read_tokens bytes) f
      (fault_found (read_tokens bytes) f (marks (tokens_of bytes) false 0) (program_ended (tokens_of bytes) (tokens_ended bytes)) e));
}

pub refuses : (bytes : List ℕ) (f : TextFault) → ProgramTextStops bytes f → program_reading (program_tokens (tokens_of bytes)) at_prog ≡ Err f
refuses bytes f t = fault_read (read_tokens bytes) f (marks (tokens_of bytes) false 0)
    (bare_stop (read_tokens bytes) f (subst (λ (l : List Token). TokensStopProgram l f) (made_alike bytes t.tokens t.are) t.stop))

settled : (bytes : List ℕ) (r : Result Program TextFault) → program_reading (program_tokens (tokens_of bytes)) at_prog ≡ r
    → ((p : Program) × TextSpellsProgram bytes p) ⊎ ((f : TextFault) × ProgramTextStops bytes f)
settled bytes (Ok p) e = inl (p, spells bytes p e)
settled bytes (Err f) e = inr (f, stops bytes f e)

-- bytes spell a program or have a fault
pub spells_or_stops : (bytes : List ℕ) → ((p : Program) × TextSpellsProgram bytes p) ⊎ ((f : TextFault) × ProgramTextStops bytes f)
spells_or_stops bytes = settled bytes (program_reading (program_tokens (tokens_of bytes)) at_prog) refl

same_program : (o : Result Program TextFault) (p q : Program) → o ≡ Ok p → o ≡ Ok q → p ≡ q
same_program o p q e g = cc

same_fault : (o : Result Program TextFault) (f g : TextFault) → o ≡ Err f → o ≡ Err g → f ≡ g
same_fault o f g e h = cc

differ : (o : Result Program TextFault) (p : Program) (f : TextFault) → o ≡ Ok p → o ≡ Err f → ⊥
differ o p f e g = cc

-- of programs one, of faults one, and not both
pub one_program : (bytes : List ℕ) (p q : Program) → TextSpellsProgram bytes p → TextSpellsProgram bytes q → p ≡ q
one_program bytes p q t u = same_program (program_reading (program_tokens (tokens_of bytes)) at_prog) p q (reads bytes p t) (reads bytes q u)

pub one_fault : (bytes : List ℕ) (f g : TextFault) → ProgramTextStops bytes f → ProgramTextStops bytes g → f ≡ g
one_fault bytes f g t u = same_fault (program_reading (program_tokens (tokens_of bytes)) at_prog) f g (refuses bytes f t) (refuses bytes g u)

pub spelled_program_never_stops : (bytes : List ℕ) (p : Program) (f : TextFault) → TextSpellsProgram bytes p → ProgramTextStops bytes f → ⊥
spelled_program_never_stops bytes p f t u = differ (program_reading (program_tokens (tokens_of bytes)) at_prog) p f (reads bytes p t) (refuses bytes f u)

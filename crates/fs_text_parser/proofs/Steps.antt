-- Readings that agree, and a token that is taken or refused.
use Rattle.std.proofs.Common.{◌≡◌, ℕ, Bool, true, false, cond, List, [], ◌∷◌, Option, Some, None, Bor, Result, Ok, Err}
use Rattle.std.proofs.Common.{refl, ◌∙◌}
use Rattle.fs_expression_text.proofs.Steps.{taken}
use Rattle.fs_model.specs.declared.parts.Role.TheVariants.{Output}
use Rattle.fs_model.specs.declared.parts.Sort.TheVariants as sorts
use Rattle.fs_model.specs.Expressions.{Guard}
use Rattle.fs_model.specs.Source.{Declaration, Source}
use Rattle.fs_grammar.specs.declared.fault.TextPlace.{TextPlace}
use Rattle.fs_grammar.specs.declared.fault.TextFault.{TextFault}
use Rattle.fs_grammar.specs.declared.fault.ReadError.{ReadError}
use Rattle.fs_grammar.specs.declared.fault.ReadError.TheVariants.{Text, NoMemory}
use Rattle.fs_grammar.specs.declared.format.Format.{Format}
use Rattle.fs_grammar.specs.declared.format.Format.TheVariants.{One, Two}
use Rattle.fs_grammar.specs.declared.token.TokenKind.{TokenKind}
use Rattle.fs_grammar.specs.declared.token.TokenKind.TheVariants.{State, When, Goto, Emit, Port, Name, Number, End}
use Rattle.fs_grammar.specs.declared.token.Token.{Token}
use Rattle.fs_grammar.specs.Tokens.{kind_at, line_at, refusal, tokens_after, Gives, ParsesOn, ◌>>=◌}
use Rattle.fs_grammar.specs.PartEnds.{EndsName, begins_transition, name_in}
use Rattle.fs_grammar.specs.Grammar.{OpenState, OpenTransition, with_open_state, scalar, port, value, ParseState, at_format, at_semicolon, at_declaration}
use Rattle.fs_grammar.specs.Grammar.{at_declared, at_reset, after_reset, at_state, at_state_name, after_state_name, at_transition, at_target, after_target}
use Rattle.fs_grammar.specs.Grammar.{at_assignment, at_port, after_assignment_name, at_equals, at_sum, step_transition, step_format, step, finish_source}
use Rattle.fs_grammar.specs.Grammar.{reading}
use Rattle.fs_grammar.proofs.PartEnds.{scalar_steps}
use Rattle.fs_text_parser.specs.DeclarationStarts.{IsNoEmit, format_in, format_at}

-- two states read alike where each token leads both to the same, and both end alike
same_reading : (ts : List Token) (a b : ParseState) → ((n : ℕ) (t : TokenKind) → kind_at ts ≡ Some t → step a n t ≡ step b n t)
    → finish_source a ≡ finish_source b → reading ts a ≡ reading ts b
same_reading [] a b h e = refl
same_reading (t ∷ ts) a b h e = rw (h t.place.line t.kind refl, e) refl

-- ---- what may be left out

-- a name without an index is a scalar that is assigned
pub scalar_ends : (ts : List Token) (o : OpenTransition) (x : List ℕ) → EndsName ts
    → reading ts (after_assignment_name o x) ≡ reading ts (at_equals o (scalar x))
scalar_ends ts o x h = same_reading ts (after_assignment_name o x) (at_equals o (scalar x)) (λ n t e. scalar_steps n t o x (rw e at h)) refl

-- where no transition begins, a state is done
ended_steps : (n : ℕ) (t : TokenKind) (d : OpenState) → begins_transition (Some t) ≡ false
    → step_transition n t d ≡ step (at_state d.format (with_open_state d)) n t
ended_steps n When d h = absurd cc
ended_steps n Goto d h = absurd cc
ended_steps n State d h = refl
ended_steps n _ d h = refl

pub transitions_end : (ts : List Token) (d : OpenState) → begins_transition (kind_at ts) ≡ false
    → reading ts (at_transition d) ≡ reading ts (at_state d.format (with_open_state d))
transitions_end ts d h = same_reading ts (at_transition d) (at_state d.format (with_open_state d)) (λ n t e. ended_steps n t d (rw e at h)) refl

-- ---- a token that is taken

-- a token that can follow, and is not past the limit
pub took : (ts rest : List Token) (w : TokenKind) (s n : ParseState) → kind_at ts ≡ Some w → step s (line_at ts) w ≡ Some n → tokens_after ts ≡ Ok rest
    → reading ts s ≡ reading rest n
took [] rest w s n e f g = absurd cc
took (t ∷ ts) rest w s n e f g =
    let is : t.kind ≡ w = cc in
    let i = taken t.past_limit _ ts rest g in
    rw (is, f, i.0, i.1) refl

past : {X Y : Type 0} (past_limit : Bool) (f d : TextFault) (x : X) (r : Result Y TextFault) → cond past_limit (Err f) (Ok x) ≡ Err d
    → cond past_limit (Err f) r ≡ Err d
past true f d x r e = cc
past false f d x r e = absurd cc

-- a token that can follow, past the limit or not
pub accepted : (ts : List Token) (w : TokenKind) (s n : ParseState) (r : Result (Bor (List Token)) ReadError) → kind_at ts ≡ Some w
    → step s (line_at ts) w ≡ Some n → Gives (λ x. x.now) r (tokens_after ts) → ParsesOn r (reading ts s) (λ x. reading x.now n)
accepted ts w s n (Ok x) e f g = took ts x.now w s n e f g
accepted ts w s n (Err NoMemory) e f g = tt
accepted [] w s n (Err (Text d)) e f g = absurd cc
accepted (t ∷ ts) w s n (Err (Text d)) e f g =
    let is : t.kind ≡ w = cc in
    rw (is, f) (past t.past_limit _ d ts (reading ts n) g)

refused_by : (w : TokenKind) (past_limit : Bool) (place : TextPlace) (ts : List Token) (s : ParseState) → step s place.line w ≡ None → finish_source s ≡ None
    → reading (record { kind = w; past_limit = past_limit; place = place } ∷ ts) s
    ≡ Err (refusal (record { kind = w; past_limit = past_limit; place = place } ∷ ts))
refused_by End past_limit place ts s e f = rw (e, f) refl
refused_by w past_limit place ts s e f = rw e refl

-- a token that cannot follow, where no text ends
pub refused : (ts : List Token) (s : ParseState) → ((w : TokenKind) → kind_at ts ≡ Some w → step s (line_at ts) w ≡ None) → finish_source s ≡ None
    → reading ts s ≡ Err (refusal ts)
refused [] s h f = refl
refused (t ∷ ts) s h f = refused_by t.kind t.past_limit t.place ts s (h t.kind refl) f

-- ---- formats

format_steps : (n : ℕ) (w : TokenKind) → step at_format n w ≡ step_format (format_in (Some w))
format_steps n (Number k) = refl
format_steps n _ = refl

format_leads : (o : Option Format) (f : Format) → o ≡ Some f → step_format o ≡ Some (at_semicolon f)
format_leads o f e = rw e refl

format_fails : (o : Option Format) → o ≡ None → step_format o ≡ None
format_fails o e = rw e refl

-- a number that says a format
pub format_taken : (ts rest : List Token) (f : Format) → format_at ts ≡ Some f → tokens_after ts ≡ Ok rest
    → reading ts at_format ≡ reading rest (at_semicolon f)
format_taken [] rest f e g = absurd cc
format_taken (t ∷ ts) rest f e g = took (t ∷ ts) rest t.kind at_format (at_semicolon f) refl
    (format_steps t.place.line t.kind ∙ format_leads (format_in (Some t.kind)) f e) g

-- any other token
pub format_refused : (ts : List Token) → format_at ts ≡ None → reading ts at_format ≡ Err (refusal ts)
format_refused ts e = refused ts at_format (λ w k. format_steps (line_at ts) w ∙ format_fails (format_in (Some w)) (rw k at e)) refl

abbrev ports : Format → List Declaration → ℕ → ParseState
ports f ds n = at_declared f ds (record { line = n; role = Output; sort = sorts.Port; names = [] })

-- the word `port` in a text of format 2
pub port_taken : (ts rest : List Token) (f : Format) (ds : List Declaration) → kind_at ts ≡ Some Port → f ≡ Two → tokens_after ts ≡ Ok rest
    → reading ts (at_declaration f ds) ≡ reading rest (at_declared f ds (record { line = line_at ts; role = Output; sort = sorts.Port; names = [] }))
port_taken ts rest f ds k e g = took ts rest Port (at_declaration f ds) (ports f ds (line_at ts)) k (rw e refl) g

-- and in one of format 1
pub port_refused : (ts : List Token) (f : Format) (ds : List Declaration) → kind_at ts ≡ Some Port → f ≡ One
    → reading ts (at_declaration f ds) ≡ Err (refusal ts)
port_refused ts f ds k e = refused ts (at_declaration f ds) (λ w i. let is : w ≡ Port = cc in rw (is, e) refl) refl

-- the word `emit` in a text of format 2
pub emit_taken : (ts rest : List Token) (f : Format) (o : OpenTransition) → kind_at ts ≡ Some Emit → o.state.format ≡ f → f ≡ Two → tokens_after ts ≡ Ok rest
    → reading ts (at_assignment o) ≡ reading rest (at_port o)
emit_taken ts rest f o k e i g = took ts rest Emit (at_assignment o) (at_port o) k (rw (e, i) refl) g

-- and in one of format 1
pub emit_refused : (ts : List Token) (f : Format) (o : OpenTransition) → kind_at ts ≡ Some Emit → o.state.format ≡ f → f ≡ One
    → reading ts (at_assignment o) ≡ Err (refusal ts)
emit_refused ts f o k e i = refused ts (at_assignment o) (λ w j. let is : w ≡ Emit = cc in rw (is, e, i) refl) refl

-- ---- names

abbrev IsNoName : TokenKind → Type 0
IsNoName (Name x) = ⊥
IsNoName _ = Unit {0}

abbrev with_name : List ℕ → List Token → Result (List ℕ × List Token) TextFault
with_name x ts = Ok (x, ts)

taken_name : (past_limit : Bool) (f : TextFault) (x : List ℕ) (ts : List Token) (n : List ℕ → ParseState)
    → cond past_limit (Err f) (reading ts (n x)) ≡ ((cond past_limit (Err f) (Ok ts) >>= with_name x) >>= λ y. reading y.1 (n y.0))
taken_name true f x ts n = refl
taken_name false f x ts n = refl

of_kind : (w : TokenKind) (past_limit : Bool) (place : TextPlace) (ts : List Token) (s : ParseState) (n : List ℕ → ParseState)
    → ((m : ℕ) (x : List ℕ) → step s m (Name x) ≡ Some (n x))
    → (IsNoName w → step s place.line w ≡ None) → finish_source s ≡ None
    → reading (record { kind = w; past_limit = past_limit; place = place } ∷ ts) s
    ≡ (name_in (record { kind = w; past_limit = past_limit; place = place } ∷ ts) >>= λ x. reading x.1 (n x.0))
of_kind (Name x) past_limit place ts s n h g f = rw (h place.line x) (taken_name past_limit _ x ts n)
of_kind End past_limit place ts s n h g f = rw (g tt, f) refl
of_kind w past_limit place ts s n h g f = rw (g tt) refl

-- a state in which a name can follow, and no other token that is at hand
named_reading : (ts : List Token) (s : ParseState) (n : List ℕ → ParseState) → ((m : ℕ) (x : List ℕ) → step s m (Name x) ≡ Some (n x))
    → ((m : ℕ) (t : TokenKind) → kind_at ts ≡ Some t → IsNoName t → step s m t ≡ None) → finish_source s ≡ None
    → reading ts s ≡ (name_in ts >>= λ x. reading x.1 (n x.0))
named_reading [] s n h g f = refl
named_reading (t ∷ ts) s n h g f = of_kind t.kind t.past_limit t.place ts s n h (g t.place.line t.kind refl) f

no_emit_steps : (m : ℕ) (t : TokenKind) (o : OpenTransition) → IsNoEmit (Some t) → IsNoName t → step (at_assignment o) m t ≡ None
no_emit_steps m Emit o e h = absurd e
no_emit_steps m (Name x) o e h = absurd h
no_emit_steps m _ o e h = refl

pub name_assignment : (ts : List Token) (o : OpenTransition) → IsNoEmit (kind_at ts)
    → reading ts (at_assignment o) ≡ (name_in ts >>= λ x. reading x.1 (after_assignment_name o x.0))
name_assignment ts o e = named_reading ts (at_assignment o) (after_assignment_name o) (λ m x. refl) (λ m t i. no_emit_steps m t o (rw i at e)) refl

pub name_port : (ts : List Token) (o : OpenTransition) → reading ts (at_port o) ≡ (name_in ts >>= λ x. reading x.1 (at_sum (value o (port x.0))))
name_port ts o = named_reading ts (at_port o) (λ x. at_sum (value o (port x))) (λ m x. refl) (λ m. elim [ Name x ↦ λ i h. absurd h | _ ↦ λ i h. refl ]) refl

pub name_target : (ts : List Token) (d : OpenState) (m : ℕ) (g : Option (Guard (List ℕ)))
    → reading ts (at_target d m g)
    ≡ (name_in ts >>= λ x. reading x.1 (after_target (record { state = d; line = m; guard = g; target = x.0; assignments = [] })))
name_target ts d m g =
    named_reading ts (at_target d m g) (λ x. after_target (record { state = d; line = m; guard = g; target = x; assignments = [] })) (λ n x. refl)
    (λ n. elim [ Name x ↦ λ i h. absurd h | _ ↦ λ i h. refl ]) refl

pub name_state : (ts : List Token) (f : Format) (s : Source) (m : ℕ)
    → reading ts (at_state_name f s m)
    ≡ (name_in ts >>= λ x. reading x.1 (after_state_name (record { format = f; source = s; state = record { line = m; name = x.0; transitions = [] } })))
name_state ts f s m =
    named_reading ts (at_state_name f s m) (λ x. after_state_name (record { format = f; source = s; state = record { line = m; name = x; transitions = [] } }))
    (λ n x. refl) (λ n. elim [ Name x ↦ λ i h. absurd h | _ ↦ λ i h. refl ]) refl

pub name_reset : (ts : List Token) (f : Format) (ds : List Declaration) (m : ℕ)
    → reading ts (at_reset f ds m) ≡ (name_in ts >>= λ x. reading x.1 (after_reset f (record { declarations = ds; reset_line = m; reset = x.0; states = [] })))
name_reset ts f ds m =
    named_reading ts (at_reset f ds m) (λ x. after_reset f (record { declarations = ds; reset_line = m; reset = x; states = [] })) (λ n x. refl)
    (λ n. elim [ Name x ↦ λ i h. absurd h | _ ↦ λ i h. refl ]) refl

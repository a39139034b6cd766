-- The declarations of a machine text read as they do by themselves.
use Rattle.std.proofs.Common.{◌≡◌, ℕ, List, [], ◌∷◌, ◌++◌, Option, Some, None, Err, refl}
use Rattle.fs_model.specs.declared.parts.Role.{Role}
use Rattle.fs_model.specs.Source.{Declaration}
use Rattle.fs_grammar.specs.declared.fault.TextFault.{TextFault}
use Rattle.fs_grammar.specs.declared.format.Format.{Format}
use Rattle.fs_grammar.specs.declared.token.TokenKind.{TokenKind}
use Rattle.fs_grammar.specs.declared.token.TokenKind.TheVariants.{Array, Name, Comma, Semicolon, End}
use Rattle.fs_grammar.specs.declared.token.Token.{Token}
use Rattle.fs_grammar.specs.Tokens.{refusal}
use Rattle.fs_grammar.specs.Grammar.{ParseState, at_declaration, at_sort, at_declared, after_declared, step, stop_source, take_token, finish_source, reading}
use Rattle.fs_phrase_text.specs.Declaring.{Declaring, at_name, after_name, Lead, inside, whole, HostsDeclarations}
use Rattle.fs_phrase_text.specs.Declaring as inner

-- a place inside a declaration, as a place of the whole text
abbrev pub placed : Format → List Declaration → Declaring → ParseState
placed f ds (inner.at_sort n role) = at_sort f ds n role
placed f ds (at_name d) = at_declared f ds d
placed f ds (after_name d) = after_declared f ds d

-- the place after a whole one
abbrev pub behind : Format → List Declaration → Declaration → ParseState
behind f ds d = at_declaration f (ds ++ d ∷ [])

abbrev leads : Format → List Declaration → Option Lead → Option ParseState
leads f ds (Some (inside s)) = Some (placed f ds s)
leads f ds (Some (whole d)) = Some (behind f ds d)
leads f ds None = None

sort_steps : (f : Format) (ds : List Declaration) (n : ℕ) (w : TokenKind) (m : ℕ) (role : Role)
    → step (at_sort f ds m role) n w ≡ leads f ds (inner.declaration_step (inner.at_sort m role) w)
sort_steps f ds n Array m role = refl
sort_steps f ds n (Name x) m role = refl
sort_steps f ds n _ m role = refl

name_steps : (f : Format) (ds : List Declaration) (n : ℕ) (w : TokenKind) (d : Declaration)
    → step (at_declared f ds d) n w ≡ leads f ds (inner.declaration_step (at_name d) w)
name_steps f ds n (Name x) d = refl
name_steps f ds n _ d = refl

separator_steps : (f : Format) (ds : List Declaration) (n : ℕ) (w : TokenKind) (d : Declaration)
    → step (after_declared f ds d) n w ≡ leads f ds (inner.declaration_step (after_name d) w)
separator_steps f ds n Comma d = refl
separator_steps f ds n Semicolon d = refl
separator_steps f ds n _ d = refl

steps : (f : Format) (ds : List Declaration) (n : ℕ) (w : TokenKind) (s : Declaring) → step (placed f ds s) n w ≡ leads f ds (inner.declaration_step s w)
steps f ds n w (inner.at_sort m role) = sort_steps f ds n w m role
steps f ds n w (at_name d) = name_steps f ds n w d
steps f ds n w (after_name d) = separator_steps f ds n w d

stops : (f : Format) (ds : List Declaration) (s : Declaring) → finish_source (placed f ds s) ≡ None
stops f ds (inner.at_sort n role) = refl
stops f ds (at_name d) = refl
stops f ds (after_name d) = refl

pub none_stops : (t : TokenKind) (f : TextFault) → stop_source t f None ≡ Err f
none_stops End f = refl
none_stops _ f = refl

goes_by : (f : Format) (ds : List Declaration) (t : Token) (ts : List Token) (o : Option Lead)
    → take_token t (leads f ds o) (reading ts) None ≡ inner.take_declaration_token t o (λ u. reading ts (placed f ds u)) (λ d. reading ts (behind f ds d))
goes_by f ds t ts (Some (inside s)) = refl
goes_by f ds t ts (Some (whole d)) = refl
goes_by f ds t ts None = none_stops t.kind (refusal (t ∷ []))

goes_on : (f : Format) (ds : List Declaration) (t : Token) (ts : List Token) (s : Declaring)
    → reading (t ∷ ts) (placed f ds s) ≡ inner.take_declaration_token t (inner.declaration_step s t.kind) (λ u. reading ts (placed f ds u))
    (λ d. reading ts (behind f ds d))
goes_on f ds t ts s = rw (steps f ds t.place.line t.kind s, stops f ds s) (goes_by f ds t ts (inner.declaration_step s t.kind))

-- machine texts host declarations
pub hosts : (f : Format) (ds : List Declaration) → HostsDeclarations reading (placed f ds) (behind f ds)
hosts f ds = record { ends = λ s. refl; goes_on = goes_on f ds }

-- Readings that agree, and names that are taken.
use Rattle.std.proofs.Common.{◌≡◌, ℕ, Bool, true, false, cond, List, [], ◌∷◌, Option, Some, Result, Ok, Err, refl}
use Rattle.fs_model.specs.declared.parts.Role.{Role}
use Rattle.fs_model.specs.declared.parts.Sort.TheVariants as sorts
use Rattle.fs_model.specs.Source.{Declaration}
use Rattle.fs_grammar.specs.declared.fault.TextPlace.{TextPlace}
use Rattle.fs_grammar.specs.declared.fault.TextFault.{TextFault}
use Rattle.fs_grammar.specs.declared.token.TokenKind.{TokenKind}
use Rattle.fs_grammar.specs.declared.token.TokenKind.TheVariants.{Array, Name}
use Rattle.fs_grammar.specs.declared.token.Token.{Token}
use Rattle.fs_grammar.specs.Tokens.{kind_at, ◌>>=◌}
use Rattle.fs_grammar.specs.PartEnds.{name_in}
use Rattle.fs_grammar.specs.Grammar.{with_names}
use Rattle.fs_phrase_text.specs.Declaring.{at_sort, at_name, after_name, declaration_step, parse_declaration}

abbrev IsNoArray : Option TokenKind → Type 0
IsNoArray (Some Array) = ⊥
IsNoArray _ = Unit {0}

abbrev scalars : ℕ → Role → Declaration
scalars n role = record { line = n; role = role; sort = sorts.Scalar; names = [] }

scalar_steps : (t : TokenKind) (n : ℕ) (role : Role) → IsNoArray (Some t) → declaration_step (at_sort n role) t ≡ declaration_step (at_name (scalars n role)) t
scalar_steps Array n role h = absurd h
scalar_steps _ n role h = refl

-- without the word `array` a declaration is of scalars
pub no_array : (ts : List Token) (n : ℕ) (role : Role) → IsNoArray (kind_at ts)
    → parse_declaration ts (at_sort n role) ≡ parse_declaration ts (at_name (record { line = n; role = role; sort = sorts.Scalar; names = [] }))
no_array [] n role h = refl
no_array (t ∷ ts) n role h = rw (scalar_steps t.kind n role h) refl

abbrev with_name : List ℕ → List Token → Result (List ℕ × List Token) TextFault
with_name x ts = Ok (x, ts)

taken_name : {Y : Type 0} (past_limit : Bool) (f : TextFault) (x : List ℕ) (ts : List Token) (go : List ℕ → List Token → Result Y TextFault)
    → cond past_limit (Err f) (go x ts) ≡ ((cond past_limit (Err f) (Ok ts) >>= with_name x) >>= λ y. go y.0 y.1)
taken_name true f x ts go = refl
taken_name false f x ts go = refl

name_taken : (w : TokenKind) (past_limit : Bool) (place : TextPlace) (ts : List Token) (d : Declaration)
    → parse_declaration (record { kind = w; past_limit = past_limit; place = place } ∷ ts) (at_name d)
    ≡ (name_in (record { kind = w; past_limit = past_limit; place = place } ∷ ts) >>= λ x. parse_declaration x.1 (after_name (with_names d (x.0 ∷ []))))
name_taken (Name x) past_limit place ts d = taken_name past_limit _ x ts (λ y rest. parse_declaration rest (after_name (with_names d (y ∷ []))))
name_taken w past_limit place ts d = refl

pub name_declared : (ts : List Token) (d : Declaration)
    → parse_declaration ts (at_name d) ≡ (name_in ts >>= λ x. parse_declaration x.1 (after_name (with_names d (x.0 ∷ []))))
name_declared [] d = refl
name_declared (t ∷ ts) d = name_taken t.kind t.past_limit t.place ts d

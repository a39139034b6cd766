-- A declaration reads in a language as it does by itself.
use Rattle.std.proofs.Common.{◌≡◌, List, [], ◌∷◌, Option, Some, None, Result, Ok, Err, refl, sym, ap, ◌∙◌}
use Rattle.fs_model.specs.Source.{Declaration}
use Rattle.fs_grammar.specs.declared.fault.TextFault.{TextFault}
use Rattle.fs_grammar.specs.declared.fault.ReadError.{ReadError}
use Rattle.fs_grammar.specs.declared.fault.ReadError.TheVariants.{Text, NoMemory}
use Rattle.fs_grammar.specs.declared.fault.TextKind.TheVariants.{Operators}
use Rattle.fs_grammar.specs.declared.token.Token.{Token}
use Rattle.fs_grammar.specs.Tokens.{◌>>=◌, Gives, ParsesOn, fault_at}
use Rattle.fs_grammar.proofs.Refusals.{taken_by}
use Rattle.fs_phrase_text.specs.Declaring.{Declaring, Lead, inside, whole, declaration_step, take_declaration_token, parse_declaration, HostsDeclarations}

goes_by : {Y : Type 0} (t : Token) (ts : List Token) (o : Option Lead) (go : Declaring → Result Y TextFault) (F : Declaration × List Token → Result Y TextFault)
    → ((s : Declaring) → go s ≡ (parse_declaration ts s >>= F))
    → take_declaration_token t o go (λ d. F (d, ts)) ≡ (take_declaration_token t o (parse_declaration ts) (λ d. Ok (d, ts)) >>= F)
goes_by t ts (Some (inside s)) go F h = taken_by t.past_limit (fault_at t Operators) (go s) (parse_declaration ts s) F (h s)
goes_by t ts (Some (whole d)) go F h = taken_by t.past_limit (fault_at t Operators) (F (d, ts)) (Ok (d, ts)) F refl
goes_by t ts None go F h = refl

-- the language goes on after a declaration that was read by itself
pub hosted : {S Y : Type 0} (read : List Token → S → Result Y TextFault) (put : Declaring → S) (after : Declaration → S) → HostsDeclarations read put after
    → (ts : List Token) (s : Declaring) → read ts (put s) ≡ (parse_declaration ts s >>= λ x. read x.1 (after x.0))
hosted read put after h [] s = h.ends s
hosted read put after h (t ∷ ts) s = h.goes_on t ts s ∙ goes_by t ts (declaration_step s t.kind) (λ u. read ts (put u)) (λ x. read x.1 (after x.0))
    (λ u. hosted read put after h ts u)

-- what a call says of a part of a declaration by itself, it says of one in the language
pub carried : {S Y X : Type 0} (read : List Token → S → Result Y TextFault) (put : Declaring → S) (after : Declaration → S) → HostsDeclarations read put after
    → (r : Result X ReadError) (ts : List Token) (s : Declaring) (rest : X → List Token) (at : X → Declaring)
    → ParsesOn r (parse_declaration ts s) (λ x. parse_declaration (rest x) (at x)) → ParsesOn r (read ts (put s)) (λ x. read (rest x) (put (at x)))
carried read put after h (Ok x) ts s rest at e = hosted read put after h ts s ∙ ap (λ p. p >>= λ y. read y.1 (after y.0)) e
    ∙ sym (hosted read put after h (rest x) (at x))
carried read put after h (Err (Text f)) ts s rest at e = hosted read put after h ts s ∙ ap (λ p. p >>= λ y. read y.1 (after y.0)) e
carried read put after h (Err NoMemory) ts s rest at e = tt

-- and of one up to its end
pub carried_whole : {S Y X : Type 0} (read : List Token → S → Result Y TextFault) (put : Declaring → S) (after : Declaration → S)
    → HostsDeclarations read put after → (r : Result X ReadError) (ts : List Token) (s : Declaring) (view : X → Declaration × List Token)
    → Gives view r (parse_declaration ts s) → ParsesOn r (read ts (put s)) (λ x. read (view x).1 (after (view x).0))
carried_whole read put after h (Ok x) ts s view e = hosted read put after h ts s ∙ ap (λ p. p >>= λ y. read y.1 (after y.0)) e
carried_whole read put after h (Err (Text f)) ts s view e = hosted read put after h ts s ∙ ap (λ p. p >>= λ y. read y.1 (after y.0)) e
carried_whole read put after h (Err NoMemory) ts s view e = tt

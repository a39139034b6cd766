-- Reading a declaration by itself, token by token, after its first word.
use Rattle.std.specs.Prelude.{◌≡◌, ℕ, List, [], ◌∷◌, cond, Option, Some, None, Result, Ok, Err}
use Rattle.fs_model.specs.declared.parts.Role.{Role}
use Rattle.fs_model.specs.declared.parts.Sort.TheVariants as sorts
use Rattle.fs_model.specs.Source.{Declaration}
use Rattle.fs_grammar.specs.declared.fault.TextKind.TheVariants.{Operators}
use Rattle.fs_grammar.specs.declared.fault.TextFault.{TextFault}
use Rattle.fs_grammar.specs.declared.token.TokenKind.{TokenKind}
use Rattle.fs_grammar.specs.declared.token.TokenKind.TheVariants.{Array, Name, Comma, Semicolon}
use Rattle.fs_grammar.specs.declared.token.Token.{Token}
use Rattle.fs_grammar.specs.Tokens.{refusal, fault_at}
use Rattle.fs_grammar.specs.Grammar.{with_names}

-- a place inside a declaration
pub data Declaring : Type 0 where
  at_sort : ℕ → Role → Declaring
  at_name : Declaration → Declaring
  after_name : Declaration → Declaring

-- what a token leads to: a place inside, or the end of the declaration
pub data Lead : Type 0 where
  inside : Declaring → Lead
  whole : Declaration → Lead

-- what a token leads to, or none where it cannot follow
abbrev pub declaration_step : Declaring → TokenKind → Option Lead
declaration_step (at_sort n role) Array =
    Some (inside (at_name (record { line = n; role = role; sort = sorts.Array; names = [] })))
declaration_step (at_sort n role) (Name x) =
    Some (inside (after_name (record { line = n; role = role; sort = sorts.Scalar; names = x ∷ [] })))
declaration_step (at_sort n role) _ = None
declaration_step (at_name d) (Name x) = Some (inside (after_name (with_names d (x ∷ []))))
declaration_step (at_name d) _ = None
declaration_step (after_name d) Comma = Some (inside (at_name d))
declaration_step (after_name d) Semicolon = Some (whole d)
declaration_step (after_name d) _ = None

-- a token that can follow is taken where it is not past the limit
abbrev pub take_declaration_token : {Y : Type 0} → Token → Option Lead → (Declaring → Result Y TextFault)
    → (Declaration → Result Y TextFault) → Result Y TextFault
take_declaration_token t (Some (inside s)) go after = cond t.past_limit (Err (fault_at t Operators)) (go s)
take_declaration_token t (Some (whole d)) go after = cond t.past_limit (Err (fault_at t Operators)) (after d)
take_declaration_token t None go after = Err (refusal (t ∷ []))

-- from a place inside on, the declaration and the tokens after it, or the first fault
abbrev pub parse_declaration : List Token → Declaring → Result (Declaration × List Token) TextFault
parse_declaration [] s = Err (refusal [])
parse_declaration (t ∷ ts) s = take_declaration_token t (declaration_step s t.kind) (parse_declaration ts) (λ d. Ok (d, ts))

-- A language reads tokens from its places on. It hosts declarations where each place inside one is a place of its own,
-- at which it goes on with the tokens that can follow there, up to the semicolon, and then with what it says after it.
pub record HostsDeclarations {S Y : Type 0} (read : List Token → S → Result Y TextFault) (put : Declaring → S)
    (after : Declaration → S) : Type 0 where
  pub ends : (s : Declaring) → read [] (put s) ≡ Err (refusal [])
  pub goes_on : (t : Token) (ts : List Token) (s : Declaring)
      → read (t ∷ ts) (put s) ≡ take_declaration_token t (declaration_step s t.kind) (λ u. read ts (put u))
      (λ d. read ts (after d))

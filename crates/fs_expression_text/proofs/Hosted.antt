-- A sum or a guard reads in a language as it does by itself.
use Rattle.std.proofs.Common.{◌≡◌, List, [], ◌∷◌, Option, Some, None, Result, Ok, Err, refl, sym, ap, ◌∙◌}
use Rattle.fs_grammar.specs.declared.fault.TextFault.{TextFault}
use Rattle.fs_grammar.specs.declared.fault.ReadError.{ReadError}
use Rattle.fs_grammar.specs.declared.fault.ReadError.TheVariants.{Text, NoMemory}
use Rattle.fs_grammar.specs.declared.fault.TextKind.TheVariants.{Operators}
use Rattle.fs_grammar.specs.declared.token.Token.{Token}
use Rattle.fs_grammar.specs.Tokens.{◌>>=◌, ParsesOn, fault_at}
use Rattle.fs_grammar.proofs.Refusals.{taken_by}
use Rattle.fs_expression_text.specs.Inside.{Inside, Whole, expression_step, whole_at, take_expression_token, parse_expression}
use Rattle.fs_expression_text.specs.Hosts.{HostsExpressions}

goes_by : {Y : Type 0} (t : Token) (ts : List Token) (o : Option Inside) (w : Option Whole) (go : Inside → Result Y TextFault)
    (F : Whole × List Token → Result Y TextFault) → ((j : Inside) → go j ≡ (parse_expression ts j >>= F))
    → take_expression_token t o go w (λ v. F (v, t ∷ ts)) ≡ (take_expression_token t o (parse_expression ts) w (λ v. Ok (v, t ∷ ts)) >>= F)
goes_by t ts (Some j) w go F h = taken_by t.past_limit (fault_at t Operators) (go j) (parse_expression ts j) F (h j)
goes_by t ts None (Some w) go F h = refl
goes_by t ts None None go F h = refl

-- the language goes on after a sum or a guard that was read by itself
pub hosted : {S Y : Type 0} (read : List Token → S → Result Y TextFault) (put : Inside → S) (after : Whole → S) → HostsExpressions read put after
    → (ts : List Token) (i : Inside) → read ts (put i) ≡ (parse_expression ts i >>= λ x. read x.1 (after x.0))
hosted read put after h [] i = h.ends i
hosted read put after h (t ∷ ts) i = h.goes_on t ts i ∙ goes_by t ts (expression_step i t.kind) (whole_at i) (λ j. read ts (put j)) (λ x. read x.1 (after x.0))
    (λ j. hosted read put after h ts j)

-- what a call says of a sum or a guard by itself, it says of one in the language
pub carried : {S Y X : Type 0} (read : List Token → S → Result Y TextFault) (put : Inside → S) (after : Whole → S) → HostsExpressions read put after
    → (r : Result X ReadError) (ts : List Token) (i : Inside) (rest : X → List Token) (at : X → Inside)
    → ParsesOn r (parse_expression ts i) (λ x. parse_expression (rest x) (at x)) → ParsesOn r (read ts (put i)) (λ x. read (rest x) (put (at x)))
carried read put after h (Ok x) ts i rest at e = hosted read put after h ts i ∙ ap (λ p. p >>= λ y. read y.1 (after y.0)) e
    ∙ sym (hosted read put after h (rest x) (at x))
carried read put after h (Err (Text f)) ts i rest at e = hosted read put after h ts i ∙ ap (λ p. p >>= λ y. read y.1 (after y.0)) e
carried read put after h (Err NoMemory) ts i rest at e = tt

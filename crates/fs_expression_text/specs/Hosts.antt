-- Languages whose texts have sums and guards in them.
use Rattle.std.specs.Prelude.{◌≡◌, List, [], ◌∷◌, Result, Err}
use Rattle.fs_grammar.specs.declared.fault.TextFault.{TextFault}
use Rattle.fs_grammar.specs.declared.token.Token.{Token}
use Rattle.fs_grammar.specs.Tokens.{refusal}
use Rattle.fs_expression_text.specs.Inside.{Inside, Whole, expression_step, whole_at, take_expression_token}

-- A language reads tokens from its places on. It hosts sums and guards where each place inside one is a
-- place of its own, at which it goes on with the tokens that can follow there, and else with what it says
-- after the whole.
pub record HostsExpressions {S Y : Type 0} (read : List Token → S → Result Y TextFault) (put : Inside → S)
    (after : Whole → S) : Type 0 where
  pub ends : (i : Inside) → read [] (put i) ≡ Err (refusal [])
  pub goes_on : (t : Token) (ts : List Token) (i : Inside)
      → read (t ∷ ts) (put i) ≡ take_expression_token t (expression_step i t.kind) (λ j. read ts (put j)) (whole_at i)
      (λ w. read (t ∷ ts) (after w))

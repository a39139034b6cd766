-- What is read of counted tokens is well formed.
use Rattle.std.proofs.Common.{◌≡◌, ℕ, ◌+◌, ◌≤◌, List, [], ◌∷◌, refl, sym, subst, ◌∙◌, arith}
use Rattle.std.specs.Prelude.{Bool, true, false, ◌&&◌, cond, nat_le, Option, Some, None, Result, Ok, Err, IfSome, IsTrue}
use Rattle.fs_model.specs.Source.{Source}
use Rattle.fs_model.specs.WellFormed.{is_well_formed}
use Rattle.fs_grammar.specs.declared.fault.TextFault.{TextFault}
use Rattle.fs_grammar.specs.declared.fault.TextKind.TheVariants.{Operators}
use Rattle.fs_grammar.specs.declared.token.TokenKind.{TokenKind}
use Rattle.fs_grammar.specs.declared.token.TokenKind.TheVariants.{End}
use Rattle.fs_grammar.specs.declared.token.Token.{Token}
use Rattle.fs_grammar.specs.Tokens.{refusal, fault_at}
use Rattle.fs_grammar.specs.Grammar.{ParseState, at_start, step, finish_source, stop_source, take_token, reading}
use Rattle.fs_grammar.specs.Operators.{is_operator, starts_expression}
use Rattle.fs_lex.specs.Scan.{operators_up_to_token, tokens_of}
use Rattle.fs_lex.proofs.Operators.{operators_owed, step_costs}
use Rattle.fs_lex.proofs.Fit.{IsFit, step_keeps, finish_fits}
use Rattle.fs_lex.proofs.Counted.{AreCounted, tokens_counted}

abbrev IsSo : Source → Type 0
IsSo f = IsTrue (is_well_formed f)

pub counts_few : (a b : Bool) (n : ℕ) → (b && nat_le 128 n) ≡ false → n ≤ 128 → cond a 0 (cond b (n + 1) n) ≤ 128
counts_few true b n e h = omega arith
counts_few false true n e h = grind (arith, e)
counts_few false false n e h = h

stop_fits : (t : TokenKind) (e : TextFault) (o : Option Source) (f : Source) → IfSome o IsSo → stop_source t e o ≡ Ok f → IsSo f
stop_fits End e (Some s) f h q =
    let same : s ≡ f = cc in
    subst IsSo same h
stop_fits _ e o f h q = absurd cc

-- what was read before a token that is not over
taken_fits : (b : Bool) (e : TextFault) (r : Result Source TextFault) (f : Source) → (b ≡ false → r ≡ Ok f → IsSo f) → cond b (Err e) r ≡ Ok f → IsSo f
taken_fits true e r f h q = absurd cc
taken_fits false e r f h q = h refl q

next_fits : (t : Token) (o : Option ParseState) (go : ParseState → Result Source TextFault) (end : Option Source) (f : Source)
    → (t.past_limit ≡ false → IfSome o (λ s. go s ≡ Ok f → IsSo f)) → IfSome end IsSo
    → take_token t o go end ≡ Ok f → IsSo f
next_fits t (Some s) go end f h j q = taken_fits t.past_limit (fault_at t Operators) (go s) f h q
next_fits t None go end f h j q = stop_fits t.kind (refusal (t ∷ [])) end f j q

-- both of an option
with_both : (o : Option ParseState) (P Q R : ParseState → Type 0) → ((s : ParseState) → P s → Q s → R s) → IfSome o P → IfSome o Q → IfSome o R
with_both (Some s) P Q R h p q = h s p q
with_both None P Q R h p q = tt

pub reads_fit : (ts : List Token) (s : ParseState) (n : ℕ) (f : Source) → AreCounted n ts → IsFit s → operators_owed s ≤ n → n ≤ 128
    → reading ts s ≡ Ok f → IsSo f
reads_fit [] s n f c h b m q = absurd cc
reads_fit (t ∷ ts) s n f c h b m q =
    next_fits t (step s t.place.line t.kind) (reading ts) (finish_source s) f
    (λ e. with_both (step s t.place.line t.kind) IsFit (λ u. operators_owed u ≤ operators_up_to_token t.kind n) (λ u. reading ts u ≡ Ok f → IsSo f)
    (λ u k j. reads_fit ts u (operators_up_to_token t.kind n) f c.2 k j (counts_few (starts_expression t.kind) (is_operator t.kind) n (sym c.1 ∙ e) m))
    (step_keeps s t.place.line t.kind c.0 h (omega arith)) (step_costs s t.place.line t.kind n b))
    (finish_fits s h) q

pub read_is_well_formed : (bytes : List ℕ) (s : Source) → reading (tokens_of bytes) at_start ≡ Ok s → IsTrue (is_well_formed s)
read_is_well_formed bytes s q = reads_fit (tokens_of bytes) at_start 0 s (tokens_counted bytes) tt (omega arith) (omega arith) q

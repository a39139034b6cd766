-- Refusals that are passed on, and what goes on behind a part of a text.
use Rattle.std.proofs.Common.{◌≡◌, Result, Ok, Err, sym, ap, subst}
use Rattle.std.specs.Result.{IsErrAnd}
use Rattle.fs_grammar.specs.declared.fault.TextFault.{TextFault}
use Rattle.fs_grammar.specs.declared.fault.ReadError.{ReadError}
use Rattle.fs_grammar.specs.declared.fault.ReadError.TheVariants.{Text, NoMemory}
use Rattle.fs_grammar.specs.Tokens.{Fails, ParsesOn, ◌>>=◌}

-- what is refused behind the same tokens
pub refused : {X Z : Type 0} (r : Result X ReadError) (e : ReadError) {w v : Result Z TextFault} (go : X → Result Z TextFault)
    → IsErrAnd r (λ d. d ≡ e) → w ≡ v → Fails e v → ParsesOn r w go
refused (Ok x) e go h s g = absurd h
refused {X} {Z} (Err d) e {w} {v} go h s g = subst (λ q. Fails d q) (sym s) (subst (λ k. Fails k v) (sym h) g)

fails : {Z U : Type 0} (e : ReadError) (x : Result U TextFault) (F : U → Result Z TextFault) → Fails e x → Fails e (x >>= F)
fails (Text f) x F h = ap (λ q. q >>= F) h
fails NoMemory x F h = tt

-- a first token that is refused
pub stopped : {X Z U : Type 0} (r : Result X ReadError) (e : ReadError) {w : Result Z TextFault} (x : Result U TextFault) (F : U → Result Z TextFault)
    (go : X → Result Z TextFault) → IsErrAnd r (λ d. d ≡ e) → w ≡ (x >>= F) → Fails e x → ParsesOn r w go
stopped r e x F go h s g = refused r e go h s (fails e x F g)

-- what goes on behind a part
pub goes_after : {X Z : Type 0} (r : Result X ReadError) {w v : Result Z TextFault} (go : X → Result Z TextFault) → w ≡ v → ParsesOn r v go → ParsesOn r w go
goes_after r go s g = subst (λ q. ParsesOn r q go) (sym s) g

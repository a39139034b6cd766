-- A stop of a part is one of the whole.
use Rattle.std.proofs.Common.{◌≡◌, Ok, Err, Result, ap, sym, subst}
use Rattle.std.specs.Result.{IsErrAnd}
use Rattle.nf_terms.specs.Computed.{Computed, Answers, after}
use Rattle.nf_terms.specs.declared.stop.NfStop.{NfStop}
use Rattle.nf_terms.specs.declared.stop.NfStop.TheVariants as stop

pub stopped : {S T : Type 0} (r : Result T NfStop) (s : NfStop) (c : Computed S) (next : S → Computed T) → IsErrAnd r (λ e. e ≡ s) → Answers {T = S} (Err s) c
    → Answers r (after c next)
stopped (Ok x) s c next e h = absurd e
stopped {S} {T} (Err t) s c next e h = subst (λ z. Answers {T = T} (Err z) (after c next)) (sym e) (by_stop s h)
  where
    by_stop : (s : NfStop) → Answers {T = S} (Err s) c → Answers {T = T} (Err s) (after c next)
    by_stop (stop.Wide left right) g = ap (λ z. after z next) g
    by_stop (stop.Large units depth) g = ap (λ z. after z next) g
    by_stop stop.NoMemory g = tt

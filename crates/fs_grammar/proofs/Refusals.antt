-- A reading that stops past a limit goes on as before it.
use Rattle.std.proofs.Common.{◌≡◌, Bool, true, false, cond, Result, Err, refl}
use Rattle.fs_grammar.specs.declared.fault.TextFault.{TextFault}
use Rattle.fs_grammar.specs.Tokens.{◌>>=◌}

pub taken_by : {A Y : Type 0} (past_limit : Bool) (f : TextFault) (a : Result Y TextFault) (p : Result A TextFault) (F : A → Result Y TextFault) → a ≡ (p >>= F)
    → cond past_limit (Err f) a ≡ (cond past_limit (Err f) p >>= F)
taken_by true f a p F e = refl
taken_by false f a p F e = e

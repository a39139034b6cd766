-- What a verdict of the code says.
use Rattle.std.proofs.Common.{◌≡◌, refl}
use Rattle.std.specs.Prelude.{Result, Ok, Err, IfOk}
use Rattle.cert_model.specs.Obligations as verdicts
use Rattle.cert_check.specs.View.{verdict_in}
use Rattle.cert_check.specs.declared.verdict.Verdict.{Verdict}
use Rattle.cert_check.specs.declared.verdict.Verdict.TheVariants as code

pub yes_is : (v : Verdict) → verdict_in v ≡ verdicts.Yes → v ≡ code.Yes
yes_is code.Yes e = refl
yes_is (code.No k r) e = absurd (cc e)
yes_is (code.Wide k) e = absurd (cc e)
yes_is (code.Large k) e = absurd (cc e)

-- what is said of a result, said otherwise
pub if_ok : {T E : Type 0} (P Q : T → Type 0) (r : Result T E) → ((x : T) → P x → Q x) → IfOk r P → IfOk r Q
if_ok P Q (Ok x) f h = f x h
if_ok P Q (Err e) f h = tt

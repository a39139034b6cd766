use Rattle.std.proofs.Common.{IfOk, subst}
use Rattle.std.specs.Prelude.{IfErr}
use Rattle.cert_values.specs.View.{view}
use Rattle.cert_json.specs.Refusals.{IsShortFileOf, IsRefusedAsShape}
use Rattle.cert_text.proofs.ShortFiles.{spelled, refused, refused_as_file}
use Rattle.cert_text.proofs.reader.cert_of.Goals as goal

pub returns-in-Err-clause-refused : goal.returns-in-Err-clause-refused
returns-in-Err-clause-refused c bytes short other =
    rw c.error_of_file.ensures
    (refused_as_file c.args.a.now c.args.b.now bytes c.in-Err.refused (subst (λ f. IfErr f (IsRefusedAsShape bytes)) c.in-Err.is other))

pub returns-in-Ok-read_value-clause-spelled : goal.returns-in-Ok-read_value-clause-spelled
returns-in-Ok-read_value-clause-spelled c bytes short =
    let here : IsShortFileOf bytes (view c.in-Ok.value) = subst (λ f. IfOk f (λ v. IsShortFileOf bytes (view v))) c.in-Ok.is short in
    spelled c.args.a.now c.args.b.now bytes (view c.in-Ok.value) c.args.p.now c.in-Ok-read_value.cert c.holds.ensures c.requires.pairing here
    c.in-Ok-read_value.ensures.told

pub returns-clause-refused : goal.returns-clause-refused
returns-clause-refused c bytes short other =
    let here : IsShortFileOf bytes (view c.in-Ok.value) = subst (λ f. IfOk f (λ v. IsShortFileOf bytes (view v))) c.in-Ok.is short in
    rw c.error_of.ensures
    (refused c.args.a.now c.args.b.now bytes (view c.in-Ok.value) c.args.p.now c.in-Err-read_value.stop c.holds.ensures c.requires.pairing here
    c.in-Err-read_value.ensures.told)

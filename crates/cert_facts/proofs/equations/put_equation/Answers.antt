use Rattle.std.proofs.Common.{rules, ◌≡◌, Err}
use Rattle.cert_facts.specs.View.{terms_in}
use Rattle.cert_facts.proofs.Facts.{put_in}
use Rattle.cert_facts.proofs.NodeParts.{place_stops, form_stops, form_put}
use Rattle.cert_facts.proofs.equations.put_equation.Goals as goal

pub returns-in_err-place-clause-told : goal.returns-in_err-place-clause-told
returns-in_err-place-clause-told c =
    let e = c.in_err-place.field-0.0 in
    let o : c.from_residual.result ≡ Err e = search rules in
    rw o (place_stops (terms_in c.args.places.now) c.args.node c.args.forms.now.items c.args.key.now c.args.text.now e c.in_err-place.ensures.told)

pub returns-in_err-form-clause-told : goal.returns-in_err-form-clause-told
returns-in_err-form-clause-told c =
    let e = c.in_err-form.field-0.0 in
    let o : c.from_residual-in_err-form.result ≡ Err e = search rules in
    rw o
    (form_stops (terms_in c.args.places.now) c.args.node c.args.forms.now.items c.args.key.now c.args.text.now c.in_ok-place.place e
    c.in_ok-place.ensures.told c.in_err-form.ensures.told)

pub returns-clause-told : goal.returns-clause-told
returns-clause-told c = form_put (terms_in c.args.places.now) c.args.node c.args.forms.now.items c.args.key.now c.args.text.now c.in_ok-place.place
    c.in_ok-form.form c.in_ok-place.ensures.told c.in_ok-form.ensures.told

pub returns-clause-kept : goal.returns-clause-kept
returns-clause-kept c = put_in c.args.places.now c.args.forms.now.items c.in_ok-place.place c.in_ok-form.form c.requires.forms c.in_ok-form.ensures.sort
    c.in_ok-form.ensures.within

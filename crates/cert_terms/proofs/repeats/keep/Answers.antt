use Rattle.std.proofs.Common.{rules, ◌≡◌}
use Rattle.std.specs.Prelude.{string_bytes}
use Rattle.cert_terms.proofs.Repeated.{read_now}
use Rattle.cert_terms.proofs.repeats.keep.Goals as goal

pub returns : goal.returns
returns c =
    let text : string_bytes c.in_ok-text.text ≡ c.args.text.now = search rules in
    let copied : c.in_ok-try_clone.field-0 ≡ c.args.form.now = search rules in
    read_now c.args.places.now c.args.last.now.items c.args.place c.args.text.now c.args.form.now
    (record { text = c.in_ok-text.text; form = c.in_ok-try_clone.field-0 }) c.requires.last c.requires.read text copied

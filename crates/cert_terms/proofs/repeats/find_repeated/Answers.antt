use Rattle.std.proofs.Common.{rules, ◌≡◌, true, Some, refl}
use Rattle.std.specs.Prelude.{string_bytes}
use Rattle.std.specs.Str.{bytes_eq}
use Rattle.cert_terms.specs.Repeats.{last_at}
use Rattle.cert_terms.proofs.Repeated.{read_again}
use Rattle.cert_terms.proofs.repeats.find_repeated.Goals as goal

pub returns-then-eq : goal.returns-then-eq
returns-then-eq c =
    let read = c.in_ok-read.read.now in
    let there : last_at c.args.last.now c.args.place ≡ Some read = search rules in
    let same : bytes_eq (string_bytes read.text) c.args.text.now ≡ true = search rules in
    read_again c.args.places.now c.args.last.now c.args.place read c.args.text.now read.form c.requires there same refl

use Rattle.std.proofs.Common.{sym, ap, ◌∙◌}
use Rattle.serde_json.specs.Read.{read}
use Rattle.cert_values.specs.View.{view}
use Rattle.cert_json.proofs.Files.{other_shape, too_many, short_file}
use Rattle.cert_json.proofs.reader.read_file.Goals as goal

pub returns-then-not-is_file-clause-refused : goal.returns-then-not-is_file-clause-refused
returns-then-not-is_file-clause-refused c =
    let text = c.in-Ok.ensures.cases in
    let made = c.in-Ok-read_again.ensures.ok in
    other_shape c.args.bytes.now made.0 (view c.in-Ok-read_again.found) text.1 (ap read (sym text.0) ∙ made.1) made.2 (sym c.if-not-is_file.ensures)

pub returns-then-has_too_many-clause-refused : goal.returns-then-has_too_many-clause-refused
returns-then-has_too_many-clause-refused c =
    let text = c.in-Ok.ensures.cases in
    let made = c.in-Ok-read_again.ensures.ok in
    too_many c.args.bytes.now made.0 (view c.in-Ok-read_again.found) text.1 (ap read (sym text.0) ∙ made.1) made.2 (sym c.if-not-is_file.ensures)
    (sym c.if-has_too_many.ensures)

pub returns-clause-read : goal.returns-clause-read
returns-clause-read c =
    let text = c.in-Ok.ensures.cases in
    let made = c.in-Ok-read_again.ensures.ok in
    short_file c.args.bytes.now made.0 (view c.in-Ok-read_again.found) text.1 (ap read (sym text.0) ∙ made.1) made.2 (sym c.if-not-is_file.ensures)
    (sym c.if-has_too_many.ensures)

use Rattle.cert_writer.proofs.Plain.{form_utf8}
use Rattle.cert_writer.proofs.equations.form_text.Goals as goal

pub text_of-requires : goal.text_of-requires
text_of-requires c = form_utf8 c.args.names.now.a.now c.args.names.now.b.now c.hold.ensures.left c.hold.ensures.right c.args.form.now c.in_ok-bytes.bytes.items
    c.in_ok-bytes.ensures.written

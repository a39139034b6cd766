use Rattle.nf_rel.specs.View.{literal_in}
use Rattle.cert_writer.proofs.Plain.{literal_utf8}
use Rattle.cert_writer.proofs.conditions.literal_text.Goals as goal

pub text_of-requires : goal.text_of-requires
text_of-requires c = literal_utf8 c.args.names.now.a.now c.args.names.now.b.now c.hold.ensures.left c.hold.ensures.right
    (literal_in c.args.literal.now) c.new-out.result.items c.write_literal.new.out.items c.new-out.ensures.items c.in_ok-write_literal.ensures

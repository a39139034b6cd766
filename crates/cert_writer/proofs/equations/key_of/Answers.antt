use Rattle.cert_writer.proofs.Plain.{symbol_utf8}
use Rattle.cert_writer.proofs.equations.key_of.Goals as goal

pub text_of-requires : goal.text_of-requires
text_of-requires c = symbol_utf8 c.args.names.now.a.now c.args.names.now.b.now c.hold.ensures.left c.hold.ensures.right c.args.pos c.new-out.result.items
    c.write_symbol.new.out.items c.new-out.ensures.items c.in_ok-write_symbol.ensures

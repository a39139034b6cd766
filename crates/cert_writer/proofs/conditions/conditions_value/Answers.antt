use Rattle.serde_json.specs.Data.{string}
use Rattle.nf_rel.specs.View.{literal_in}
use Rattle.cert_writer.specs.WrittenCertificates.{literal_bytes}
use Rattle.cert_writer.specs.View.{names_in}
use Rattle.cert_writer.proofs.Kept.{next_kept}
use Rattle.cert_writer.proofs.Values.{append_value_keeps_whole, texts_are}
use Rattle.cert_writer.proofs.conditions.conditions_value.Goals as goal

pub value_of-requires : goal.value_of-requires
value_of-requires c =
    (next_kept c.args.literals.now c.loop-literal.literal-index c.literal-item.result c.loop-literal-test.true c.literal-item.is
    c.loop-literal.invariant.kept).0

pub loop-literal-preserved : goal.loop-literal-preserved
loop-literal-preserved c = record {
  kept =
      (next_kept c.args.literals.now c.loop-literal.literal-index c.literal-item.result c.loop-literal-test.true c.literal-item.is
      c.loop-literal.invariant.kept).1;
  written = append_value_keeps_whole (λ m. string (literal_bytes (names_in c.args.names.now) (literal_in m))) c.loop-literal.out.items c.push.new.self.items
      c.in_ok-value_of.field-0 c.args.literals.now c.loop-literal.literal-index c.literal-item.result c.loop-literal-test.true c.literal-item.is
      c.in_ok-value_of.ensures c.in_ok-push.ensures.items c.loop-literal.invariant.written;
}

pub returns : goal.returns
returns c = texts_are (literal_bytes (names_in c.args.names.now)) literal_in c.loop-literal.out c.args.literals.now c.loop-literal.literal-index
    c.loop-literal-test.false c.loop-literal.invariant.written

use Rattle.std.proofs.Common.{rules}
use Rattle.nf_vectors.proofs.Copying.{insert_moves_entry}
use Rattle.nf_vectors.proofs.copies.insert_copies.Goals as goal

pub loop-place-preserved : goal.loop-place-preserved
loop-place-preserved c = record {
  rest = insert_moves_entry c.loop-place.copy.entries c.next.new.self c.args.forms.now.entries c.insert_copy.new.copy.entries c.in-Some.place.now
      c.in-Some.form.now
      c.iter-place-items.ensures.unique (search rules) c.in_ok-insert_copy.ensures;
}

use Rattle.std.proofs.Common.{[]}
use Rattle.cert_terms.proofs.NameTables.{first_more}
use Rattle.cert_terms.proofs.table.table_of.Goals as goal

pub loop-number-preserved : goal.loop-number-preserved
loop-number-preserved c = first_more (λ n. n.now) c.loop-number.table c.put_first.new.table c.args.names.now c.loop-number.number
    (record { ref_ptr = (0, 0); now = [] }) c.loop-number-test.true c.loop-number.invariant (λ x xs. c.in_ok-put_first.ensures x xs)

use Rattle.term_values.proofs.Tallies.{next_tallied, tallied_shorter}
use Rattle.term_values.proofs.sums.next_tally.Goals as goal

pub returns-clause-tallied : goal.returns-clause-tallied
returns-clause-tallied g c = λ whole h. next_tallied (g.N.Names.find c.args.names.now) whole c.args.bytes.now c.args.tally c.next_term.result
    c.tally_with.result h c.next_term.ensures.goes c.tally_with.ensures

pub returns-clause-shorter : goal.returns-clause-shorter
returns-clause-shorter g c = tallied_shorter _ (g.N.Names.find c.args.names.now) c.args.tally c.next_term.result c.tally_with.result
    c.next_term.ensures.shorter c.tally_with.ensures

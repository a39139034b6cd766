use Rattle.term_values.proofs.Tallies.{first_tallied}
use Rattle.term_values.proofs.sums.first_tally.Goals as goal

pub returns : goal.returns
returns g c = first_tallied (g.N.Names.find c.args.names.now) c.args.bytes.now c.first_term.result c.tally_with.result c.first_term.ensures.goes
    c.tally_with.ensures

use Rattle.propagate_equations.proofs.BareForms.{one_write}
use Rattle.propagate_equations.proofs.bare_symbols.bare_array.Goals as goal

pub returns-in-len1-up : goal.returns-in-len1-up
returns-in-len1-up c = one_write c.args.array.now c.writes.result.now c.in-len1-up.len_at_least c.writes.ensures.same

use Rattle.std.specs.Vec.Iter.{into_iter_len}
use Rattle.sym_facts.proofs.Walks.{all_moved}
use Rattle.sym_facts.proofs.parts.shared_equations.Goals as goal

pub returns : goal.returns
returns c =
    all_moved c.loop-equation.out.items c.args.equations.items c.loop-equation.rest.rest.items (into_iter_len c.loop-equation.rest)
    c.loop-equation.invariant.rest c.loop-equation.invariant.many c.in_default.ensures.cases.0

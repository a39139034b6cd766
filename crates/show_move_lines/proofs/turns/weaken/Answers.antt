use Rattle.sym_paths.specs.View.{post_in}
use Rattle.sym_facts.specs.View.{missing_in}
use Rattle.show_move_lines.proofs.turns.weaken.Goals as goal

pub returns-clause-fact : goal.returns-clause-fact
returns-clause-fact c =
    c.joined_facts_are_of_the_positions.ensures c.args.p.now c.args.target.now.node.now.fact c.in_ok-fact.fact (post_in c.args.post)
    (missing_in c.in_ok-missing.missing) c.in_ok-fact.ensures c.requires

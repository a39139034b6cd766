use Rattle.sym_paths.specs.View.{post_in}
use Rattle.show_move_lines.proofs.turns.make.Goals as goal

pub returns-clause-fact : goal.returns-clause-fact
returns-clause-fact c =
    c.rebased_facts_are_of_the_positions.ensures (post_in c.args.post.now) c.args.p.now c.in_ok-fact.fact c.in_ok-fact.ensures

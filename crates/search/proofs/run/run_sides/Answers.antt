use Rattle.search_tables.specs.SearchTables.{machines}
use Rattle.search_worklist.specs.States.{table}
use Rattle.search_worklist.proofs.Legal.{ends_with, if_ok}
use Rattle.search.proofs.run.run_sides.Goals as goal

pub returns : goal.returns
returns c =
    if_ok c.end_search.result
    (λ e h. ends_with (machines c.args.a.now c.args.b.now) (table c.make_moves.new.state) c.make_moves.new.moves c.in_ok-obstacle.obstacle e
    c.in_ok-obstacle.ensures.makes c.in_ok-obstacle.ensures.ends h) c.end_search.ensures

use Rattle.std.proofs.Common.{refl, subst}
use Rattle.search_waiting.specs.ItemOrder.{waits}
use Rattle.search_places.specs.View.{node_record_in}
use Rattle.search_worklist.specs.States.{records}
use Rattle.search_worklist.specs.Turns.{IsObstacleAt}
use Rattle.search_worklist.specs.View.{machines_in}
use Rattle.search_worklist.proofs.Legal.{left_point, right_point}
use Rattle.search_worklist.proofs.Judged.{mode_stops}
use Rattle.search_worklist.proofs.turns.find_mode.Goals as goal

pub mode-requires-clause-left_point : goal.mode-requires-clause-left_point
mode-requires-clause-left_point c = left_point (machines_in c.args.m.now) (records c.args.state.now) c.requires.made c.args.node
    (node_record_in c.node_at-from.result) c.node_at-from.ensures

pub mode-requires-clause-right_point : goal.mode-requires-clause-right_point
mode-requires-clause-right_point c = right_point (machines_in c.args.m.now) (records c.args.state.now) c.requires.made c.args.node
    (node_record_in c.node_at-from.result) c.node_at-from.ensures

pub returns-in_ok-obstacle_at-in-Err : goal.returns-in_ok-obstacle_at-in-Err
returns-in_ok-obstacle_at-in-Err c =
    let e = subst (λ a. IsObstacleAt a c.in-Err.s.stop c.in_ok-obstacle_at-in-Err.field-0) c.path_at.ensures c.in_ok-obstacle_at-in-Err.ensures in
    record {
      ready = c.requires.ready;
      same = refl;
      finds = mode_stops (machines_in c.args.m.now) (records c.args.state.now) (waits c.args.state.now.waiting) c.args.node
          (node_record_in c.node_at-from.result) c.in-Err.s.stop c.in-Err.s.side c.in-Err.s.branch c.in_ok-obstacle_at-in-Err.field-0 c.requires.ready.waiting
          c.requires.least c.node_at-from.ensures c.requires.made.agrees c.in-Err.ensures e;
    }

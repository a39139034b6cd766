use Rattle.std.proofs.Common.{refl, subst, Ok, Err}
use Rattle.search_waiting.specs.ItemOrder.{waits}
use Rattle.search_worklist.specs.declared.trial.Trial.TheVariants.{Changes, Exceeds}
use Rattle.search_worklist.specs.States.{records}
use Rattle.search_worklist.specs.Trials.{TriesAt}
use Rattle.search_worklist.specs.View.{machines_in}
use Rattle.search_worklist.proofs.Finished.{lists_nothing, lists_arrival, none_settles, refuted_settles, entailed_settles, entailed_within, place_before}
use Rattle.search_worklist.proofs.Finished.{done_turned, move_within}
use Rattle.search_worklist.proofs.Judged.{is_first, change_next, excess_next, stop_next}
use Rattle.search_worklist.proofs.turns.try_item.Goals as goal

pub move_of-requires-clause-node : goal.move_of-requires-clause-node
move_of-requires-clause-node c = c.requires.ready.waiting.in_table c.args.item.node c.args.item.place c.requires.waits

pub returns-in-None-clause-turned : goal.returns-in-None-clause-turned
returns-in-None-clause-turned c =
    let p = place_before c.args.item.place c.requires.place in
    done_turned (machines_in c.args.m.now) c.args.state.now _ c.args.item p.0 c.requires.ready refl p.1 c.requires.waits
    (lists_nothing (records c.args.state.now) c.args.item) c.remove.ensures.dropped c.remove.ensures.fewer
    (none_settles (machines_in c.args.m.now) (records c.args.state.now) c.args.item p.0 p.1 c.in-None.ensures.none)

pub try_kept-requires-clause-node : goal.try_kept-requires-clause-node
try_kept-requires-clause-node c = move_within (machines_in c.args.m.now) c.args.state.now c.args.item c.in-Some.at c.requires.ready c.requires.least
    c.in-Some.ensures.some

pub see_move-requires-clause-node : goal.see_move-requires-clause-node
see_move-requires-clause-node c = move_within (machines_in c.args.m.now) c.args.state.now c.args.item c.in-Some.at c.requires.ready c.requires.least
    c.in-Some.ensures.some

pub list_arrival-requires : goal.list_arrival-requires
list_arrival-requires c =
    let m = machines_in c.args.m.now in
    let a = subst (λ t. TriesAt m (records c.args.state.now) c.in-Some.at (Ok t)) c.in-Ok-Entailed.field-0-is c.in-Ok-Entailed.ensures in
    entailed_within (machines_in c.args.m.now) c.args.state.now c.in-Some.at c.in-Ok-Entailed.target a

pub returns-in-Ok-Refuted-clause-turned : goal.returns-in-Ok-Refuted-clause-turned
returns-in-Ok-Refuted-clause-turned c =
    let m = machines_in c.args.m.now in
    let t = c.in-Some.ensures.some in
    let a = subst (λ r. TriesAt m (records c.args.state.now) c.in-Some.at (Ok r)) c.in-Ok-Refuted.field-0-is c.in-Ok-Refuted.ensures in
    done_turned m c.args.state.now _ c.args.item t.number c.requires.ready refl t.place c.requires.waits
    (lists_nothing (records c.args.state.now) c.args.item) c.remove-in-Ok-Refuted.ensures.dropped c.remove-in-Ok-Refuted.ensures.fewer
    (refuted_settles m (records c.args.state.now) c.args.item c.in-Some.at t t.number t.place a)

pub returns-in_ok-list_arrival-in-Ok-Entailed-clause-turned : goal.returns-in_ok-list_arrival-in-Ok-Entailed-clause-turned
returns-in_ok-list_arrival-in-Ok-Entailed-clause-turned c =
    let m = machines_in c.args.m.now in
    let t = c.in-Some.ensures.some in
    let k = c.in-Ok-Entailed.target in
    let a = subst (λ r. TriesAt m (records c.args.state.now) c.in-Some.at (Ok r)) c.in-Ok-Entailed.field-0-is c.in-Ok-Entailed.ensures in
    done_turned m c.args.state.now _ c.args.item t.number c.requires.ready refl t.place c.requires.waits
    (lists_arrival (records c.args.state.now) _ k c.args.item c.in_ok-list_arrival-in-Ok-Entailed.ensures) c.remove-in-Ok-Entailed.ensures.dropped
    c.remove-in-Ok-Entailed.ensures.fewer
    (entailed_settles m (records c.args.state.now) _ c.args.item c.in-Some.at t t.number k t.place a c.in_ok-list_arrival-in-Ok-Entailed.ensures)

pub returns-in-Ok-Changes-clause-turned : goal.returns-in-Ok-Changes-clause-turned
returns-in-Ok-Changes-clause-turned c =
    let m = machines_in c.args.m.now in
    let ls = records c.args.state.now in
    let a = subst (λ r. TriesAt m ls c.in-Some.at (Ok r)) c.in-Ok-Changes.field-0-is c.in-Ok-Changes.ensures in
    let f = is_first m ls (waits c.args.state.now.waiting) c.args.item c.in-Some.at
    (Ok (Changes c.in-Ok-Changes.change)) c.requires.ready.waiting c.requires.least c.in-Some.ensures.some a in
    record { ready = c.requires.ready; same = refl; finds = change_next m ls c.in-Some.at c.in-Ok-Changes.change f }

pub returns-in-Ok-Exceeds-clause-turned : goal.returns-in-Ok-Exceeds-clause-turned
returns-in-Ok-Exceeds-clause-turned c =
    let m = machines_in c.args.m.now in
    let ls = records c.args.state.now in
    let a = subst (λ r. TriesAt m ls c.in-Some.at (Ok r)) c.in-Ok-Exceeds.field-0-is c.in-Ok-Exceeds.ensures in
    let f = is_first m ls (waits c.args.state.now.waiting) c.args.item c.in-Some.at
    (Ok (Exceeds c.in-Ok-Exceeds.what)) c.requires.ready.waiting c.requires.least c.in-Some.ensures.some a in
    record { ready = c.requires.ready; same = refl; finds = excess_next m ls c.in-Some.at c.in-Ok-Exceeds.what c.requires.made.agrees f }

pub returns-in_ok-obstacle_at-in-Err-clause-turned : goal.returns-in_ok-obstacle_at-in-Err-clause-turned
returns-in_ok-obstacle_at-in-Err-clause-turned c =
    let m = machines_in c.args.m.now in
    let ls = records c.args.state.now in
    let f = is_first m ls (waits c.args.state.now.waiting) c.args.item c.in-Some.at
    (Err c.in-Err.stop) c.requires.ready.waiting c.requires.least c.in-Some.ensures.some c.in-Err.ensures in
    record {
      ready = c.requires.ready;
      same = refl;
      finds = stop_next m ls c.in-Some.at c.in-Err.stop c.in_ok-obstacle_at-in-Err.field-0 c.requires.made.agrees f c.in_ok-obstacle_at-in-Err.ensures;
    }

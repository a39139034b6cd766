use Rattle.std.proofs.Common.{get_or, rules}
use Rattle.std.proofs.lemmas.Int.{to_z-of_z}
use Rattle.std.proofs.lemmas.Result.{on_ok_weaker, on_err_weaker}
use mir.Val.{SFits}
use mir.Syntax.{w128}
use Rattle.fs_stores.proofs.Slots.{is_there, within_number, within_array, within_list, number_there}
use Rattle.fs_stores.proofs.Slots.{set_stands, put_stands, append_stands, same_stands, sorts_stand, sorts_stand_number}
use Rattle.fs_stores.proofs.changes.change_one.Goals as goal

pub returns-in-Set-clause-changed : goal.returns-in-Set-clause-changed
returns-in-Set-clause-changed c =
    let vs = c.args.values.now in
    let number = rw c.in-Set.is at c.requires in
    let there = is_there vs c.in-Set.x c.index-values-x.result (within_number vs c.in-Set.x number) in
    let f : SFits w128 c.in-Set.v = search rules in
    rw c.in-Set.is
    (simp to_z-of_z
    (set_stands vs c.in-Set.x (get_or vs c.in-Set.x c.index-values-x.result) c.in-Set.v there
    (number_there vs c.in-Set.x (get_or vs c.in-Set.x c.index-values-x.result) there number)))

pub returns-in-Set-clause-sorts : goal.returns-in-Set-clause-sorts
returns-in-Set-clause-sorts c =
    let vs = c.args.values.now in
    let number = rw c.in-Set.is at c.requires in
    let there = is_there vs c.in-Set.x c.index-values-x.result (within_number vs c.in-Set.x number) in
    sorts_stand_number vs c.in-Set.x c.index-values-x.result _ (number_there vs c.in-Set.x (get_or vs c.in-Set.x c.index-values-x.result) there number)

pub returns-in-Put-clause-changed : goal.returns-in-Put-clause-changed
returns-in-Put-clause-changed c =
    let vs = c.args.values.now in
    let there = is_there vs c.in-Put.x c.index-values-x-in-Put.result (within_array vs c.in-Put.x (rw c.in-Put.is at c.requires)) in
    let f : SFits w128 c.in-Put.i = search rules in
    let g : SFits w128 c.in-Put.v = search rules in
    rw c.in-Put.is
    (on_ok_weaker c.set_in.result
    (put_stands vs c.in-Put.x (get_or vs c.in-Put.x c.index-values-x-in-Put.result) c.set_in.new.value c.in-Put.i c.in-Put.v there)
    (simp to_z-of_z at c.set_in.ensures.put))

pub returns-in-Put-clause-unchanged : goal.returns-in-Put-clause-unchanged
returns-in-Put-clause-unchanged c =
    let vs = c.args.values.now in
    let there = is_there vs c.in-Put.x c.index-values-x-in-Put.result (within_array vs c.in-Put.x (rw c.in-Put.is at c.requires)) in
    on_err_weaker c.set_in.result (same_stands vs c.in-Put.x (get_or vs c.in-Put.x c.index-values-x-in-Put.result) c.set_in.new.value there)
    c.set_in.ensures.same

pub returns-in-Put-clause-sorts : goal.returns-in-Put-clause-sorts
returns-in-Put-clause-sorts c = sorts_stand c.args.values.now c.in-Put.x c.index-values-x-in-Put.result c.set_in.new.value c.set_in.ensures.sort

pub returns-in-Append-clause-changed : goal.returns-in-Append-clause-changed
returns-in-Append-clause-changed c =
    let vs = c.args.values.now in
    let there = is_there vs c.in-Append.x c.index-values-x-in-Append.result (within_list vs c.in-Append.x (rw c.in-Append.is at c.requires)) in
    let f : SFits w128 c.in-Append.v = search rules in
    rw c.in-Append.is
    (on_ok_weaker c.push_in.result
    (append_stands vs c.in-Append.x (get_or vs c.in-Append.x c.index-values-x-in-Append.result) c.push_in.new.value c.in-Append.v there)
    (simp to_z-of_z at c.push_in.ensures.pushed))

pub returns-in-Append-clause-unchanged : goal.returns-in-Append-clause-unchanged
returns-in-Append-clause-unchanged c =
    let vs = c.args.values.now in
    let there = is_there vs c.in-Append.x c.index-values-x-in-Append.result (within_list vs c.in-Append.x (rw c.in-Append.is at c.requires)) in
    on_err_weaker c.push_in.result (same_stands vs c.in-Append.x (get_or vs c.in-Append.x c.index-values-x-in-Append.result) c.push_in.new.value there)
    c.push_in.ensures.same

pub returns-in-Append-clause-sorts : goal.returns-in-Append-clause-sorts
returns-in-Append-clause-sorts c = sorts_stand c.args.values.now c.in-Append.x c.index-values-x-in-Append.result c.push_in.new.value c.push_in.ensures.sort

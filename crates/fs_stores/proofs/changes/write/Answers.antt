use Rattle.std.proofs.Common.{get_or, suc, rules}
use Rattle.std.proofs.lemmas.Int.{to_z-of_z}
use Rattle.fs_stores.specs.declared.values.Value.TheVariants.{Num}
use mir.Val.{SFits}
use mir.Syntax.{w128}
use Rattle.fs_stores.proofs.Slots.{is_there, within_number, within_room, within_room_for, number_there, number_keeps, number_sort, one_fewer, keeps_ready}
use Rattle.fs_stores.proofs.Slots.{set_stands, put_stands, append_stands, sorts_stand, sorts_stand_number}
use Rattle.fs_stores.proofs.changes.write.Goals as goal

pub returns-in-Set-clause-changed : goal.returns-in-Set-clause-changed
returns-in-Set-clause-changed c =
    let vs = c.args.values.now in
    let number = rw c.in-Set.is at c.requires in
    let there = is_there vs c.in-Set.x c.index-values-x.result (within_number vs c.in-Set.x number) in
    let f : SFits w128 c.in-Set.v = search rules in
    rw c.in-Set.is
    (simp to_z-of_z
    (set_stands vs c.in-Set.x (get_or vs c.in-Set.x c.index-values-x.result) c.in-Set.v there
    (number_there vs c.in-Set.x (get_or vs c.in-Set.x c.index-values-x.result) there number)))

pub returns-in-Set-clause-keeps : goal.returns-in-Set-clause-keeps
returns-in-Set-clause-keeps c =
    let vs = c.args.values.now in
    let number = rw c.in-Set.is at c.requires in
    let there = is_there vs c.in-Set.x c.index-values-x.result (within_number vs c.in-Set.x number) in
    let is = number_there vs c.in-Set.x (get_or vs c.in-Set.x c.index-values-x.result) there number in
    let f : SFits w128 c.in-Set.v = search rules in
    simp to_z-of_z
    (λ n. keeps_ready (suc n) n (one_fewer n) vs c.in-Set.x (get_or vs c.in-Set.x c.index-values-x.result)
    (Num c.in-Set.v) there (number_keeps (suc n) n (get_or vs c.in-Set.x c.index-values-x.result) c.in-Set.v is)
    (number_sort (get_or vs c.in-Set.x c.index-values-x.result) c.in-Set.v is))

pub returns-in-Set-clause-sorts : goal.returns-in-Set-clause-sorts
returns-in-Set-clause-sorts c =
    let vs = c.args.values.now in
    let number = rw c.in-Set.is at c.requires in
    let there = is_there vs c.in-Set.x c.index-values-x.result (within_number vs c.in-Set.x number) in
    sorts_stand_number vs c.in-Set.x c.index-values-x.result _ (number_there vs c.in-Set.x (get_or vs c.in-Set.x c.index-values-x.result) there number)

pub returns-in-Put-clause-changed : goal.returns-in-Put-clause-changed
returns-in-Put-clause-changed c =
    let vs = c.args.values.now in
    let there = is_there vs c.in-Put.x c.index-values-x-in-Put.result (within_room vs c.in-Put.x c.in-Put.i (rw c.in-Put.is at c.requires)) in
    let f : SFits w128 c.in-Put.i = search rules in
    let g : SFits w128 c.in-Put.v = search rules in
    rw c.in-Put.is
    (put_stands vs c.in-Put.x (get_or vs c.in-Put.x c.index-values-x-in-Put.result) c.write_in.new.value c.in-Put.i c.in-Put.v there
    (simp to_z-of_z at c.write_in.ensures.put))

pub returns-in-Put-clause-keeps : goal.returns-in-Put-clause-keeps
returns-in-Put-clause-keeps c =
    let vs = c.args.values.now in
    let there = is_there vs c.in-Put.x c.index-values-x-in-Put.result (within_room vs c.in-Put.x c.in-Put.i (rw c.in-Put.is at c.requires)) in
    λ n. keeps_ready (suc n) n (one_fewer n) vs c.in-Put.x (get_or vs c.in-Put.x c.index-values-x-in-Put.result) c.write_in.new.value there
    (c.write_in.ensures.keeps n) c.write_in.ensures.put.sort

pub returns-in-Put-clause-sorts : goal.returns-in-Put-clause-sorts
returns-in-Put-clause-sorts c = sorts_stand c.args.values.now c.in-Put.x c.index-values-x-in-Put.result c.write_in.new.value c.write_in.ensures.put.sort

pub returns-in-Append-clause-changed : goal.returns-in-Append-clause-changed
returns-in-Append-clause-changed c =
    let vs = c.args.values.now in
    let there = is_there vs c.in-Append.x c.index-values-x-in-Append.result (within_room_for vs c.in-Append.x 1 (rw c.in-Append.is at c.requires)) in
    let f : SFits w128 c.in-Append.v = search rules in
    rw c.in-Append.is
    (append_stands vs c.in-Append.x (get_or vs c.in-Append.x c.index-values-x-in-Append.result) c.append_in.new.value c.in-Append.v there
    (simp to_z-of_z at c.append_in.ensures.appended))

pub returns-in-Append-clause-keeps : goal.returns-in-Append-clause-keeps
returns-in-Append-clause-keeps c =
    let vs = c.args.values.now in
    let there = is_there vs c.in-Append.x c.index-values-x-in-Append.result (within_room_for vs c.in-Append.x 1 (rw c.in-Append.is at c.requires)) in
    λ n. keeps_ready (suc n) n (one_fewer n) vs c.in-Append.x (get_or vs c.in-Append.x c.index-values-x-in-Append.result) c.append_in.new.value there
    (c.append_in.ensures.keeps n) c.append_in.ensures.appended.sort

pub returns-in-Append-clause-sorts : goal.returns-in-Append-clause-sorts
returns-in-Append-clause-sorts c = sorts_stand c.args.values.now c.in-Append.x c.index-values-x-in-Append.result c.append_in.new.value
    c.append_in.ensures.appended.sort

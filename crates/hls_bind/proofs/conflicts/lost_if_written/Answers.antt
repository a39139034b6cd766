use Rattle.std.proofs.Common.{◌<◌, ◌^◌, ◌∙◌, Fits, rules, ap, sym, cond, None}
use Rattle.std.specs.Prelude.{map}
use Rattle.std.specs.Int.{w128}
use Rattle.fs_variable_sets.specs.Sets.{has_variable}
use Rattle.hls_bind.specs.BindingEntries.{binding_entry}
use Rattle.hls_bind.specs.ConflictSearch.{lost_with}
use Rattle.hls_bind.proofs.Apart.{is_below, none_lost}
use Rattle.hls_bind.proofs.conflicts.lost_if_written.Goals as goal
use Rattle.hls_bind.proofs.conflicts.lost_if_written.Goals.{else-contains-via-then-contains+else-meets, else-contains-via-else-contains}

pub returns-then-meets : goal.returns-then-meets
returns-then-meets c =
    let lost = lost_with (has_variable c.args.writes) (has_variable c.args.live) (binding_entry c.args.one.now) (map binding_entry c.args.all.now) in
    c.lost_with.ensures ∙ sym (ap (λ t. cond t lost None) (sym c.contains.ensures ∙ c.if-contains.true))

pub returns-else-contains : goal.returns-else-contains
returns-else-contains c =
    let w = has_variable c.args.writes in
    let l = has_variable c.args.live in
    let one = binding_entry c.args.one.now in
    let all = map binding_entry c.args.all.now in
    let writes_range : Fits w128 c.args.writes.bits = search rules in
    let live_range : Fits w128 c.args.live.bits = search rules in
    let writes_few : c.args.writes.bits < 2 ^ 128 = search (rules, writes_range) in
    let live_few : c.args.live.bits < 2 ^ 128 = search (rules, live_range) in
    elim c.else-contains.branch [
      | else-contains-via-then-contains+else-meets v ↦
          sym (none_lost w l (is_below c.args.writes c.args.live writes_few live_few) all one (has_variable c.args.others)
          (has_variable v.union.result) c.requires v.union.ensures (sym v.meets.ensures ∙ v.if-meets.false))
          ∙ sym (ap (λ t. cond t (lost_with w l one all) None) (sym c.contains.ensures ∙ v.if-contains.true))
      | else-contains-via-else-contains v ↦ sym (ap (λ t. cond t (lost_with w l one all) None) (sym c.contains.ensures ∙ v.if-contains.false))
    ]

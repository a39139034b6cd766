use Rattle.std.proofs.Common.{rules, ◌≡◌, ◌<◌, ◌^◌, ◌∙◌, ap, refl, List, Fits}
use Rattle.std.specs.Int.{w128}
use Rattle.std.specs.List.{slice_index_or}
use Rattle.std.proofs.lemmas.List.{get_or_read}
use Rattle.fs_variable_sets.specs.declared.VariableSet.{VariableSet}
use Rattle.fs_variable_sets.specs.Flows.{live_before}
use Rattle.fs_variable_sets.proofs.Grows.{grown}
use Rattle.fs_variable_sets.proofs.flows.grow.Goals as goal

pub returns : goal.returns
returns c =
    let live = c.args.live.now.items in
    let flow = c.args.flow.now in
    let o = c.index-old.result.now in
    let own : o ≡ slice_index_or live flow.from o = search rules in
    let read = get_or_read live flow.from o c.requires.inside.0 own (record { bits = 0 }) in
    let before = c.live_before.ensures ∙ ap (λ (s : List VariableSet). live_before c.args.reset s flow) c.as_slice.ensures.value in
    let range : Fits w128 o.bits = search rules in
    let few : o.bits < 2 ^ 128 = search (rules, range) in
    let g = grown c.args.reset live flow o c.live_before.result c.union-new.result c.requires.inside read before c.union-new.ensures _ refl few in
    record { count = g.count; stepped = g.stepped; settled = g.settled; grows = g.grows }

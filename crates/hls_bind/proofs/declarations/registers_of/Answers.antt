use Rattle.std.proofs.Common.{◌∙◌, map, sym}
use Rattle.std.proofs.lemmas.List.Filters.{dedup_is}
use Rattle.fs_model.proofs.Lists.{map_map, of_whole}
use Rattle.hls_bind.specs.declared.binding.BoundLocal.{BoundLocal}
use Rattle.hls_bind.specs.BindingEntries.{binding_entry}
use Rattle.hls_bind.proofs.Filled.{put, more_in}
use Rattle.hls_bind.proofs.Ordered.{are}
use Rattle.hls_bind.proofs.declarations.registers_of.Goals as goal

pub loop-entry-preserved : goal.loop-entry-preserved
loop-entry-preserved c =
    more_in (λ (e : BoundLocal). e.register) c.args.entries.now c.loop-entry.entry-index c.entry-item.result _ _ c.loop-entry-test.true c.entry-item.is
    (put c.try_clone.result _ _ c.entry-item.result.register c.in_ok-push_made.ensures c.try_clone.ensures) c.loop-entry.invariant

pub returns : goal.returns
returns c =
    let whole = of_whole (map (λ (e : BoundLocal). e.register)) c.args.entries.now c.loop-entry.entry-index _ c.loop-entry-test.false c.loop-entry.invariant in
    are (map binding_entry c.args.entries.now) _ _ _ c.requires (whole ∙ sym (map_map (λ e. e.1) binding_entry c.args.entries.now))
    c.sort_unstable.ensures.permutation c.sort_unstable.ensures.sorted (dedup_is _ _ _ c.dedup.ensures.filtered)

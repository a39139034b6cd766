use Rattle.std.proofs.Common.{ℕ, List, ◌∙◌, sym, ap, subst, length}
use Rattle.hls_block_filling.specs.ItemUnits.{units_in}
use Rattle.hls_block_filling.specs.Heights.{greatest}
use Rattle.hls_block_filling.specs.Filling.{filling_of}
use Rattle.hls_block_filling.specs.declared.profiles.Profile.{Profile}
use Rattle.hls_block_filling.specs.Profiles.{graph_in}
use Rattle.hls_block_filling.specs.KnownHeights.{AreLowHeights}
use Rattle.hls_block_filling.specs.Plans.{AreJoined}
use Rattle.hls_block_filling.proofs.Planned.{plan_is, chain_is}
use Rattle.hls_block_filling.proofs.plan.make_plan.Goals as goal

pub chain-requires-clause-low : goal.chain-requires-clause-low
chain-requires-clause-low c =
    subst (λ (hs : List ℕ). AreLowHeights (length hs) 0 hs) (sym c.as_slice-3.ensures.value)
    (subst (λ (n : ℕ). AreLowHeights n 0 c.in_ok-heights.heights.items) (sym c.in_ok-heights.ensures.count) c.in_ok-heights.ensures.low)

pub returns-clause-rows : goal.returns-clause-rows
returns-clause-rows c = λ items are.
    c.in_ok-rows.ensures.filling
    ∙ ap (λ (t : List Profile). filling_of (graph_in t) (units_in c.args.units.now)) c.as_slice-2.ensures.value
    ∙ plan_is c.args.effects.now c.args.uses.now items are c.in_ok-heights.heights.items c.in_ok-table.table.items
    (units_in c.args.units.now) c.in_ok-heights.ensures.heights c.in_ok-heights.ensures.count
    (subst (λ (hs : List ℕ). AreJoined c.args.effects.now hs c.args.uses.now c.in_ok-table.table.items) c.as_slice.ensures.value c.in_ok-table.ensures)

pub returns-clause-chain : goal.returns-clause-chain
returns-clause-chain c = λ items are. c.chain.ensures ∙ ap greatest c.as_slice-3.ensures.value
    ∙ chain_is c.args.effects.now c.args.uses.now items are c.in_ok-heights.heights.items c.in_ok-heights.ensures.heights c.in_ok-heights.ensures.count

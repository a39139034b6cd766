use Rattle.std.proofs.Common.{◌∙◌, [], ap, map}
use Rattle.hls_block_filling.specs.ItemUnits.{units_in}
use Rattle.hls_block_filling.specs.BasicBlocks.{firsts}
use Rattle.fs_model.specs.declared.parts.StateId.{StateId}
use Rattle.fs_model.proofs.Lists.{same_there}
use Rattle.hls_sched.specs.TracedBlocks.{moves_from}
use Rattle.hls_sched.specs.Reports.{report_of, report_at}
use Rattle.fs_model.proofs.Adding.{map_push_made}
use Rattle.hls_sched.proofs.Copied.{map_behind_start_grows, was_made, flat_more, flat_end}
use Rattle.hls_sched.proofs.Gathered.{reports_end}
use Rattle.hls_sched.proofs.scheduling.schedule_blocks.Goals as goal

pub loop-first-preserved : goal.loop-first-preserved
loop-first-preserved c =
    let units = units_in c.args.units.now in
    let m = c.args.m.now in
    let starts = c.deref-first-items.result.now in
    let i = c.loop-first.first-index in
    let low = c.loop-first-test.true in
    let old = c.loop-first.invariant in
    record {
      reports = map_behind_start_grows (λ (q : StateId). report_at units m q.0) [] starts i _ _ _ low (same_there starts i _ _ low)
          (map_push_made report_of c.schedule_block.result _ _ _ c.in_ok-push_made.ensures c.schedule_block.ensures.report) old.reports;
      moves = λ p. flat_more (moves_from units p m) (λ (q : StateId). q.0) starts i _ _ _ low (same_there starts i _ _ low)
          (was_made c.schedule_block.result _ _ c.in_ok-push_made.ensures c.schedule_block.ensures.moves p) (old.moves p);
      among = was_made c.schedule_block.result _ _ c.in_ok-push_made.ensures c.schedule_block.ensures.among;
    }

pub returns-clause-reports : goal.returns-clause-reports
returns-clause-reports c =
    reports_end (units_in c.args.units.now) c.args.m.now c.deref-first-items.result.now c.loop-first.first-index _ c.loop-first-test.false
    (ap (map (λ (s : StateId). s.0)) c.deref-first-items.ensures.value ∙ c.in_ok-firsts.ensures.states) c.loop-first.invariant.reports

pub returns-clause-moves : goal.returns-clause-moves
returns-clause-moves c = λ p.
    flat_end (moves_from (units_in c.args.units.now) p c.args.m.now) (λ (s : StateId). s.0) c.deref-first-items.result.now
    (firsts c.args.m.now) c.loop-first.first-index _ c.loop-first-test.false
    (ap (map (λ (s : StateId). s.0)) c.deref-first-items.ensures.value ∙ c.in_ok-firsts.ensures.states) (c.loop-first.invariant.moves p)

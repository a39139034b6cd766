use Rattle.std.proofs.Common.{◌∙◌, sym}
use Rattle.hls_block_filling.specs.BasicBlocks.{sources}
use Rattle.hls_sched.proofs.Noting.{one_source, not_only}
use Rattle.hls_sched.proofs.Tracing.{only_source_in, inner_by, not_inner}
use Rattle.hls_sched.proofs.blocks.is_inner.Goals as goal

pub follows-requires-clause-first : goal.follows-requires-clause-first
follows-requires-clause-first c =
    let m = c.args.m.now in
    let r = c.args.state.0 in
    only_source_in m c.in-Once.from.0 r (one_source c.in-Once.from (sources m r) (sym c.in-Once.is ∙ c.requires.arrivals.known r c.requires.within))

pub returns-in-Once : goal.returns-in-Once
returns-in-Once c =
    let m = c.args.m.now in
    let r = c.args.state.0 in
    c.follows.ensures ∙ inner_by m c.in-Once.from.0 r
    (one_source c.in-Once.from (sources m r) (sym c.in-Once.is ∙ c.requires.arrivals.known r c.requires.within))

pub returns-in_default : goal.returns-in_default
returns-in_default c =
    let m = c.args.m.now in
    let r = c.args.state.0 in
    not_inner m r (λ q. not_only _ q (sources m r) c.in_default.not-Once (c.requires.arrivals.known r c.requires.within))

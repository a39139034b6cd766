use Rattle.std.proofs.Common.{[], arith}
use Rattle.term_text.proofs.Steps.{found, missing, rest_after_shorter}
use Rattle.term_values.specs.SumTallies.{HasTally}
use Rattle.term_values.proofs.Tallies.{refusal_passes, at_space, ends}
use Rattle.term_values.proofs.sums.tally_of.Goals as goal

pub loop-after-init : goal.loop-after-init
loop-after-init g c = c.in_ok-tally.ensures

pub loop-after-preserved : goal.loop-after-preserved
loop-after-preserved g c =
    let find = g.N.Names.find c.args.names.now in
    let bytes = c.args.bytes.now in
    let rest = c.loop-after.rest.now in
    let there = found c.rest_after.result c.in-Some.after 32 rest c.rest_after.ensures.rest c.in-Some.is in
    c.in_ok-next-in-Some.ensures.tallied bytes (at_space find bytes rest c.in-Some.after.now c.loop-after.tally c.loop-after.invariant there)

pub loop-after-smaller : goal.loop-after-smaller
loop-after-smaller g c =
    let rest = c.loop-after.rest.now in
    let there = found c.rest_after.result c.in-Some.after 32 rest c.rest_after.ensures.rest c.in-Some.is in
    omega (arith, rest_after_shorter 32 rest c.in-Some.after.now there, c.in_ok-next-in-Some.ensures.shorter)

pub returns-in_err-tally : goal.returns-in_err-tally
returns-in_err-tally g c =
    let find = g.N.Names.find c.args.names.now in
    let bytes = c.args.bytes.now in
    refusal_passes bytes (λ x. HasTally find bytes x.1.now x.0) (HasTally find bytes []) c.from_residual.result c.in_err-tally.field-0.0
    c.from_residual.ensures.1 c.in_err-tally.ensures

pub returns-in_err-next-in-Some : goal.returns-in_err-next-in-Some
returns-in_err-next-in-Some g c =
    let find = g.N.Names.find c.args.names.now in
    let bytes = c.args.bytes.now in
    let rest = c.loop-after.rest.now in
    let there = found c.rest_after.result c.in-Some.after 32 rest c.rest_after.ensures.rest c.in-Some.is in
    refusal_passes bytes (λ x. HasTally find bytes x.1.now x.0) (HasTally find bytes []) c.from_residual-in_err-next-in-Some.result
    c.in_err-next-in-Some.field-0.0 c.from_residual-in_err-next-in-Some.ensures.1
    (c.in_err-next-in-Some.ensures.tallied bytes (at_space find bytes rest c.in-Some.after.now c.loop-after.tally c.loop-after.invariant there))

pub returns-in-None : goal.returns-in-None
returns-in-None g c =
    let rest = c.loop-after.rest.now in
    let nothing = missing c.rest_after.result 32 rest c.rest_after.ensures.rest c.in-None.is in
    ends (g.N.Names.find c.args.names.now) c.args.bytes.now rest c.loop-after.tally c.whole_tally.result c.loop-after.invariant nothing
    c.whole_tally.ensures.whole c.whole_tally.ensures.more

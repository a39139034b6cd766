use Rattle.std.proofs.Common.{rules, ◌≡◌, ◌∙◌, Err, ap}
use Rattle.nf_terms.specs.Computed.{Done}
use Rattle.nf_substitution.proofs.Following.{stopped}
use Rattle.propagate_equations.specs.View.{freed_in}
use Rattle.propagate_equations.proofs.FirstTie.{first_tie, no_tie, tie_stops, join_turn}
use Rattle.propagate_equations.proofs.ties.number_tied.Goals as goal

pub returns-in_err-tie-clause-answers : goal.returns-in_err-tie-clause-answers
returns-in_err-tie-clause-answers c =
    let event = c.in_err-tie.field-0.0 in
    let o : c.from_residual.result ≡ Err event = search rules in
    stopped c.from_residual.result event _ o
    (tie_stops _ _ _
    (join_turn freed_in c.args.v.now c.args.p.now c.args.number.now _ c.args.freed.now c.loop-other.other-index c.other-item.result c.loop-other-test.true
    c.other-item.is c.loop-other.invariant.rest) event c.in_err-tie.ensures.answers)

pub returns-in-Some-clause-answers : goal.returns-in-Some-clause-answers
returns-in-Some-clause-answers c =
    first_tie _ _ _
    (join_turn freed_in c.args.v.now c.args.p.now c.args.number.now _ c.args.freed.now c.loop-other.other-index c.other-item.result c.loop-other-test.true
    c.other-item.is c.loop-other.invariant.rest) c.in-Some.tie (c.in_ok-tie.ensures.answers ∙ ap Done c.in-Some.is)

pub loop-other-preserved : goal.loop-other-preserved
loop-other-preserved c = record {
  vector = c.in_ok-tie.ensures.vector ∙ c.loop-other.invariant.vector;
  rest = no_tie _ _ _
      (join_turn freed_in c.args.v.now c.args.p.now c.args.number.now _ c.args.freed.now c.loop-other.other-index c.other-item.result c.loop-other-test.true
      c.other-item.is c.loop-other.invariant.rest)
      (c.in_ok-tie.ensures.answers ∙ ap Done c.in_default.is);
}

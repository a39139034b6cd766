use Rattle.std.proofs.Common.{rules, ◌≡◌, ◌∙◌, Err, ap}
use Rattle.nf_terms.specs.Computed.{Done}
use Rattle.fs_model.proofs.Lists.{same_there}
use Rattle.nf_substitution.proofs.Following.{stopped}
use Rattle.propagate_equations.proofs.FirstTie.{first_tie, no_tie, tie_stops, rebase_turn}
use Rattle.propagate_equations.proofs.equations.number_tied.Goals as goal

pub returns-in_err-tie-clause-answers : goal.returns-in_err-tie-clause-answers
returns-in_err-tie-clause-answers c =
    let event = c.in_err-tie.field-0.0 in
    let o : c.from_residual.result ≡ Err event = search rules in
    let freed = c.args.freed.now in
    let i = c.loop-q.q-index in
    stopped c.from_residual.result event _ o
    (tie_stops _ _ _
    (rebase_turn c.args.v.now c.args.meanings.now c.args.number.now _ freed i _ c.loop-q-test.true (same_there freed i _ _ c.loop-q-test.true)
    c.loop-q.invariant.rest) event c.in_err-tie.ensures.answers)

pub returns-in-Some-clause-answers : goal.returns-in-Some-clause-answers
returns-in-Some-clause-answers c =
    let freed = c.args.freed.now in
    let i = c.loop-q.q-index in
    first_tie _ _ _
    (rebase_turn c.args.v.now c.args.meanings.now c.args.number.now _ freed i _ c.loop-q-test.true (same_there freed i _ _ c.loop-q-test.true)
    c.loop-q.invariant.rest) c.in-Some.tie (c.in_ok-tie.ensures.answers ∙ ap Done c.in-Some.is)

pub loop-q-preserved : goal.loop-q-preserved
loop-q-preserved c =
    let freed = c.args.freed.now in
    let i = c.loop-q.q-index in
    record {
      vector = c.in_ok-tie.ensures.vector ∙ c.loop-q.invariant.vector;
      rest = no_tie _ _ _
          (rebase_turn c.args.v.now c.args.meanings.now c.args.number.now _ freed i _ c.loop-q-test.true
          (same_there freed i _ _ c.loop-q-test.true) c.loop-q.invariant.rest)
          (c.in_ok-tie.ensures.answers ∙ ap Done c.in_default.is);
    }

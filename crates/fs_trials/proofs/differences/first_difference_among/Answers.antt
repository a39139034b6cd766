use Rattle.std.proofs.Common.{arith, ◌≡◌, ◌<◌, ◌∙◌, ap, subst}
use Rattle.std.specs.Prelude.{IfSome}
use Rattle.fs_stores.specs.InputValues.{inputs_of, signatures_of}
use Rattle.fs_run_text.proofs.Serving.{serves_both}
use Rattle.fs_trials.specs.Candidates.{candidate_count, candidate_contents, stated_count}
use Rattle.fs_trials.specs.Differences.{DiffersAt, AreApart}
use Rattle.fs_trials.proofs.Apart.{stated_here, at_candidate, shown_at, holds_below_next, all_below}
use Rattle.fs_trials.proofs.differences.first_difference_among.Goals as goal

pub inputs-requires : goal.inputs-requires
inputs-requires c = subst (λ n. c.loop-j.j < n) c.count-j-end.ensures c.loop-j-test.true

pub differing_ends-requires-clause-left : goal.differing_ends-requires-clause-left
differing_ends-requires-clause-left c = c.in_ok-inputs.ensures.serves

pub differing_ends-requires-clause-right : goal.differing_ends-requires-clause-right
differing_ends-requires-clause-right c = serves_both c.args.a.now c.args.b.now
    (signatures_of c.in_ok-inputs.inputs) c.requires.interfaces c.in_ok-inputs.ensures.signatures

pub loop-j-preserved : goal.loop-j-preserved
loop-j-preserved c =
    let a = c.args.a.now in
    let b = c.args.b.now in
    let ins = inputs_of c.in_ok-inputs.inputs in
    holds_below_next (λ i. ¬ DiffersAt a b c.args.steps i) c.loop-j.j c.loop-j.invariant
    (at_candidate a b c.args.steps c.loop-j.j ins
    (stated_here a b c.loop-j.j c.in_ok-candidates.candidates.pool.items ins c.in_ok-inputs.ensures.inputs c.in_ok-candidates.ensures)
    (c.in_ok-left.ensures.none c.in_default.is))

pub returns-in-Some-clause-number : goal.returns-in-Some-clause-number
returns-in-Some-clause-number c =
    let total : c.count-j-end.result ≡ stated_count c.args.a.now c.args.b.now = c.count-j-end.ensures ∙ ap candidate_count c.in_ok-candidates.ensures in
    subst (λ n. c.loop-j.j < n) total c.loop-j-test.true

pub returns-in-Some-clause-signatures : goal.returns-in-Some-clause-signatures
returns-in-Some-clause-signatures c = c.in_ok-inputs.ensures.signatures

pub returns-in-Some-clause-ends : goal.returns-in-Some-clause-ends
returns-in-Some-clause-ends c =
    subst (λ o. IfSome o (λ p. AreApart c.args.a.now c.args.b.now (inputs_of c.in_ok-inputs.inputs) c.args.steps p.0 p.1)) c.in-Some.is
    c.in_ok-left.ensures.found

pub returns-in-Some-clause-first : goal.returns-in-Some-clause-first
returns-in-Some-clause-first c = c.loop-j.invariant

pub returns-in-Some-clause-inputs : goal.returns-in-Some-clause-inputs
returns-in-Some-clause-inputs c =
    stated_here c.args.a.now c.args.b.now c.loop-j.j c.in_ok-candidates.candidates.pool.items
    (inputs_of c.in_ok-inputs.inputs) c.in_ok-inputs.ensures.inputs c.in_ok-candidates.ensures

pub returns-in-Some-clause-contents : goal.returns-in-Some-clause-contents
returns-in-Some-clause-contents c =
    c.in_ok-inputs.ensures.contents ∙ ap (λ pool. candidate_contents pool c.loop-j.j c.args.a.now) c.in_ok-candidates.ensures

pub returns-in-Some-clause-shows : goal.returns-in-Some-clause-shows
returns-in-Some-clause-shows c =
    let a = c.args.a.now in
    let b = c.args.b.now in
    let ins = inputs_of c.in_ok-inputs.inputs in
    shown_at a b c.args.steps c.loop-j.j ins c.in-Some.left c.in-Some.right (returns-in-Some-clause-inputs c) (returns-in-Some-clause-ends c)

pub returns-then-most-j-clause-none : goal.returns-then-most-j-clause-none
returns-then-most-j-clause-none c = λ _ i small _. c.loop-j.invariant i (omega arith)

pub returns-clause-none : goal.returns-clause-none
returns-clause-none c =
    let a = c.args.a.now in
    let b = c.args.b.now in
    let total : c.count-j-end.result ≡ stated_count a b = c.count-j-end.ensures ∙ ap candidate_count c.in_ok-candidates.ensures in
    λ _ i _ below. all_below (λ j. ¬ DiffersAt a b c.args.steps j) c.loop-j.j c.count-j-end.result (stated_count a b) c.loop-j.invariant
    c.loop-j-test.false total i below

use Rattle.std.proofs.Common.{◌+◌, drop, arith}
use Rattle.nf_trees.specs.View.{monomial_in}
use Rattle.nf_sums.specs.RawSumForms.{with_terms}
use Rattle.nf_sums.proofs.Terms.{terms_in}
use Rattle.nf_sums.proofs.Grown.{grown, at_term}
use Rattle.nf_sums.proofs.accumulator.add_all.Goals as goal

pub loop-mono-preserved : goal.loop-mono-preserved
loop-mono-preserved c =
    let i = c.loop-mono.mono-index in
    let ts = c.args.terms.now in
    let sum = c.loop-mono.sum in
    let x = c.loop-mono-item.result in
    let next = c.add_term.new.sum in
    let whole = with_terms (terms_in c.args.sum.now.terms.items) (terms_in ts) in
    grown (terms_in sum.terms.items) sum.size sum.weight (monomial_in x.0) x.1 (terms_in (drop (i + 1) ts)) whole
    (at_term ts i (terms_in sum.terms.items) sum.size sum.weight whole c.loop-mono.invariant x (omega (arith, c.loop-mono-test.true)) c.loop-mono-item.is)
    (terms_in next.terms.items) next.size next.weight c.in_ok-add_term.ensures.sum c.in_ok-add_term.ensures.measured

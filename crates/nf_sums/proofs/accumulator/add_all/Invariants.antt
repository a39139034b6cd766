use Rattle.std.proofs.Common.{drop}
use Rattle.nf_sums.specs.RawSumForms.{with_terms}
use Rattle.nf_sums.proofs.Terms.{terms_in}
use Rattle.nf_sums.proofs.Grown.{Growing}
use Rattle.nf_sums.proofs.accumulator.add_all.Given as goal

abbrev pub invariant-loop-mono : goal.invariant-loop-mono
invariant-loop-mono l = Growing (terms_in l.sum.terms.items) l.sum.size l.sum.weight (terms_in (drop l.mono-index l.terms))
    (with_terms (terms_in l.initial.sum.terms.items) (terms_in l.terms))

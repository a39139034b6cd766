use Rattle.std.proofs.Common.{subst}
use Rattle.nf_trees.specs.NormalTerms.{Polynomial}
use Rattle.nf_terms.specs.Computed.{Answers}
use Rattle.nf_substitution.specs.Substitution.{polynomial_substituted}
use Rattle.nf_substitution.proofs.Known.{known_more}
use Rattle.nf_substitution.proofs.kept_terms.keep_tree.Goals as goal

pub sum_value-requires-clause-known : goal.sum_value-requires-clause-known
sum_value-requires-clause-known c = known_more c.args.vector.now c.args.bank.now c.put_sum.new.bank c.args.memo.now c.in_ok-terms.ensures.front c.requires

pub returns-clause-answers : goal.returns-clause-answers
returns-clause-answers c =
    subst (λ p. Answers {T = Polynomial} c.sum_value.result (polynomial_substituted c.args.vector.now p)) c.in_ok-terms.ensures.spelled.is
    c.sum_value.ensures.answers

pub returns-in_err-terms-clause-known : goal.returns-in_err-terms-clause-known
returns-in_err-terms-clause-known c = known_more c.args.vector.now c.args.bank.now c.put_sum.new.bank c.args.memo.now c.in_err-terms.ensures.front c.requires

use Rattle.std.proofs.Common.{subst}
use Rattle.nf_trees.specs.NormalTerms.{Polynomial}
use Rattle.nf_terms.specs.Computed.{Answers}
use Rattle.nf_substitution.specs.Keeping.{VectorWithAtoms}
use Rattle.nf_substitution.specs.Substitution.{polynomial_substituted}
use Rattle.nf_substitution.proofs.Values.{poly_answer}
use Rattle.nf_substitution.proofs.subst.subst_poly.Goals as goal

pub returns-clause-answers : goal.returns-clause-answers
returns-clause-answers c =
    subst (λ (s : VectorWithAtoms). Answers {T = Polynomial} c.poly.result (polynomial_substituted s.vector c.args.p.now)) c.new.ensures c.poly.ensures.answers

pub returns-clause-value : goal.returns-clause-value
returns-clause-value c = poly_answer c.args.v.now c.args.p.now c.poly.result
    (subst (λ (s : VectorWithAtoms). Answers {T = Polynomial} c.poly.result (polynomial_substituted s.vector c.args.p.now)) c.new.ensures
    c.poly.ensures.answers)

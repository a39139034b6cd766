use Rattle.std.proofs.Common.{subst}
use Rattle.nf_trees.specs.NormalTerms.{ArrayTerm}
use Rattle.nf_terms.specs.Computed.{Answers}
use Rattle.nf_substitution.specs.Keeping.{VectorWithAtoms}
use Rattle.nf_substitution.specs.Substitution.{array_substituted}
use Rattle.nf_substitution.proofs.Values.{arr_answer}
use Rattle.nf_substitution.proofs.subst.subst_arr.Goals as goal

pub returns-clause-answers : goal.returns-clause-answers
returns-clause-answers c =
    subst (λ (s : VectorWithAtoms). Answers {T = ArrayTerm} c.arr.result (array_substituted s.vector c.args.a.now)) c.new.ensures c.arr.ensures.answers

pub returns-clause-value : goal.returns-clause-value
returns-clause-value c = arr_answer c.args.v.now c.args.a.now c.arr.result
    (subst (λ (s : VectorWithAtoms). Answers {T = ArrayTerm} c.arr.result (array_substituted s.vector c.args.a.now)) c.new.ensures c.arr.ensures.answers)

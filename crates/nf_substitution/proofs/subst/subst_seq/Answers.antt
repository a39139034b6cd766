use Rattle.std.proofs.Common.{subst}
use Rattle.nf_terms.specs.Lists.{ListTerm}
use Rattle.nf_terms.specs.Computed.{Answers}
use Rattle.nf_substitution.specs.Keeping.{VectorWithAtoms}
use Rattle.nf_substitution.specs.Substitution.{list_substituted}
use Rattle.nf_substitution.proofs.Values.{seq_answer}
use Rattle.nf_substitution.proofs.subst.subst_seq.Goals as goal

pub returns-clause-answers : goal.returns-clause-answers
returns-clause-answers c =
    subst (λ (s : VectorWithAtoms). Answers {T = ListTerm} c.seq.result (list_substituted s.vector c.args.l.now)) c.new.ensures c.seq.ensures.answers

pub returns-clause-value : goal.returns-clause-value
returns-clause-value c = seq_answer c.args.v.now c.args.l.now c.seq.result
    (subst (λ (s : VectorWithAtoms). Answers {T = ListTerm} c.seq.result (list_substituted s.vector c.args.l.now)) c.new.ensures c.seq.ensures.answers)

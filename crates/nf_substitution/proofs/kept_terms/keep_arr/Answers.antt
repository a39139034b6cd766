use Rattle.std.proofs.Common.{subst}
use Rattle.nf_trees.specs.NormalTerms.{ArrayTerm}
use Rattle.nf_terms.specs.Computed.{Answers}
use Rattle.nf_substitution.specs.Substitution.{array_substituted}
use Rattle.nf_substitution.proofs.Known.{known_more}
use Rattle.nf_substitution.proofs.kept_terms.keep_arr.Goals as goal

pub array_value-requires-clause-known : goal.array_value-requires-clause-known
array_value-requires-clause-known c = known_more c.args.vector.now c.args.bank.now c.put_array.new.bank c.args.memo.now c.in_ok-array.ensures.front c.requires

pub returns-clause-answers : goal.returns-clause-answers
returns-clause-answers c =
    subst (λ a. Answers {T = ArrayTerm} c.array_value.result (array_substituted c.args.vector.now a)) c.in_ok-array.ensures.spelled.is
    c.array_value.ensures.answers

pub returns-in_err-array-clause-known : goal.returns-in_err-array-clause-known
returns-in_err-array-clause-known c = known_more c.args.vector.now c.args.bank.now c.put_array.new.bank c.args.memo.now c.in_err-array.ensures.front c.requires

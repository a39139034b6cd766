use Rattle.std.proofs.Common.{subst}
use Rattle.fsmd_pair_answers.specs.PairAnswers.{IsPairAnswer}
use Rattle.fsmd_answers.proofs.Maps.{ok_map}
use Rattle.fsmd_answers.proofs.Pairs.{left_open}
use Rattle.fsmd_answers.proofs.compare.compare.Goals as goal

pub returns-in-Ok-Equivalent : goal.returns-in-Ok-Equivalent
returns-in-Ok-Equivalent c = ok_map _ _ (λ x h. h c.args.steps) c.equivalent_answer.result c.equivalent_answer.ensures

pub returns-in-Ok-Undecided : goal.returns-in-Ok-Undecided
returns-in-Ok-Undecided c =
    let a = c.args.pair.now.left in
    let b = c.args.pair.now.right in
    let h = subst (IsPairAnswer c.args.steps a b) c.in-Ok-Undecided.field-0-is c.in-Ok-Undecided.ensures.answers in
    ok_map _ _ (λ x e. left_open c.args.steps c.args.keeps a b c.in-Ok-Undecided.outcome x h e) c.undecided_answer.result c.undecided_answer.ensures

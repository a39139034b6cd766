use Rattle.std.proofs.Common.{◌≡◌, ◌∙◌, ap}
use Rattle.fs_trials.specs.Candidates.{candidate_count, stated_count}
use Rattle.fs_trials.specs.Differences.{DiffersAt}
use Rattle.fs_trials.proofs.Apart.{none_of_all}
use Rattle.fs_trials.proofs.differences.first_difference.Goals as goal

pub returns-clause-none : goal.returns-clause-none
returns-clause-none c =
    let a = c.args.a.now in
    let b = c.args.b.now in
    let total : c.count-most.result ≡ stated_count a b = c.count-most.ensures ∙ ap candidate_count c.in_ok-of.ensures in
    none_of_all (λ i. ¬ DiffersAt a b c.args.steps i) c.count-most.result (stated_count a b) c.first_difference_among.result total
    c.first_difference_among.ensures.none

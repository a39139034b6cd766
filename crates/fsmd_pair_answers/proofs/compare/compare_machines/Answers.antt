use Rattle.std.specs.Prelude.{map}
use Rattle.std.proofs.Common.{subst}
use Rattle.cert_model.specs.View.{node_of}
use Rattle.search_tables.specs.SearchTables.{machines}
use Rattle.search_laws.specs.SearchOutcomes.{IsSearchOutcome}
use Rattle.fsmd_pair_answers.proofs.Alike.{answered_where_alike}
use Rattle.fsmd_pair_answers.proofs.Shown.{closed_shows}
use Rattle.fsmd_pair_answers.proofs.compare.compare_machines.Goals as goal

pub returns-in-Closed-clause-answers : goal.returns-in-Closed-clause-answers
returns-in-Closed-clause-answers c =
    let a = c.args.a.now in
    let b = c.args.b.now in
    closed_shows a b (map node_of c.in-Closed.cert.nodes.items)
    (subst (IsSearchOutcome (machines a b)) c.in-Closed.is c.in_ok-outcome.ensures.answers)

pub returns-in-Closed-clause-alike : goal.returns-in-Closed-clause-alike
returns-in-Closed-clause-alike c =
    λ K alike. subst (IsSearchOutcome (machines c.args.a.now c.args.b.now)) c.in-Closed.is c.in_ok-outcome.ensures.answers

pub returns-in-Stuck-clause-alike : goal.returns-in-Stuck-clause-alike
returns-in-Stuck-clause-alike c =
    answered_where_alike c.args.steps c.args.a.now c.args.b.now c.go_beyond.result c.go_beyond.ensures.answers

pub returns-in-Wide-clause-alike : goal.returns-in-Wide-clause-alike
returns-in-Wide-clause-alike c =
    answered_where_alike c.args.steps c.args.a.now c.args.b.now c.try_candidates.result c.try_candidates.ensures.answers

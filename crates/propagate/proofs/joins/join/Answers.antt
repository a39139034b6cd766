use Rattle.std.proofs.Common.{rules, ◌≡◌, [], map, ap, sym, subst, ◌∙◌}
use Rattle.nf_rel.specs.View.{literal_in}
use Rattle.sym_paths.specs.View.{post_in}
use Rattle.sym_facts.specs.View.{position_in, missing_in}
use Rattle.nf_terms.specs.Computed.{Answers, Done, after}
use Rattle.propagate.specs.Joins.{join}
use Rattle.propagate.specs.JoinSteps.{joined_from, literals_from}
use Rattle.propagate.proofs.JoinTurns.{made, join_in_turn}
use Rattle.propagate.proofs.JoinPaired.{joined_with, join_kept}
use Rattle.propagate.proofs.joins.join.Goals as goal

pub of-requires : goal.of-requires
of-requires c =
    let old = c.args.old.now in
    let post = post_in c.args.post.now in
    let missing = missing_in c.args.miss.now in
    let given = map position_in c.positions.result.now in
    let known = map literal_in c.conds.result.now in
    let qs = map position_in c.in_ok-positions.positions.items in
    let ls = map literal_in c.in_ok-conds.conds.items in
    let joined = joined_with old post missing given qs known ls c.requires.missing c.positions.ensures.same
    (ap (λ m. joined_from post.vector 0 m [] given) (sym c.as_slice.ensures.value) ∙ c.in_ok-positions.ensures) c.conds.ensures.same
    (c.in_ok-conds.ensures ∙ ap (λ m. literals_from 0 m known) c.as_slice-2.ensures.value) in
    join_kept c.args.p.now old (record { positions = qs; literals = ls }) post missing joined c.holds.ensures c.requires.pairing c.holds-2.ensures

pub returns-in_err-positions : goal.returns-in_err-positions
returns-in_err-positions c =
    let old = c.args.old.now in
    let post = post_in c.args.post.now in
    let missing = missing_in c.args.miss.now in
    let given = map position_in c.positions.result.now in
    let k : after (joined_from post.vector 0 c.as_slice.result.now [] given) (λ qs. made (literals_from 0 missing.literals old.literals) qs)
    ≡ join old post missing =
    ap (λ m. after (joined_from post.vector 0 m [] given) (λ qs. made (literals_from 0 missing.literals old.literals) qs)) c.as_slice.ensures.value
    ∙ ap (λ ps. after (joined_from post.vector 0 missing.equations [] ps) (λ qs. made (literals_from 0 missing.literals old.literals) qs))
    c.positions.ensures.same
    ∙ join_in_turn old post missing c.requires.missing in
    subst (λ z. Answers c.from_residual.result z) k (search rules)

pub returns : goal.returns
returns c =
    let old = c.args.old.now in
    let post = post_in c.args.post.now in
    let missing = missing_in c.args.miss.now in
    let given = map position_in c.positions.result.now in
    let known = map literal_in c.conds.result.now in
    let qs = map position_in c.in_ok-positions.positions.items in
    let ls = map literal_in c.in_ok-conds.conds.items in
    joined_with old post missing given qs known ls c.requires.missing c.positions.ensures.same
    (ap (λ m. joined_from post.vector 0 m [] given) (sym c.as_slice.ensures.value) ∙ c.in_ok-positions.ensures) c.conds.ensures.same
    (c.in_ok-conds.ensures ∙ ap (λ m. literals_from 0 m known) c.as_slice-2.ensures.value) ∙ ap Done (sym c.of.ensures)

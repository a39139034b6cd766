use Rattle.std.proofs.Common.{◌≡◌, rules, ap, sym, ◌∙◌, subst, Err}
use Rattle.nf_terms.specs.Computed.{Done}
use Rattle.search_places.specs.View.{node_record_in}
use Rattle.search_worklist.specs.States.{records}
use Rattle.search_worklist.specs.Trials.{TriesAt}
use Rattle.search_worklist.specs.View.{machines_in}
use Rattle.search_worklist.proofs.Legal.{node_in}
use Rattle.search_worklist.proofs.NodeWays.{ways_tell, refuted_tries, stopped_tries}
use Rattle.search_worklist.proofs.trials.try_by_ways.Goals as goal

pub returns-then-branch : goal.returns-then-branch
returns-then-branch c =
    let m = machines_in c.args.m.now in
    let ls = records c.args.state.now in
    let l = node_record_in c.node_at-from.result in
    let at = c.args.at in
    refuted_tries m ls at l _ c.node_at-from.ensures
    (ways_tell c.outcomes_tell_refuted_arrivals.ensures m ls c.args.ways.now l at c.requires.kept
    (node_in m ls c.requires.made at.node l c.node_at-from.ensures) c.requires.same)
    (c.in_ok-refutes.ensures ∙ ap Done c.if-branch.true)

pub returns-in_err-refutes : goal.returns-in_err-refutes
returns-in_err-refutes c =
    let m = machines_in c.args.m.now in
    let ls = records c.args.state.now in
    let l = node_record_in c.node_at-from.result in
    let at = c.args.at in
    let s = c.in_err-refutes.field-0.0 in
    let stopped : c.from_residual.result ≡ Err s = search rules in
    subst (λ r. TriesAt m ls at r) (sym stopped)
    (stopped_tries m ls at l _ s c.node_at-from.ensures
    (ways_tell c.outcomes_tell_refuted_arrivals.ensures m ls c.args.ways.now l at c.requires.kept
    (node_in m ls c.requires.made at.node l c.node_at-from.ensures) c.requires.same)
    c.in_err-refutes.ensures)
